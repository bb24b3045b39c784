use Rattle.std.proofs.Common.{ap, subst, sym}
use Rattle.std.specs.Map.{keys_of}
use Rattle.cite_kept.specs.KeptValues.{UnusedFrom}
use Rattle.cite_kept.specs.declared.kept.Kept.TheInside.{Inside}
use Rattle.cite_kept.proofs.Unused.{unused-keys}
use Rattle.cite_kept.proofs.kept.Kept.ask.Goals as goal
use Rattle.cite_kept.proofs.kept.Kept.ask.Goals.{in-Some, in_default}

pub invariant_of-self : goal.invariant_of-self
invariant_of-self g c =
    let cmp = g.K.Ord.cmp in
    let IsUnused : Inside g.row.K.Denot g.row.V.Denot → Type 0 = λ i. UnusedFrom cmp i.versions.given i.values.entries in
    let old = c.self.inside in
    elim c.match-get_mut.branch [
      | in-Some w ↦ subst IsUnused (sym w.self-inside-is) (unused-keys cmp old.versions.given old.values.entries _ c.self.invariant (c.get_mut.follows.holds _).1)
      | in_default w ↦ subst IsUnused (sym w.self-inside-is)
          (unused-keys cmp old.versions.given old.values.entries _ c.self.invariant (ap (λ m. keys_of m.entries) c.get_mut.follows.holds-at-none))
    ]
