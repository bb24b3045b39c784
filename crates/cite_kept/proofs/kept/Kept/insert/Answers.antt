use Rattle.std.proofs.Common.{◌<◌, subst, sym}
use Rattle.cite_kept.specs.KeptValues.{IsKept, KeptValues}
use Rattle.cite_kept.proofs.Unused.{unused-kept}
use Rattle.cite_kept.proofs.kept.Kept.insert.Goals as goal

pub invariant_of-self : goal.invariant_of-self
invariant_of-self g c =
    let old = c.self.inside in
    let given = subst (λ (k : KeptValues g.row.K.Denot g.row.V.Denot). c.args.key.0.number < k.versions.given) (sym c.self.view_is) c.requires in
    unused-kept g.K.Ord.cmp old.versions.given old.values.entries c.insert.new.self.entries c.self.invariant c.args.key _ given
    c.in-Ok.ensures.updates.0

pub returns-in-Ok-clause-kept : goal.returns-in-Ok-clause-kept
returns-in-Ok-clause-kept g c =
    let new : KeptValues g.row.K.Denot g.row.V.Denot =
    record { versions = c.self.inside.versions; entries = c.insert.new.self.entries; answer = c.self.inside.answer } in
    subst (λ old. IsKept g.K.Ord.cmp old new c.args.key c.args.value) c.self.view_is c.in-Ok.ensures.updates.0
