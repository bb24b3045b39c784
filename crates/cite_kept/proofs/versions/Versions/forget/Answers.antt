use Rattle.std.proofs.Common.{None, ap, refl, ◌∙◌}
use Rattle.std.proofs.lemmas.Map.Text.{btree_map_updates_text}
use Rattle.cite_kept.specs.Known.{version_of}
use Rattle.cite_kept.proofs.Changes.{known-without, others}
use Rattle.cite_kept.proofs.versions.Versions.forget.Goals as goal

pub invariant_of-self : goal.invariant_of-self
invariant_of-self c =
    let id = c.args.id.now in
    known-without (record { entries = c.self.inside.numbers.entries; given = c.self.inside.given }) _ id
    (btree_map_updates_text id c.self.inside.numbers c.remove.new.self None c.remove.ensures.updates) refl c.self.invariant

pub returns-clause-others : goal.returns-clause-others
returns-clause-others c = λ other apart.
    let id = c.args.id.now in
    others (record { entries = c.self.inside.numbers.entries; given = c.self.inside.given })
    (record { entries = c.remove.new.self.entries; given = c.self.inside.given }) id None
    (btree_map_updates_text id c.self.inside.numbers c.remove.new.self None c.remove.ensures.updates) other apart
    ∙ ap (λ k. version_of k other) c.self.view_is
