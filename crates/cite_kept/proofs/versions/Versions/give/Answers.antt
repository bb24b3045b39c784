use Rattle.std.proofs.Common.{◌≡◌, ◌+◌, Some, ap, arith, subst, ◌∙◌}
use Rattle.std.specs.Prelude.{string_bytes}
use Rattle.std.proofs.lemmas.Map.Text.{btree_map_updates_text}
use Rattle.cite_kept.specs.Known.{Known, version_of}
use Rattle.cite_kept.proofs.Changes.{Changes, known-with, others, own}
use Rattle.cite_kept.proofs.versions.Versions.give.Goals as goal

pub invariant_of-self-2 : goal.invariant_of-self-2
invariant_of-self-2 c =
    let old : Known = record { entries = c.self.inside.numbers.entries; given = c.self.inside.given } in
    let new : Known = record { entries = c.insert.new.self.entries; given = c.in-Some.given } in
    let next : new.given ≡ old.given + 1 = omega (arith, c.in-Some.ensures) in
    known-with old new (string_bytes c.args.id.now)
    (subst (λ id. Changes old new id (Some old.given)) c.in_ok-clone.ensures.cases
    (btree_map_updates_text (string_bytes c.in_ok-clone.field-0) c.self.inside.numbers c.insert.new.self _ c.in_ok-insert.ensures.updates))
    next c.self.invariant

pub returns-clause-own : goal.returns-clause-own
returns-clause-own c =
    let old : Known = record { entries = c.self.inside.numbers.entries; given = c.self.inside.given } in
    let new : Known = record { entries = c.insert.new.self.entries; given = c.in-Some.given } in
    let next : new.given ≡ old.given + 1 = omega (arith, c.in-Some.ensures) in
    own old new (string_bytes c.args.id.now)
    (subst (λ id. Changes old new id (Some old.given)) c.in_ok-clone.ensures.cases
    (btree_map_updates_text (string_bytes c.in_ok-clone.field-0) c.self.inside.numbers c.insert.new.self _ c.in_ok-insert.ensures.updates))
    next c.self.invariant

pub returns-clause-others : goal.returns-clause-others
returns-clause-others c = λ other apart.
    let old : Known = record { entries = c.self.inside.numbers.entries; given = c.self.inside.given } in
    let new : Known = record { entries = c.insert.new.self.entries; given = c.in-Some.given } in
    others old new (string_bytes c.args.id.now) (Some old.given)
    (subst (λ id. Changes old new id (Some old.given)) c.in_ok-clone.ensures.cases
    (btree_map_updates_text (string_bytes c.in_ok-clone.field-0) c.self.inside.numbers c.insert.new.self _ c.in_ok-insert.ensures.updates))
    other apart
    ∙ ap (λ k. version_of k other) c.self.view_is
