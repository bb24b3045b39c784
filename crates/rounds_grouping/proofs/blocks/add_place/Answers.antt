use Rattle.std.proofs.Common.{[], ◌∷◌, ◌++◌, length-append, arith, ap, length, ◌∙◌}
use Rattle.rounds_grouping.specs.Steps.{keyed}
use Rattle.rounds_grouping.proofs.Entries.{found-key, inserted, keys-after, missing-key, pushed}
use Rattle.rounds_grouping.proofs.blocks.add_place.Goals as goal

pub returns-in_ok-push-in-Some-clause-added : goal.returns-in_ok-push-in-Some-clause-added
returns-in_ok-push-in-Some-clause-added c =
    let blocks = c.args.blocks.now in
    let found = found-key c.args.key blocks.keys.keys c.index_of.result c.in-Some.i c.index_of.ensures c.in-Some.is in
    pushed c.args.key c.args.k blocks.keys.keys blocks.places.items c.in-Some.i c.index_mut.result.now c.push.new.self
    (c.requires ∙ blocks.places.ok.0) found.0 found.1 c.index_mut.ensures.value c.in_ok-push-in-Some.ensures.items

pub returns-in_ok-insert-in-None-clause-paired :
    goal.returns-in_ok-insert-in-None-clause-paired
returns-in_ok-insert-in-None-clause-paired c =
    let keys = c.args.blocks.now.keys.keys in
    let more = keys-after c.args.key keys c.insert.new.self.keys c.index_of.result c.index_of.ensures c.in-None.is c.in_ok-insert-in-None.ensures.keys in
    omega (arith, ap length more, length-append keys (c.args.key ∷ []), c.in_ok-push-in-None-2.ensures.len, c.requires)

pub returns-in_ok-insert-in-None-clause-added : goal.returns-in_ok-insert-in-None-clause-added
returns-in_ok-insert-in-None-clause-added c =
    let blocks = c.args.blocks.now in
    let keys = blocks.keys.keys in
    let more = keys-after c.args.key keys c.insert.new.self.keys c.index_of.result c.index_of.ensures c.in-None.is c.in_ok-insert-in-None.ensures.keys in
    (λ i. keyed (more i) (c.in_ok-push-in-None-2.ensures.items i))
    ∙ inserted c.args.key c.args.k keys blocks.places.items c.push-in-None.new.self (c.requires ∙ blocks.places.ok.0)
    (missing-key c.args.key keys c.index_of.result c.index_of.ensures c.in-None.is)
    (c.in_ok-push-in-None.ensures.items ∙ ap (λ xs. xs ++ c.args.k ∷ []) c.new-places.ensures.items)
