use Rattle.std.proofs.Common.{◌++◌, ap, map, ◌∙◌}
use Rattle.std.specs.Vec.Iter.{into_iter_items}
use Rattle.mentions_tables.specs.Steps.{state_of}
use Rattle.mentions_tables.proofs.Walking.{made-more}
use Rattle.mentions_tables.proofs.named.states_of.Goals as goal

pub loop-names-init : goal.loop-names-init
loop-names-init c =
    ap (λ l. l ++ map state_of (into_iter_items c.into_iter-names-iterator.result)) c.in_ok-states.ensures.items
    ∙ ap (map state_of) c.into_iter-names-iterator.ensures.into_iter_gives.0

pub loop-names-preserved : goal.loop-names-preserved
loop-names-preserved c =
    made-more state_of c.loop-names.states.items c.push.new.self.items (map state_of c.args.told.items) (into_iter_items c.next.new.self) (into_iter_items c.loop-names.names-iterator) c.in-Some.names
    c.in-Some.ensures.steps.0 c.loop-names.invariant c.in_ok-push.ensures.items
