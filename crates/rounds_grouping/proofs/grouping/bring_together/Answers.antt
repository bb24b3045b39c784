use Rattle.std.proofs.Common.{Some, ap, map, subst, sym, ◌∙◌}
use Rattle.driver_passes.specs.RendersView.{item_view, items_view}
use Rattle.rounds_grouping.specs.Moves.{IsPicked}
use Rattle.rounds_grouping.specs.Steps.{all_marked}
use Rattle.std.specs.List.{range_with_len}
use Rattle.std.specs.List.Sorted.{IsPermutation}
use Rattle.std.proofs.Common.{length}
use Rattle.rounds_grouping.proofs.Whole.{grouped-all, order-permuted}
use Rattle.rounds_grouping.proofs.grouping.bring_together.Goals as goal

pub rearrange-requires-clause-permutation : goal.rearrange-requires-clause-permutation
rearrange-requires-clause-permutation g c =
    let order = c.deref-2.ensures.value ∙ c.in_ok-order.ensures ∙ ap (map (λ o. o.place)) c.deref.ensures.value in
    subst (IsPermutation (range_with_len 0 (length c.args.items.now))) (sym order)
    (order-permuted item_view c.args.items.now c.args.items.now c.in_ok-placed.placed.items c.in_ok-placed.ensures)

pub returns-clause-grouped : goal.returns-clause-grouped
returns-clause-grouped g c =
    let order = c.deref-2.ensures.value ∙ c.in_ok-order.ensures ∙ ap (map (λ o. o.place)) c.deref.ensures.value in
    c.mark.ensures ∙ ap (λ os. all_marked (Some c.args.delimiter.now) os (items_view c.rearrange.new.items)) c.deref-3.ensures.value
    ∙ grouped-all item_view c.args.items.now c.rearrange.new.items (Some c.args.delimiter.now) c.in_ok-placed.placed.items c.in_ok-placed.ensures
    (subst (λ os. IsPicked c.args.items.now os c.rearrange.new.items) order c.rearrange.ensures)
