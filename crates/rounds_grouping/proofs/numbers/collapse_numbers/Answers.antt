use Rattle.std.proofs.Common.{ℕ, ◌≤◌, None, ap, get_or, map, ◌∙◌}
use Rattle.std.specs.Prelude.{option_map}
use Rattle.list_lemmas.proofs.Stepping.{within-view}
use Rattle.driver_passes.specs.RendersView.{item_view, items_view}
use Rattle.rounds_grouping.specs.NumberRuns.{number_at, number_collapsed, shown_number}
use Rattle.rounds_grouping.proofs.ByPlaces.{cite-at, kept, step}
use Rattle.rounds_grouping.proofs.RunLemmas.{around, next-alike, step-is, up-to-next}
use Rattle.rounds_grouping.proofs.numbers.collapse_numbers.Goals as goal

pub loop-k-preserved : goal.loop-k-preserved
loop-k-preserved g c =
    let after = option_map (λ s. s.now) c.args.after in
    let items = c.args.items.now in
    let old = items_view items in
    let k = c.loop-k.k in
    let found = c.index-items-k.result in
    let change = number_collapsed after old in
    let half = c.loop-k.invariant.items in
    let numbers = λ (j : ℕ) (h : k ≤ j). ap (λ xs. number_at (map shown_number xs) j) half ∙ kept change shown_number k j old None h in
    let rises = around (map shown_number old) k c.loop-k.rises c.next-rises.result c.loop-k.invariant.rises (c.next-rises.ensures ∙ next-alike _ _ k c.loop-k.rises numbers) in
    let changed = step-is after old k c.next-rises.result (item_view (get_or c.loop-k.items k found)) (within-view item_view items k c.loop-k-test.true)
    (cite-at item_view change k items c.loop-k.items found half c.index-items-k.is) rises in
    record {
      items = step item_view change k items c.loop-k.items found c.collapse_number.new.cite half c.loop-k-test.true (c.collapse_number.ensures ∙ changed);
      rises = up-to-next (map shown_number old) k c.next-rises.result rises;
    }
