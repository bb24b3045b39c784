use Rattle.std.proofs.Common.{◌≡◌, ap, length, map, subst, ◌∙◌}
use Rattle.std.specs.Prelude.{IfOk}
use Rattle.std.specs.List.{range_with_len}
use Rattle.std.specs.List.Sorted.{IsPermutation}
use Rattle.std.proofs.lemmas.List.{length-map}
use Rattle.mentions_blocks.specs.Blocks.{block_order}
use Rattle.mentions_blocks.specs.declared.blocks.PlacedCite.{PlacedCite}
use Rattle.mentions_arranging.specs.Order.{grouped_cite}
use Rattle.mentions_arranging.proofs.Walking.{same-items}
use Rattle.mentions_arranging.proofs.order.order_in_blocks.Goals as goal

pub returns : goal.returns
returns g c =
    let is : c.deref.result.now ≡ map grouped_cite c.args.cites.now = c.deref.ensures.value ∙ c.in_ok-grouped.ensures in
    record {
      order = same-items c.block_order.result (λ v. v.items) _ _ (ap block_order is) c.block_order.ensures.order;
      once = subst (λ n. IfOk c.block_order.result (λ v. IsPermutation (range_with_len 0 n) (map (λ (p : PlacedCite). p.place) v.items))) (ap length is ∙ length-map c.args.cites.now grouped_cite)
          c.block_order.ensures.once;
    }
