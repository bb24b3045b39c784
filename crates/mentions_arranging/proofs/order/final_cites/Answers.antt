use Rattle.std.proofs.Common.{◌<◌, All, ap, length, subst, sym, ◌∙◌}
use Rattle.mentions_blocks.specs.declared.blocks.PlacedCite.{PlacedCite}
use Rattle.mentions_arranging.specs.Order.{cites_in_order}
use Rattle.mentions_arranging.proofs.Ordering.{places-within}
use Rattle.mentions_arranging.proofs.Walking.{same-items}
use Rattle.mentions_arranging.proofs.order.final_cites.Goals as goal

pub cites_in_order-requires : goal.cites_in_order-requires
cites_in_order-requires g c =
    let n = length c.args.cites.now in
    subst (λ ps. All (λ (p : PlacedCite). p.place < n) ps) (sym c.deref.ensures.value) (places-within n c.in_ok-order.order.items c.in_ok-order.ensures.once)

pub returns : goal.returns
returns g c = same-items c.cites_in_order.result (λ v. v.items) _ _ (ap (cites_in_order c.args.cites.now) (c.deref.ensures.value ∙ c.in_ok-order.ensures.order)) c.cites_in_order.ensures
