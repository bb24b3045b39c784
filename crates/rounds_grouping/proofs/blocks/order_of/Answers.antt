use Rattle.std.proofs.Common.{Some, None, ap, get_or, length, subst, ◌++◌, ◌<◌, ◌∙◌}
use Rattle.std.specs.Prelude.{if◌then◌else◌}
use Rattle.rounds_grouping.specs.BlockKeys.{is_named}
use Rattle.rounds_grouping.specs.Steps.{blocks_view, key_view, placed_block, placed_blocks}
use Rattle.rounds_grouping.proofs.Placing.{blocks-more, next-bound}
use Rattle.rounds_grouping.proofs.blocks.order_of.Goals as goal

pub loop-b-preserved : goal.loop-b-preserved
loop-b-preserved c =
    let blocks = c.args.blocks.now in
    let key = c.index-keys-b.result in
    let next = c.loop-b.next in
    record {
      order = blocks-more blocks.keys.keys blocks.places.items c.loop-b.b next c.in_ok-next.next key c.index.result.now c.loop-b.order.items c.push_named.new.order.items
          (placed_blocks 0 (blocks_view blocks)) (subst (λ ks. c.loop-b.b < length ks) c.as_slice-keys.ensures c.loop-b-test.true) (c.requires ∙ blocks.places.ok.0)
          (c.index-keys-b.is ∙ ap (λ ks. get_or ks c.loop-b.b key) c.as_slice-keys.ensures) c.index.ensures c.loop-b.invariant.order
          (c.in_ok-next.ensures.pushed ∙ ap (λ ps. c.loop-b.order.items ++ placed_block (if is_named (key_view key) then Some next else None) ps) c.deref.ensures.value)
          c.in_ok-next.ensures.next;
      next = next-bound (is_named (key_view key)) next c.loop-b.b c.in_ok-next.next c.in_ok-next.ensures.next c.loop-b.invariant.next;
    }
