use Rattle.mentions_ranges.proofs.Suffixed.{around-next, joined-next, made-next}
use Rattle.mentions_ranges.proofs.suffixes.suffix_stretches.Goals as goal

pub loop-k-preserved : goal.loop-k-preserved
loop-k-preserved c =
    let cites = c.args.cites.now in
    let k = c.loop-k.k in
    record {
      around = around-next c.args.ranges cites k c.loop-k.around c.moved-around.result c.rises_behind.result c.loop-k.invariant.around c.moved-around.ensures c.rises_behind.ensures;
      later = joined-next cites k c.joins_behind-is_later.result c.joins_behind-is_later.ensures;
      collapsed = made-next c.args.ranges cites k c.loop-k.around c.moved-around.result c.rises_behind.result c.loop-k.invariant.around c.moved-around.ensures c.rises_behind.ensures c.loop-k.is_later
          c.loop-k.collapsed.items c.push.new.self.items c.collapsed_cite.result c.loop-k.invariant.later c.loop-k.invariant.collapsed c.collapsed_cite.ensures c.in_ok-push.ensures.items;
    }
