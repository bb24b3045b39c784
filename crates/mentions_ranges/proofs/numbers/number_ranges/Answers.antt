use Rattle.std.proofs.Common.{ap, map, refl, ◌∙◌}
use Rattle.mentions_ranges.specs.NumberRanges.{in_range}
use Rattle.mentions_ranges.proofs.Following.{around-next, collapsed-next, follows-now}
use Rattle.list_lemmas.proofs.Stepping.{enumerate-all}
use Rattle.mentions_ranges.proofs.numbers.number_ranges.Goals as goal

pub loop-k-preserved : goal.loop-k-preserved
loop-k-preserved c =
    let cites = c.args.cites.now in
    let k = c.loop-k.k in
    let before = c.loop-k.invariant in
    record {
      around = around-next cites k c.loop-k.around c.moved-around.result c.rises_behind.result before.around c.moved-around.ensures c.rises_behind.ensures;
      follows = follows-now cites k c.loop-k.around c.moved-around.result c.rises_behind.result before.around c.moved-around.ensures c.rises_behind.ensures _ _ c.loop-k.follows c.loop-k-test.true refl
          before.follows c.follows_behind-follows.result c.follows_behind-follows.ensures;
      collapsed = collapsed-next cites k c.loop-k.around c.moved-around.result c.rises_behind.result before.around c.moved-around.ensures c.rises_behind.ensures _ _ c.loop-k.follows c.loop-k-test.true refl
          before.follows c.loop-k.collapsed.items c.push.new.self.items c.collapsed_cite.result before.collapsed c.collapsed_cite.ensures c.in_ok-push.ensures.items;
    }

pub returns : goal.returns
returns c =
    c.loop-k.invariant.collapsed ∙ ap (map (λ p. in_range c.args.cites.now p.0 p.1)) (enumerate-all c.args.cites.now c.loop-k.k c.loop-k-test.false)
