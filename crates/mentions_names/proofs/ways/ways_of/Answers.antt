use Rattle.std.proofs.Common.{ap, subst, ◌∙◌}
use Rattle.mentions_names.specs.Reaches.{reach}
use Rattle.mentions_names.specs.Ways.{AllMade, way_of}
use Rattle.mentions_names.proofs.Walking.{next-made, next-ways}
use Rattle.mentions_names.proofs.ways.ways_of.Goals as goal

pub loop-mention-preserved : goal.loop-mention-preserved
loop-mention-preserved c =
    let ms = c.args.mentions.now in
    let k = c.loop-mention.mention-index in
    let m = c.mention-item.result in
    let old = c.loop-mention.steps.keys in
    let new = c.way_of.new.steps.keys in
    let own = subst (AllMade new) c.in_ok-reach.ensures c.in_ok-way_of.ensures.made in
    record {
      ways = next-ways old new c.in_ok-way_of.ensures.extends (reach ms) ms k m c.loop-mention-test.true c.mention-item.is own c.loop-mention.invariant.made c.loop-mention.ways.items
          c.push.new.self.items c.in_ok-way_of.field-0 c.loop-mention.invariant.ways (c.in_ok-way_of.ensures.way ∙ ap (way_of new) c.in_ok-reach.ensures) c.in_ok-push.ensures.items;
      made = next-made old new c.in_ok-way_of.ensures.extends (reach ms) ms k m c.loop-mention-test.true c.mention-item.is own c.loop-mention.invariant.made;
    }
