use Rattle.std.proofs.Common.{subst}
use Rattle.mentions_names.specs.Gathered.{IsGathered, asking}
use Rattle.mentions_names.proofs.Answering.{found-next}
use Rattle.mentions_names.proofs.told.tell_apart_by_names.Goals as goal

pub loop-k-preserved : goal.loop-k-preserved
loop-k-preserved c =
    found-next c.args.mentions.now c.ways_of.new.steps.keys c.in_ok-gathered.gathered c.in_ok-ways.ways.items c.loop-k.k c.index-mentions-k.result c.index.result.now c.in_ok-needs.needs
    c.in_ok-told.field-0 c.loop-k.found.items c.push.new.self.items c.loop-k-test.true c.index-mentions-k.is c.in_ok-ways.ensures.ways c.in_ok-ways.ensures.made
    (subst (λ ws. IsGathered c.in_ok-gathered.gathered (asking ws)) c.deref.ensures.value c.in_ok-gathered.ensures) c.index.ensures c.in_ok-needs.ensures c.in_ok-told.ensures c.loop-k.invariant
    c.in_ok-push.ensures.items
