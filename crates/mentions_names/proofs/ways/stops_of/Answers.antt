use Rattle.std.proofs.Common.{refl, arith}
use Rattle.mentions_names.proofs.Numbered.{extends-same}
use Rattle.mentions_names.proofs.Walking.{last-stop, one-more-copied}
use Rattle.mentions_names.proofs.ways.stops_of.Goals as goal

pub loop-look-init : goal.loop-look-init
loop-look-init c = record {
  leads = refl;
  are_stops = c.new-stops.ensures.items;
  made = λ i r h e. absurd (omega arith);
  extends = extends-same c.args.steps.now.keys;
}

pub loop-look-preserved : goal.loop-look-preserved
loop-look-preserved c =
    one-more-copied c.args.steps.now.keys c.loop-look.steps.keys c.insert.new.self.keys c.args.group c.args.looks.now c.loop-look.look-index c.look-item.result
    c.in_ok-copied.field-0 c.in_ok-copied-2.field-0 c.loop-look.node c.in_ok-insert.field-0 c.loop-look.stops.items c.push.new.self.items c.loop-look-test.true c.look-item.is
    c.loop-look.invariant c.in_ok-copied.ensures c.in_ok-copied-2.ensures c.in_ok-insert.ensures.keys c.in_ok-insert.ensures.index c.in_ok-push.ensures.items

pub returns-clause-stops : goal.returns-clause-stops
returns-clause-stops c =
    last-stop c.args.steps.now.keys c.loop-look.steps.keys c.args.group c.args.looks.now c.loop-look.look-index c.loop-look.node c.loop-look.stops.items c.push-2.new.self.items
    (omega arith) c.loop-look.invariant c.in_ok-push-2.ensures.items

pub returns-clause-made : goal.returns-clause-made
returns-clause-made c = λ i r h e. c.loop-look.invariant.made i r (omega arith) e
