use Rattle.std.proofs.Common.{arith, length, append-nil}
use Rattle.std.proofs.lemmas.Iterator.{YieldsList-from_chars}
use Rattle.std.proofs.lemmas.List.{at_drop_all, length_push}
use Rattle.std.proofs.lemmas.Iterator.Consumers.{YieldsList-turn, YieldsList-end}
use Rattle.std.specs.Str.{chars}
use Rattle.layout_context.specs.Steps.{kept_after}
use Rattle.layout_context.proofs.TextSteps.{kept_step}
use Rattle.layout_context.proofs.text.push_without_periods.Goals as goal

pub loop-c-preserved : goal.loop-c-preserved
loop-c-preserved c =
    let t = YieldsList-turn (YieldsList-from_chars c.args.s.now c.utf8.s cc) c.loop-c.yielded _ c.loop-c.yielded_by _ _ c.in-Some.c c.in-Some.is c.next.ensures.steps in
    rw (length_push c.loop-c.yielded c.in-Some.c) (kept_step (chars c.args.s.now) _ _ c.loop-c.after_period _ _ _ t c.in_ok-push_kept.ensures c.loop-c.invariant)

pub returns : goal.returns
returns c =
    let t = YieldsList-end (YieldsList-from_chars c.args.s.now c.utf8.s cc) c.loop-c.yielded _ c.loop-c.yielded_by _ _ c.in-None.is c.next.ensures.steps in
    rw (t.1, at_drop_all (kept_after c.loop-c.after_period) (chars c.args.s.now) (length (chars c.args.s.now)) (omega arith), append-nil) at c.loop-c.invariant
