-- One more character, and the end of the text.
use Rattle.std.proofs.Common.{length, sym, ◌∙◌, arith}
use Rattle.std.proofs.lemmas.Iterator.{YieldsList-from_chars}
use Rattle.std.proofs.lemmas.List.{at_drop_all, length_push}
use Rattle.std.proofs.lemmas.Iterator.Consumers.{YieldsList-turn, YieldsList-end}
use Rattle.std.specs.Str.{chars}
use Rattle.layout_context.specs.Steps.{visible_from}
use Rattle.layout_context.proofs.TextSteps.{visible_here, visible_more}
use Rattle.layout_context.proofs.text.is_visible_from.Goals as goal

pub returns-then-is_seen : goal.returns-then-is_seen
returns-then-is_seen c =
    let t = YieldsList-turn (YieldsList-from_chars c.args.text.now c.utf8.text cc) c.loop-c.yielded _ c.loop-c.yielded_by _ _ c.in-Some.c c.in-Some.is c.next.ensures.steps in
    visible_here (chars c.args.text.now) _ _ c.loop-c.left _ t (sym c.is_seen.ensures ∙ c.if-is_seen.true) c.loop-c.invariant

pub loop-c-preserved : goal.loop-c-preserved
loop-c-preserved c =
    let t = YieldsList-turn (YieldsList-from_chars c.args.text.now c.utf8.text cc) c.loop-c.yielded _ c.loop-c.yielded_by _ _ c.in-Some.c c.in-Some.is c.next.ensures.steps in
    rw (length_push c.loop-c.yielded c.in-Some.c, c.saturating_sub-left.ensures, c.len_utf8.ensures.len) (visible_more (chars c.args.text.now) _ _ c.loop-c.left _ t (sym c.is_seen.ensures ∙ c.if-is_seen.false) c.loop-c.invariant)

pub returns : goal.returns
returns c =
    let t = YieldsList-end (YieldsList-from_chars c.args.text.now c.utf8.text cc) c.loop-c.yielded _ c.loop-c.yielded_by _ _ c.in-None.is c.next.ensures.steps in
    rw (t.1, at_drop_all (visible_from c.loop-c.left) (chars c.args.text.now) (length (chars c.args.text.now)) (omega arith)) at c.loop-c.invariant
