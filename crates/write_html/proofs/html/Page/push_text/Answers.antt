use Rattle.std.proofs.Common.{◌∙◌, ◌≤◌, arith, length}
use Rattle.std.proofs.lemmas.Iterator.{YieldsList-from_chars}
use Rattle.std.proofs.lemmas.Iterator.Consumers.{YieldsList-turn, YieldsList-end}
use Rattle.std.proofs.lemmas.List.{length_push}
use Rattle.std.specs.Str.{chars}
use Rattle.write_html.specs.Page.{with_characters}
use Rattle.write_html.proofs.Streams.{text_step, text_end}
use Rattle.write_html.proofs.html.Page.push_text.Goals as goal

pub loop-c-preserved : goal.loop-c-preserved
loop-c-preserved c =
    let t = YieldsList-turn (YieldsList-from_chars c.args.text.now c.utf8.text cc) c.loop-c.yielded _ c.loop-c.yielded_by _ _ c.in-Some.c c.in-Some.is c.next.ensures.steps in
    rw (length_push c.loop-c.yielded c.in-Some.c) (record {
      text = text_step (with_characters c.args.self.now) (with_characters c.loop-c.self) _ (chars c.args.text.now) _ _ t c.in_ok-push_char.ensures.text c.loop-c.invariant.text;
      marks = c.in_ok-push_char.ensures.marks ∙ c.loop-c.invariant.marks;
      wraps = c.in_ok-push_char.ensures.wraps ∙ c.loop-c.invariant.wraps;
    })

pub returns-clause-text : goal.returns-clause-text
returns-clause-text c =
    let t = YieldsList-end (YieldsList-from_chars c.args.text.now c.utf8.text cc) c.loop-c.yielded _ c.loop-c.yielded_by _ _ c.in-None.is c.next.ensures.steps in
    let all : length (chars c.args.text.now) ≤ length c.loop-c.yielded = omega (arith, t.1) in
    text_end (with_characters c.args.self.now) (with_characters c.loop-c.self) (chars c.args.text.now) (length c.loop-c.yielded) all c.loop-c.invariant.text
