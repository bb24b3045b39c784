use Rattle.std.proofs.Common.{◌∷◌, [], ◌++◌, ap, sym, ◌∙◌}
use Rattle.csl_driver.proofs.CslAccounting.{first-grows, first-stays, later-grows, later-stays, turns}
use Rattle.csl_driver.proofs.csl_account.parted.Goals.{then-is_first+in_ok-push, else-is_first+in_ok-push-2}
use Rattle.csl_driver.proofs.csl_account.parted.Goals as goal

pub loop-state-preserved : goal.loop-state-preserved
loop-state-preserved c =
    let was = c.loop-state.invariant in
    let states = c.loop-state.yielded in
    let state = c.in-Some.state in
    let now = c.loop-state.is_first in
    elim c.if-is_first.branch [
      | then-is_first+in_ok-push w ↦ record {
        first = ap (λ (v : _). v.items) w.first-is ∙ w.in_ok-push.ensures.items ∙ ap (λ l. l ++ state ∷ []) was.first ∙ sym (first-grows states state now was.turn w.if-is_first.true);
        later = ap (λ (v : _). v.items) w.later-is ∙ was.later ∙ sym (later-stays states state now was.turn w.if-is_first.true);
        turn = turns states state now was.turn;
      }
      | else-is_first+in_ok-push-2 w ↦ record {
        first = ap (λ (v : _). v.items) w.first-is ∙ was.first ∙ sym (first-stays states state now was.turn w.if-is_first.false);
        later = ap (λ (v : _). v.items) w.later-is ∙ w.in_ok-push-2.ensures.items ∙ ap (λ l. l ++ state ∷ []) was.later ∙ sym (later-grows states state now was.turn w.if-is_first.false);
        turn = turns states state now was.turn;
      }
    ]
