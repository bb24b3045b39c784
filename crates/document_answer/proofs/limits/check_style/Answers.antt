use Rattle.std.proofs.Common.{subst}
use Rattle.value_styles.specs.StyleView.{style_view}
use Rattle.driver_styles.specs.Limited.{Exceeds}
use Rattle.document_answer.proofs.LimitSteps.{excess-checked, ring-checked}
use Rattle.document_answer.proofs.limits.check_style.Goals as goal

pub returns-in-Err : goal.returns-in-Err
returns-in-Err c =
    let h = rw c.in-Err.is at c.in_ok-new.ensures in
    ring-checked c.args.limits.now (style_view c.args.style.now) c.in-Err.field-0 h

pub returns : goal.returns
returns c =
    let m = rw c.in-Ok.is at c.in_ok-new.ensures in
    let h = subst (λ s. Exceeds c.in-Err-check.which c.args.limits.now (style_view s)) m c.in-Err-check.ensures.exceeded in
    excess-checked c.args.limits.now (style_view c.args.style.now) c.in-Err-check.which h
