use Rattle.std.proofs.Common.{rules, arith, Ok, Err}
use Rattle.document_answer.proofs.LimitSteps.{end-checked, next-checked, next-refused}
use Rattle.document_answer.proofs.limits.check_styles.Goals as goal

pub returns-in_err-check_style : goal.returns-in_err-check_style
returns-in_err-check_style c =
    let h = next-refused c.args.limits.now c.args.styles.now c.loop-named.named-index c.named-item.result c.in_err-check_style.field-0.0 c.loop-named-test.true c.named-item.is in
    let i = c.loop-named.invariant (Err c.in_err-check_style.field-0.0) in
    search (rules, h, i)

pub loop-named-preserved : goal.loop-named-preserved
loop-named-preserved c = λ r k.
    let h = next-checked c.args.limits.now c.args.styles.now c.loop-named.named-index c.named-item.result r c.loop-named-test.true c.named-item.is in
    let i = c.loop-named.invariant r in
    search (rules, h, i, k)

pub returns : goal.returns
returns c =
    c.loop-named.invariant (Ok tt) (end-checked c.args.limits.now c.args.styles.now c.loop-named.named-index (omega (arith, c.loop-named-test.false)))
