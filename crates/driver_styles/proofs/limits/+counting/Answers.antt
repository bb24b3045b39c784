use Rattle.std.proofs.Common.{rules, arith, Ok, Err}
use Rattle.driver_styles.specs.PreparedView.{prepared_view}
use Rattle.value_styles.specs.ElementView.{element_view}
use Rattle.driver_styles.proofs.Counting.{element_counted, element_exceeds, branch_counted, branch_exceeds, end-counted, one-counted}
use Rattle.driver_styles.proofs.limits.+counting.Goals as goal

pub count_all-loop-element-init : goal.count_all-loop-element-init
count_all-loop-element-init t c = λ r h. h

pub count_all-returns-in_err-left : goal.count_all-returns-in_err-left
count_all-returns-in_err-left t c =
    let h = element_exceeds (prepared_view c.args.style.now).macros c.args.depth c.loop-element.left c.args.elements.now c.loop-element.element-index c.element-item.result c.in_err-left.field-0.0 c.loop-element-test.true c.element-item.is in
    let i = c.loop-element.invariant (Err c.in_err-left.field-0.0) in
    search (rules, h, i)

pub count_all-loop-element-preserved : goal.count_all-loop-element-preserved
count_all-loop-element-preserved t c = λ r k.
    let h = element_counted (prepared_view c.args.style.now).macros c.args.depth c.loop-element.left c.in_ok-left.left c.args.elements.now c.loop-element.element-index c.element-item.result r c.loop-element-test.true c.element-item.is in
    let i = c.loop-element.invariant r in
    search (rules, h, i, k)

pub count_all-returns : goal.count_all-returns
count_all-returns t c =
    let h = end-counted (prepared_view c.args.style.now).macros c.args.depth c.loop-element.left c.args.elements.now c.loop-element.element-index (omega (arith, c.loop-element-test.false)) in
    c.loop-element.invariant (Ok c.loop-element.left) h

pub count_branches-returns-in_err-left : goal.count_branches-returns-in_err-left
count_branches-returns-in_err-left t c =
    let h = branch_exceeds (prepared_view c.args.style.now).macros c.args.depth c.loop-branch.left c.args.otherwise.now c.args.branches.now c.loop-branch.branch-index c.branch-item.result c.in_err-left.field-0.0 c.loop-branch-test.true c.branch-item.is in
    let i = c.loop-branch.invariant (Err c.in_err-left.field-0.0) in
    search (rules, h, i)

pub count_branches-loop-branch-preserved : goal.count_branches-loop-branch-preserved
count_branches-loop-branch-preserved t c = λ r k.
    let h = branch_counted (prepared_view c.args.style.now).macros c.args.depth c.loop-branch.left c.in_ok-left.left c.args.otherwise.now c.args.branches.now c.loop-branch.branch-index c.branch-item.result r c.loop-branch-test.true c.branch-item.is in
    let i = c.loop-branch.invariant r in
    search (rules, h, i, k)

pub count_one-returns : goal.count_one-returns
count_one-returns t c =
    let h = one-counted (prepared_view c.args.style.now).macros c.args.depth c.args.left (element_view c.args.element.now) c.count_inside.result (omega (arith, c.if-depth-eq0.false)) (omega (arith, c.if-left-eq0.false)) in
    search (rules, h)
