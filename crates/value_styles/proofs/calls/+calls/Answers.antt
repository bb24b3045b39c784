use Rattle.std.proofs.Common.{rules}
use Rattle.value_styles.proofs.Weight.{lt-all, lt-branches, lt-last}
use Rattle.value_styles.proofs.calls.+calls.Goals as goal

pub add_all_calls-add_calls-requires : goal.add_all_calls-add_calls-requires
add_all_calls-add_calls-requires t c =
    let h = lt-all (λ _. 0) c.args.elements.now c.loop-element.element-index c.element-item.result c.loop-element-test.true c.element-item.is in
    search (rules, h)

pub add_branch_calls-add_all_calls-requires : goal.add_branch_calls-add_all_calls-requires
add_branch_calls-add_all_calls-requires t c =
    let h = lt-branches (λ _. 0) c.args.otherwise.now c.args.branches.now c.loop-branch.branch-index c.branch-item.result c.loop-branch-test.true c.branch-item.is in
    search (rules, h)

pub add_branch_calls-add_all_calls-requires-2 : goal.add_branch_calls-add_all_calls-requires-2
add_branch_calls-add_all_calls-requires-2 t c =
    let h = lt-last (λ _. 0) c.args.otherwise.now c.args.branches.now in
    search (rules, h)
