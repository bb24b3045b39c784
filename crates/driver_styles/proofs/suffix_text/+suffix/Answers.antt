use Rattle.std.proofs.Common.{rules}
use Rattle.value_styles.proofs.Weight.{lt-all, lt-branches, lt-last}
use Rattle.driver_styles.proofs.suffix_text.+suffix.Goals as goal

pub have_suffix-has_suffix-requires : goal.have_suffix-has_suffix-requires
have_suffix-has_suffix-requires t c =
    let h = lt-all (λ _. 0) c.args.elements.now c.loop-element.element-index c.element-item.result c.loop-element-test.true c.element-item.is in
    search (rules, h)

pub branches_have_suffix-have_suffix-requires : goal.branches_have_suffix-have_suffix-requires
branches_have_suffix-have_suffix-requires t c =
    let h = lt-branches (λ _. 0) c.args.otherwise.now c.args.branches.now c.loop-branch.branch-index c.branch-item.result c.loop-branch-test.true c.branch-item.is in
    search (rules, h)

pub branches_have_suffix-have_suffix-requires-2 : goal.branches_have_suffix-have_suffix-requires-2
branches_have_suffix-have_suffix-requires-2 t c =
    let h = lt-last (λ _. 0) c.args.otherwise.now c.args.branches.now in
    search (rules, h)
