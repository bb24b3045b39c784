use Rattle.std.proofs.Common.{◌≡◌, ◌++◌, map, drop}
use Rattle.value_styles.specs.Calls.{calls_of_all, calls_of_branches}
use Rattle.value_styles.specs.ElementView.{elements_view, branches_view}
use Rattle.value_styles.specs.ElementView.{element_view}
use Rattle.value_styles.specs.Weight.{weight_with, weight_all_with, weight_branches_with}
use Rattle.value_styles.proofs.calls.+calls.Given as goal

abbrev pub invariant-add_all_calls-loop-element : goal.invariant-add_all_calls-loop-element
invariant-add_all_calls-loop-element l =
    map (λ s. s.now) l.names.items ++ calls_of_all (elements_view (drop l.element-index l.elements)) ≡ map (λ s. s.now) l.initial.names.items ++ calls_of_all (elements_view l.elements)

abbrev pub invariant-add_branch_calls-loop-branch : goal.invariant-add_branch_calls-loop-branch
invariant-add_branch_calls-loop-branch l =
    map (λ s. s.now) l.names.items ++ calls_of_branches (branches_view (drop l.branch-index l.branches) l.otherwise) ≡ map (λ s. s.now) l.initial.names.items ++ calls_of_branches (branches_view l.branches l.otherwise)

abbrev pub decreases-add_calls : goal.decreases-add_calls
decreases-add_calls l = weight_with (λ _. 0) (element_view l.element.now)

abbrev pub decreases-add_all_calls : goal.decreases-add_all_calls
decreases-add_all_calls l = weight_all_with (λ _. 0) (elements_view l.elements.now)

abbrev pub decreases-add_branch_calls : goal.decreases-add_branch_calls
decreases-add_branch_calls l = weight_branches_with (λ _. 0) (branches_view l.branches.now l.otherwise.now)
