use Rattle.std.proofs.Common.{◌≡◌, drop}
use Rattle.value_styles.specs.ElementView.{element_view, elements_view, branches_view}
use Rattle.value_styles.specs.Weight.{weight_with, weight_all_with, weight_branches_with}
use Rattle.driver_styles.specs.SuffixText.{no_call, suffix_in_all, suffix_in_branches}
use Rattle.driver_styles.proofs.suffix_text.+suffix.Given as goal

abbrev pub invariant-have_suffix-loop-element : goal.invariant-have_suffix-loop-element
invariant-have_suffix-loop-element l =
    suffix_in_all no_call (elements_view (drop l.element-index l.elements)) ≡ suffix_in_all no_call (elements_view l.elements)

abbrev pub invariant-branches_have_suffix-loop-branch : goal.invariant-branches_have_suffix-loop-branch
invariant-branches_have_suffix-loop-branch l =
    suffix_in_branches no_call (branches_view (drop l.branch-index l.branches) l.otherwise) ≡ suffix_in_branches no_call (branches_view l.branches l.otherwise)

abbrev pub decreases-has_suffix : goal.decreases-has_suffix
decreases-has_suffix l = weight_with (λ _. 0) (element_view l.element.now)

abbrev pub decreases-have_suffix : goal.decreases-have_suffix
decreases-have_suffix l = weight_all_with (λ _. 0) (elements_view l.elements.now)

abbrev pub decreases-branches_have_suffix : goal.decreases-branches_have_suffix
decreases-branches_have_suffix l = weight_branches_with (λ _. 0) (branches_view l.branches.now l.otherwise.now)
