-- Elements are read one after another; each call reads a part of what its caller reads.
use Rattle.std.proofs.Common.{◌+◌, ◌*◌, map}
use Rattle.serde_json.specs.Data.{depth, items_depth}
use Rattle.serde_json.specs.View.{view, items_view}
use Rattle.value_styles.specs.ElementView.{element_view, branch_view}
use Rattle.document_styles.specs.Elements.{branch_form, element_form}
use Rattle.document_values.proofs.Progress.{Progress}
use Rattle.document_styles.proofs.elements.+elements.Given as goal

abbrev pub decreases-element_of : goal.decreases-element_of
decreases-element_of l = 5 * depth (view l.value.now) + 4

abbrev pub decreases-element_of_kind : goal.decreases-element_of_kind
decreases-element_of_kind l = 5 * depth (view l.value.now) + 3

abbrev pub decreases-all_elements : goal.decreases-all_elements
decreases-all_elements l = 5 * items_depth (items_view l.items.now) + 5

abbrev pub decreases-elements_at : goal.decreases-elements_at
decreases-elements_at l = 5 * depth (view l.object.now) + 1

abbrev pub decreases-group_of : goal.decreases-group_of
decreases-group_of l = 5 * depth (view l.value.now) + 2

abbrev pub decreases-choose_of : goal.decreases-choose_of
decreases-choose_of l = 5 * depth (view l.value.now) + 2

abbrev pub decreases-all_branches : goal.decreases-all_branches
decreases-all_branches l = 5 * items_depth (items_view l.items.now) + 5

abbrev pub decreases-branches_at : goal.decreases-branches_at
decreases-branches_at l = 5 * depth (view l.object.now) + 1

abbrev pub decreases-branch_of : goal.decreases-branch_of
decreases-branch_of l = 5 * depth (view l.value.now) + 2

abbrev pub invariant-all_elements-loop-place : goal.invariant-all_elements-loop-place
invariant-all_elements-loop-place l = Progress element_form l.items l.place (map element_view l.elements.items)

abbrev pub invariant-all_branches-loop-place : goal.invariant-all_branches-loop-place
invariant-all_branches-loop-place l = Progress (branch_form element_form) l.items l.place (map branch_view l.branches.items)
