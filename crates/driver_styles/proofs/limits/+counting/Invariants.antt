use Rattle.std.proofs.Common.{ℕ, ◌+◌, ◌*◌, drop}
use Rattle.std.specs.Prelude.{Result}
use Rattle.value_styles.specs.ElementView.{branches_view, elements_view}
use Rattle.driver_styles.specs.PreparedView.{prepared_view}
use Rattle.driver_styles.specs.declared.limits.Excess.{Excess}
use Rattle.driver_styles.specs.Limited.{Counted}
use Rattle.driver_styles.specs.Nesting.{branch_items, items}
use Rattle.driver_styles.proofs.limits.+counting.Given as goal

abbrev pub decreases-count_one : goal.decreases-count_one
decreases-count_one l = 5 * l.depth

abbrev pub decreases-count_all : goal.decreases-count_all
decreases-count_all l = 5 * l.depth + 1

abbrev pub decreases-count_branches : goal.decreases-count_branches
decreases-count_branches l = 5 * l.depth + 2

abbrev pub decreases-count_called : goal.decreases-count_called
decreases-count_called l = 5 * l.depth + 3

abbrev pub decreases-count_inside : goal.decreases-count_inside
decreases-count_inside l = 5 * l.depth + 4

-- what comes of the rest, counted on, comes of all
abbrev pub invariant-count_all-loop-element : goal.invariant-count_all-loop-element
invariant-count_all-loop-element l =
    let macros = (prepared_view l.style).macros in (r : Result ℕ Excess)
    → Counted macros l.depth (items (elements_view (drop l.element-index l.elements))) l.left r
    → Counted macros l.depth (items (elements_view l.elements)) l.fn.left r

abbrev pub invariant-count_branches-loop-branch : goal.invariant-count_branches-loop-branch
invariant-count_branches-loop-branch l =
    let macros = (prepared_view l.style).macros in (r : Result ℕ Excess)
    → Counted macros l.depth (branch_items (branches_view (drop l.branch-index l.branches) l.otherwise)) l.left r
    → Counted macros l.depth (branch_items (branches_view l.branches l.otherwise)) l.fn.left r
