-- The search for an element, one child at a time.
use Rattle.std.proofs.Common.{◌≡◌, Bool, Option, map, drop}
use Rattle.std.specs.Borrow.{Bor}
use Rattle.value_trees.specs.ChildView.{child_view}
use Rattle.value_trees.specs.Elements.{elements, IsFirstAccepted}
use Rattle.value_trees.specs.Tree.{find_elem}
use Rattle.value_trees.specs.declared.elem.Elem.{Elem}
use Rattle.value_trees.proofs.find.+find.Given as goal

abbrev pub invariant-find_in_tree-loop-child : goal.invariant-find_in_tree-loop-child
invariant-find_in_tree-loop-child g l =
    ((p : Elem → Bool) → ((e : Bor Elem) (b : Bool) → goal.F-post g l.test e b → b ≡ p e.now) → find_elem p (map child_view (drop l.child-index l.child-items)) ≡ find_elem p (map child_view l.child-items))
    × ((r : Option Elem) → IsFirstAccepted (goal.F-post g l.test) (elements (map child_view (drop l.child-index l.child-items))) r → IsFirstAccepted (goal.F-post g l.test) (elements (map child_view l.child-items)) r)
