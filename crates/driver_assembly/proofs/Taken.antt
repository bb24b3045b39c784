-- A child that was taken out of a tree.
use Rattle.std.proofs.Common.{◌≡◌, Option, Some, None, refl, ap, sym, ◌∙◌}
use Rattle.std.specs.Prelude.{option_map}
use Rattle.value_trees.specs.Child.{Child}
use Rattle.value_trees.specs.ChildView.{child_view}
use Rattle.value_trees.specs.declared.elem.ElemChild.{ElemChild}
use Rattle.driver_assembly.specs.ChildOf.{child_of, child_of-view}

stored : (r : Option ElemChild) → option_map child_of (option_map child_view r) ≡ r
stored None = refl
stored (Some c) = ap Some (child_of-view c)

-- it is the one that it is seen as
pub taken : (r : Option ElemChild) (o : Option Child) → option_map child_view r ≡ o → r ≡ option_map child_of o
taken r o e = sym (stored r) ∙ ap (option_map child_of) e
