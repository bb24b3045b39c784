-- What the cites of a block have in common.
use Rattle.std.specs.Prelude.{ℕ, Bool, true, false, None, Some, nat_eq}
use Rattle.value_trees.specs.SameElem.{same_elem}
use Rattle.value_trees.specs.Tree.{find_elem, has_names}
use Rattle.value_trees.specs.declared.elem.Elem.{Elem}
use Rattle.driver_passes.specs.Renders.{ItemRender}

-- a names element, or the place of a cite that has none
pub data BlockKey : Type 0 where
  named : Elem → BlockKey
  alone : ℕ → BlockKey

abbrev pub same_key : BlockKey → BlockKey → Bool
same_key (named a) (named b) = same_elem a b
same_key (alone j) (alone k) = nat_eq j k
same_key _ _ = false

abbrev pub is_named : BlockKey → Bool
is_named (named a) = true
is_named (alone k) = false

-- that of a cite at a place: the first names element of its tree
abbrev pub key_of : {E P : Type 0} → ℕ → ItemRender E P → BlockKey
key_of k c = elim (find_elem has_names c.rendered) [ None ↦ alone k | Some names ↦ named names ]
