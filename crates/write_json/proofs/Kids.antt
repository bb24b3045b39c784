-- The JSON of the children one by one.
use Rattle.std.proofs.Common.{◌≡◌, List, [], ◌∷◌, map, refl, ap}
use Rattle.serde_json.specs.Data.{item}
use Rattle.serde_json.specs.View.{items_of}
use Rattle.value_trees.specs.Child.{kids_of}
use Rattle.value_trees.specs.ChildView.{child_view}
use Rattle.value_trees.specs.declared.elem.ElemChild.{ElemChild}
use Rattle.write_json.specs.TreeData.{child_data, kids_data}

pub kids_items : (cs : List ElemChild) → items_of (map (λ c. child_data (child_view c)) cs) ≡ kids_data (kids_of (map child_view cs))
kids_items [] = refl
kids_items (c ∷ cs) = ap (item (child_data (child_view c))) (kids_items cs)
