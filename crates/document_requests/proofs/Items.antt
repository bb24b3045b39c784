-- The items of a value that is a list.
use Rattle.std.proofs.Common.{◌≡◌, ℕ, ◌<◌, length, get_or, List, Some, ap, ◌∙◌}
use Rattle.document_styles.proofs.ListFaults.{is_list}
use Rattle.serde_json.specs.Data.{Data, null, boolean, number, string, array, object, Items}
use Rattle.serde_json.specs.Find.{as_array, at}
use Rattle.serde_json.specs.View.{view, items_view}
use Rattle.serde_json.specs.declared.value.Value.{Value}
use Rattle.document_values.proofs.Ways.{item_there}

-- an item of the list that a value is
pub item_in : (d : Data) (vs : List Value) (k : ℕ) (v : Value) → as_array d ≡ Some (items_view vs) → k < length vs → v ≡ get_or vs k v → at k d ≡ Some (view v)
item_in d vs k v e h s = ap (at k) (is_list d (items_view vs) e) ∙ item_there vs k v h s
