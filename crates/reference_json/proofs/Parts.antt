-- Parts of lists and objects.
use Rattle.std.proofs.Common.{◌≡◌, ℕ, zero, suc, ◌<◌, length, get_or, List, [], ◌∷◌, Option, Some, ap, sym, arith}
use Rattle.serde_json.specs.Data.{array}
use Rattle.serde_json.specs.Find.{at}
use Rattle.serde_json.specs.View.{view, items_view}
use Rattle.serde_json.specs.declared.value.Value.{Value}

-- an item of a list
pub item_there : (vs : List Value) (k : ℕ) (v : Value) → k < length vs → v ≡ get_or vs k v → at k (array (items_view vs)) ≡ Some (view v)
item_there [] k v h e = absurd (omega arith)
item_there (w ∷ vs) zero v h e = ap (λ u. Some (view u)) (sym e)
item_there (w ∷ vs) (suc k) v h e = item_there vs k v (omega arith) e
