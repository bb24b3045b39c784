-- Lists that are too short or too long to be read.
use Rattle.std.proofs.Common.{◌≡◌, ◌<◌, ◌≤◌, length, List, [], ◌∷◌, Option, Some, None, option_and_then, refl, ap, ◌∙◌, arith}
use Rattle.serde_json.specs.Data.{Data}
use Rattle.serde_json.specs.Find.{as_array}
use Rattle.serde_json.specs.View.{items_view}
use Rattle.serde_json.specs.declared.value.Value.{Value}
use Rattle.document_tasks.specs.Pairs.{pair_of, pair_form}

module _ {A B : Type 0} (f : Data → Option A) (g : Data → Option B) where
  of_one : (vs : List Value) → length vs < 2 → pair_of f g (items_view vs) ≡ None
  of_one [] h = refl
  of_one (v ∷ []) h = refl
  of_one (v ∷ w ∷ vs) h = absurd (omega arith)

  of_more : (vs : List Value) → 3 ≤ length vs → pair_of f g (items_view vs) ≡ None
  of_more [] h = absurd (omega arith)
  of_more (u ∷ []) h = absurd (omega arith)
  of_more (u ∷ v ∷ []) h = absurd (omega arith)
  of_more (u ∷ v ∷ w ∷ vs) h = refl

  pub too_short : (d : Data) (vs : List Value) → as_array d ≡ Some (items_view vs) → length vs < 2 → pair_form f g d ≡ None
  too_short d vs e h = ap (option_and_then (pair_of f g)) e ∙ of_one vs h

  pub too_long : (d : Data) (vs : List Value) → as_array d ≡ Some (items_view vs) → 3 ≤ length vs → pair_form f g d ≡ None
  too_long d vs e h = ap (option_and_then (pair_of f g)) e ∙ of_more vs h
