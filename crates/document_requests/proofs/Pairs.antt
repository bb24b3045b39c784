-- Lists that are too short or too long to be read as a person or as a locator.
use Rattle.std.proofs.Common.{◌≡◌, ◌<◌, ◌≤◌, length, List, [], ◌∷◌, Option, Some, None, option_and_then, refl, ap, ◌∙◌, arith}
use Rattle.serde_json.specs.Data.{Data}
use Rattle.serde_json.specs.Find.{as_array}
use Rattle.serde_json.specs.View.{items_view}
use Rattle.serde_json.specs.declared.value.Value.{Value}
use Rattle.document_requests.specs.Entries.{person_of, person_form}
use Rattle.document_requests.specs.Requests.{locator_of_items, locator_form}
use Rattle.document_values.specs.Reads.{Fails}
use Rattle.document_values.specs.declared.error.ReadError.{ReadError}
use Rattle.document_values.specs.declared.error.ReadError.TheVariants as errors

of_none : (vs : List Value) → length vs < 1 → person_of (items_view vs) ≡ None
of_none [] h = refl
of_none (v ∷ vs) h = absurd (omega arith)

of_three : (vs : List Value) → 3 ≤ length vs → person_of (items_view vs) ≡ None
of_three [] h = absurd (omega arith)
of_three (u ∷ []) h = absurd (omega arith)
of_three (u ∷ v ∷ []) h = absurd (omega arith)
of_three (u ∷ v ∷ w ∷ vs) h = refl

pub no_name : (d : Data) (vs : List Value) → as_array d ≡ Some (items_view vs) → length vs < 1 → person_form d ≡ None
no_name d vs e h = ap (option_and_then person_of) e ∙ of_none vs h

pub three_names : (d : Data) (vs : List Value) → as_array d ≡ Some (items_view vs) → 3 ≤ length vs → person_form d ≡ None
three_names d vs e h = ap (option_and_then person_of) e ∙ of_three vs h

of_one : (vs : List Value) → length vs < 2 → locator_of_items (items_view vs) ≡ None
of_one [] h = refl
of_one (v ∷ []) h = refl
of_one (v ∷ w ∷ vs) h = absurd (omega arith)

of_more : (vs : List Value) → 3 ≤ length vs → locator_of_items (items_view vs) ≡ None
of_more [] h = absurd (omega arith)
of_more (u ∷ []) h = absurd (omega arith)
of_more (u ∷ v ∷ []) h = absurd (omega arith)
of_more (u ∷ v ∷ w ∷ vs) h = refl

pub too_short : (d : Data) (vs : List Value) → as_array d ≡ Some (items_view vs) → length vs < 2 → locator_form d ≡ None
too_short d vs e h = ap (option_and_then locator_of_items) e ∙ of_one vs h

pub too_long : (d : Data) (vs : List Value) → as_array d ≡ Some (items_view vs) → 3 ≤ length vs → locator_form d ≡ None
too_long d vs e h = ap (option_and_then locator_of_items) e ∙ of_more vs h

-- where nothing is read, any error may be returned
pub fails_none : {A : Type 0} (e : ReadError) (read : Option A) → read ≡ None → Fails e read
fails_none (errors.Document fault) read h = h
fails_none errors.OutOfMemory read h = tt
