-- Ways grow from inside, and errors with them.
use Rattle.std.proofs.Common.{◌≡◌, ℕ, zero, suc, ◌<◌, length, get_or, List, [], ◌∷◌, ◌++◌, Option, Some, refl, ap, sym, subst, arith}
use Rattle.std.specs.Prelude.{option_and_then}
use Rattle.serde_json.specs.Data.{Data, null, boolean, number, string, array, object}
use Rattle.serde_json.specs.Find.{at}
use Rattle.serde_json.specs.View.{view, items_view}
use Rattle.serde_json.specs.declared.value.Value.{Value}
use Rattle.document_values.specs.declared.fault.Step.{Step}
use Rattle.document_values.specs.declared.fault.Found.{Found}
use Rattle.document_values.specs.declared.error.ReadError.{ReadError}
use Rattle.document_values.specs.declared.error.ReadError.TheVariants as errors
use Rattle.document_values.specs.Faults.{into, part_at, kind, IsFound, IsFoundThere}
use Rattle.document_values.specs.Reads.{Fails, RefusesToo}

part_inside : (way : List Step) (s : Step) (whole part : Data) → into s whole ≡ Some part → part_at way part ≡ part_at (way ++ s ∷ []) whole
part_inside [] s whole part h = sym h
part_inside (t ∷ way) s whole part h = ap (option_and_then (into t)) (part_inside way s whole part h)

-- one more step around the way leads to what the way leads to
pub found_inside : (way longer : List Step) (s : Step) (whole part : Data) (f : Found) → longer ≡ way ++ s ∷ [] → into s whole ≡ Some part
    → IsFoundThere f (part_at way part) → IsFoundThere f (part_at longer whole)
found_inside way longer s whole part f r h was =
    subst (λ w. IsFoundThere f (part_at w whole)) (sym r) (subst (IsFoundThere f) (part_inside way s whole part h) was)

-- a value is what it is found to be
of_kind : (d : Data) → IsFound (kind d) d
of_kind null = refl
of_kind (boolean b) = refl
of_kind (number n) = refl
of_kind (string s) = refl
of_kind (array ds) = refl
of_kind (object ms) = refl

pub kind_found : (f : Found) (d : Data) → f ≡ kind d → IsFound f d
kind_found f d e = subst (λ g. IsFound g d) (sym e) (of_kind d)

-- an error with more around its way
pub fails_outside : {Y : Type 0} (e r : ReadError) (read : Option Y) → RefusesToo e r → Fails e read → Fails r read
fails_outside (errors.Document f) (errors.Document g) read w h = h
fails_outside (errors.Document f) errors.OutOfMemory read w h = tt
fails_outside errors.OutOfMemory r read w h = subst (λ q. Fails q read) (sym w) tt

-- an item of a list
pub item_there : (vs : List Value) (k : ℕ) (v : Value) → k < length vs → v ≡ get_or vs k v → at k (array (items_view vs)) ≡ Some (view v)
item_there [] k v h e = absurd (omega arith)
item_there (w ∷ vs) zero v h e = ap (λ u. Some (view u)) (sym e)
item_there (w ∷ vs) (suc k) v h e = item_there vs k v (omega arith) e
