-- An error of the items of a list is one of the object that has the list under a key.
use Rattle.std.proofs.Common.{◌≡◌, ℕ, List, Option, Some, None, ap, sym, subst}
use Rattle.serde_json.specs.Data.{Data, null, boolean, number, string, array, object, Items, no_items}
use Rattle.serde_json.specs.Find.{get, as_array}
use Rattle.document_values.specs.Reads.{Fails, IsErrorOf, RefusesToo}
use Rattle.document_values.specs.Words.{all_items, optional, or_default, required}
use Rattle.document_values.specs.declared.error.ReadError.{ReadError}
use Rattle.document_values.specs.declared.error.ReadError.TheVariants as errors
use Rattle.std.specs.Prelude.{option_and_then}

pub is_list : (d : Data) (ds : Items) → as_array d ≡ Some ds → d ≡ array ds
is_list null ds e = cc
is_list (boolean b) ds e = cc
is_list (number n) ds e = cc
is_list (string s) ds e = cc
is_list (array es) ds e = let same : es ≡ ds = cc in ap array same
is_list (object ms) ds e = cc

-- where the list has to be there
pub required_fault : (k : List ℕ) (d : Data) (ds : Items) (e r : ReadError) → required as_array k d ≡ Some ds → IsErrorOf e (array ds)
    → ((part : Data) → get k d ≡ Some part → IsErrorOf e part → IsErrorOf r d) → IsErrorOf r d
required_fault k d ds e r q h outer = by (get k d) (λ part p. outer part p) q
  where
    by : (o : Option Data) → ((part : Data) → o ≡ Some part → IsErrorOf e part → IsErrorOf r d) → option_and_then as_array o ≡ Some ds → IsErrorOf r d
    by None g s = cc
    by (Some part) g s = g part (λ i. Some part) (subst (IsErrorOf e) (sym (is_list part ds s)) h)

-- no items are refused
absent : {A : Type 0} (f : Data → Option A) (d : Data) (e r : ReadError) → Fails e (all_items f no_items) → RefusesToo e r → IsErrorOf r d
absent f d (errors.Document fault) r h w = cc
absent f d errors.OutOfMemory r h w = subst (λ q. IsErrorOf q d) (sym w) tt

-- where it may be absent
pub optional_fault : {A : Type 0} (f : Data → Option A) (k : List ℕ) (d : Data) (ds : Items) (e r : ReadError) → optional no_items as_array k d ≡ Some ds
    → Fails e (all_items f ds) → IsErrorOf e (array ds) → RefusesToo e r → ((part : Data) → get k d ≡ Some part → IsErrorOf e part → IsErrorOf r d) → IsErrorOf r d
optional_fault f k d ds e r q fails h w outer = by (get k d) (λ part p. outer part p) q
  where
    by : (o : Option Data) → ((part : Data) → o ≡ Some part → IsErrorOf e part → IsErrorOf r d) → or_default no_items as_array o ≡ Some ds → IsErrorOf r d
    by None g s = let none : no_items ≡ ds = cc in absent f d e r (subst (λ es. Fails e (all_items f es)) (sym none) fails) w
    by (Some part) g s = g part (λ i. Some part) (subst (IsErrorOf e) (sym (is_list part ds s)) h)
