-- A list of values is read one after another.
use Rattle.std.proofs.Common.{◌≡◌, ℕ, zero, suc, ◌+◌, ◌<◌, ◌≤◌, length, drop, get_or, List, [], ◌∷◌, ◌++◌, Option, Some, None, refl, ap, ◌∙◌, sym, arith, append_assoc, append-nil, add-one, map, subst}
use Rattle.std.specs.Prelude.{option_map, option_and_then}
use Rattle.std.proofs.lemmas.List.{map-append}
use Rattle.serde_json.specs.Data.{Data}
use Rattle.serde_json.specs.View.{view, items_view}
use Rattle.serde_json.specs.declared.value.Value.{Value}
use Rattle.document_values.specs.Words.{all_items}
use Rattle.document_values.specs.Reads.{Fails}
use Rattle.document_values.specs.declared.error.ReadError.{ReadError}
use Rattle.document_values.specs.declared.error.ReadError.TheVariants as errors

module _ {A : Type 0} (f : Data → Option A) where
  -- the first k values gave xs; what the rest gives completes what all give
  abbrev pub Progress : List Value → ℕ → List A → Type 0
  Progress vs k xs = option_map (λ rest. xs ++ rest) (all_items f (items_view (drop k vs))) ≡ all_items f (items_view vs)

  pub Progress-start : (vs : List Value) → Progress vs 0 []
  Progress-start vs = by (all_items f (items_view vs))
    where
      by : (o : Option (List A)) → option_map (λ rest. [] ++ rest) o ≡ o
      by None = refl
      by (Some xs) = refl

  -- one more value at the front of the rest
  ahead : (vs : List Value) (k : ℕ) (v : Value) → k < length vs → v ≡ get_or vs k v
      → all_items f (items_view (drop k vs)) ≡ option_and_then (λ x. option_and_then (λ xs. Some (x ∷ xs)) (all_items f (items_view (drop (suc k) vs)))) (f (view v))
  ahead [] k v h e = absurd (omega arith)
  ahead (w ∷ vs) zero v h e = rw e refl
  ahead (w ∷ vs) (suc k) v h e = ahead vs k v (omega arith) e

  joins : (xs : List A) (y : A) (o : Option (List A))
      → option_map (λ rest. xs ++ rest) (option_and_then (λ zs. Some (y ∷ zs)) o) ≡ option_map (λ rest. (xs ++ y ∷ []) ++ rest) o
  joins xs y None = refl
  joins xs y (Some zs) = ap Some (sym (append_assoc xs (y ∷ []) zs))

  pub Progress-more : (vs : List Value) (k : ℕ) (xs : List A) (v : Value) (y : A) → k < length vs → v ≡ get_or vs k v → f (view v) ≡ Some y
      → Progress vs k xs → Progress vs (k + 1) (xs ++ y ∷ [])
  Progress-more vs k xs v y h e r was =
      let rest = all_items f (items_view (drop (suc k) vs)) in
      rw add-one (sym (joins xs y rest)
      ∙ ap (λ o. option_map (λ t. xs ++ t) (option_and_then (λ x. option_and_then (λ zs. Some (x ∷ zs)) rest) o)) (sym r)
      ∙ ap (option_map (λ t. xs ++ t)) (sym (ahead vs k v h e)) ∙ was)

  pub Progress-none : (vs : List Value) (k : ℕ) (xs : List A) (v : Value) → k < length vs → v ≡ get_or vs k v
      → Progress vs k xs → f (view v) ≡ None → all_items f (items_view vs) ≡ None
  Progress-none vs k xs v h e was r =
      let rest = all_items f (items_view (drop (suc k) vs)) in
      sym was ∙ ap (option_map (λ t. xs ++ t)) (ahead vs k v h e)
      ∙ ap (λ o. option_map (λ t. xs ++ t) (option_and_then (λ x. option_and_then (λ zs. Some (x ∷ zs)) rest) o)) r

  pub Progress-end : (vs : List Value) (k : ℕ) (xs : List A) → length vs ≤ k → Progress vs k xs → all_items f (items_view vs) ≡ Some xs
  Progress-end vs k xs h was = sym was ∙ ap (λ t. option_map (λ rest. xs ++ rest) (all_items f (items_view t))) (none_left vs k h) ∙ ap Some (append-nil xs)
    where
      none_left : (vs : List Value) (k : ℕ) → length vs ≤ k → drop k vs ≡ []
      none_left [] zero h = refl
      none_left [] (suc k) h = refl
      none_left (v ∷ vs) zero h = absurd (omega arith)
      none_left (v ∷ vs) (suc k) h = none_left vs k (omega arith)

  -- one more value was pushed
  pub Progress-pushed : {X : Type 0} (g : X → A) (vs : List Value) (k : ℕ) (xs ys : List X) (v : Value) (x : X) → k < length vs → v ≡ get_or vs k v
      → f (view v) ≡ Some (g x) → ys ≡ xs ++ x ∷ [] → Progress vs k (map g xs) → Progress vs (k + 1) (map g ys)
  Progress-pushed g vs k xs ys v x h e r p was =
      subst (Progress vs (k + 1)) (sym (map-append g xs (x ∷ [])) ∙ ap (map g) (sym p)) (Progress-more vs k (map g xs) v (g x) h e r was)

-- an error of a part is one of the whole
pub Fails-whole : {A B : Type 0} (e : ReadError) (part : Option A) (whole : Option B) → (part ≡ None → whole ≡ None) → Fails e part → Fails e whole
Fails-whole (errors.Document fault) part whole h r = h r
Fails-whole errors.OutOfMemory part whole h r = tt
