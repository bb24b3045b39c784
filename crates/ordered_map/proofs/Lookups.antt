-- What is found by the index of a key.
use Rattle.std.proofs.Common.{◌≡◌, ℕ, zero, suc, Bool, true, false, List, [], ◌∷◌, ◌++◌, Some, None, cond, slice_get, slice_index_or, position, length, ◌<◌, refl, ap, sym, ◌∙◌, arith}
use Rattle.std.specs.Prelude.{is_some, option_map}
use Rattle.std.specs.List.{list_any}
use Rattle.std.specs.Map.{keys_of, lookup, values_of}
use Rattle.std.proofs.lemmas.List.{map-append}
use Rattle.std.proofs.lemmas.Map.Made.{is_some-lookup}
use Rattle.indexmap.proofs.MapLemmas.{Found-position, Missing-position}
use Rattle.ordered_set.proofs.Positions.{any-found}
use Rattle.ordered_set.specs.Keys.{with_key}
use Rattle.ordered_map.specs.Entries.{value_at, with_entry}

module _ {K V : Type 0} where
  values-at : (es : List (K × V)) (i : ℕ) → slice_get (values_of es) i ≡ option_map (λ e. e.1) (slice_get es i)
  values-at [] i = refl
  values-at (e ∷ es) zero = refl
  values-at (e ∷ es) (suc i) = values-at es i

  taken-at : (es : List (K × V)) (i : ℕ) (e : K × V) → i < length es → slice_get es i ≡ Some (slice_index_or es i e)
  taken-at [] i e l = absurd (omega (arith, l))
  taken-at (d ∷ es) zero e l = refl
  taken-at (d ∷ es) (suc i) e l = taken-at es i e (omega (arith, l))

  pub found-at : (t : K → Bool) (es : List (K × V)) (i : ℕ) (e : K × V) → position t (keys_of es) ≡ Some i → e ≡ slice_index_or es i e
      → Some e.1 ≡ lookup t es
  found-at t es i e at is =
      let found = Found-position t es i at in
      sym (found.value ∙ values-at es i ∙ ap (option_map (λ d. d.1)) (taken-at es i e found.within ∙ ap Some (sym is)))

  pub missing : (t : K → Bool) (es : List (K × V)) → position t (keys_of es) ≡ None → None ≡ lookup t es
  missing t es at = sym (Missing-position t es at).value

  pub keys-with : (es : List (K × V)) (k : K) (v : V) → keys_of (es ++ (k, v) ∷ []) ≡ keys_of es ++ k ∷ []
  keys-with es k v = map-append (λ e. e.0) es ((k, v) ∷ [])

  module _ (eq : K → K → Bool) (es : List (K × V)) (k : K) (v : V) where
    pub entry-there : (i : ℕ) → position (eq k) (keys_of es) ≡ Some i → es ≡ with_entry eq es k v
    entry-there i at = sym (ap (λ b. cond b es (es ++ (k, v) ∷ [])) (any-found (eq k) (keys_of es) ∙ ap is_some at))

    pub entry-new : position (eq k) (keys_of es) ≡ None → es ++ (k, v) ∷ [] ≡ with_entry eq es k v
    entry-new at = sym (ap (λ b. cond b es (es ++ (k, v) ∷ [])) (any-found (eq k) (keys_of es) ∙ ap is_some at))

    keys-by : (b : Bool) → keys_of (cond b es (es ++ (k, v) ∷ [])) ≡ cond b (keys_of es) (keys_of es ++ k ∷ [])
    keys-by true = refl
    keys-by false = keys-with es k v

    -- the keys are those of a set to which the key is added
    pub keys-with_entry : keys_of (with_entry eq es k v) ≡ with_key eq (keys_of es) k
    keys-with_entry = keys-by (list_any (eq k) (keys_of es))

  -- a value that is found is so with more entries behind
  found-before : (t : K → Bool) (es fs : List (K × V)) (v : V) → lookup t es ≡ Some v → lookup t (es ++ fs) ≡ Some v
  found-before t [] fs v h = cc
  found-before t (e ∷ es) fs v h = by (t e.0) (found-before t es fs v) h
    where
      by : (b : Bool) → (lookup t es ≡ Some v → lookup t (es ++ fs) ≡ Some v) → cond b (Some e.1) (lookup t es) ≡ Some v
          → cond b (Some e.1) (lookup t (es ++ fs)) ≡ Some v
      by true rest g = g
      by false rest g = rest g

  -- one that isn't is looked for in those behind
  found-behind : (t : K → Bool) (es fs : List (K × V)) → lookup t es ≡ None → lookup t (es ++ fs) ≡ lookup t fs
  found-behind t [] fs h = refl
  found-behind t (e ∷ es) fs h = by (t e.0) (found-behind t es fs) h
    where
      by : (b : Bool) → (lookup t es ≡ None → lookup t (es ++ fs) ≡ lookup t fs) → cond b (Some e.1) (lookup t es) ≡ None
          → cond b (Some e.1) (lookup t (es ++ fs)) ≡ lookup t fs
      by true rest g = cc
      by false rest g = rest g

  module _ (eq : K → K → Bool) (es : List (K × V)) (k : K) (v : V) where
    stays-by : (q : K) (w : V) (b : Bool) → value_at eq es q ≡ Some w → value_at eq (cond b es (es ++ (k, v) ∷ [])) q ≡ Some w
    stays-by q w true h = h
    stays-by q w false h = found-before (eq q) es ((k, v) ∷ []) w h

    -- a value stays, whatever is added
    pub value-stays : (q : K) (w : V) → value_at eq es q ≡ Some w → value_at eq (with_entry eq es k v) q ≡ Some w
    value-stays q w h = stays-by q w (list_any (eq k) (keys_of es)) h

    -- that of a new key is there
    pub entry-added : eq k k ≡ true → value_at eq es k ≡ None → value_at eq (with_entry eq es k v) k ≡ Some v
    entry-added same h =
        ap (λ b. value_at eq (cond b es (es ++ (k, v) ∷ [])) k) (sym (is_some-lookup (eq k) es) ∙ ap is_some h)
        ∙ found-behind (eq k) es ((k, v) ∷ []) h ∙ ap (λ b. cond b (Some v) None) same
