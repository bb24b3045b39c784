-- A key that is added.
use Rattle.std.proofs.Common.{◌≡◌, ℕ, Bool, true, false, cond, List, [], ◌∷◌, ◌++◌, length, Option, Some, None, refl, ap, sym, ◌∙◌}
use Rattle.std.specs.Prelude.{is_some}
use Rattle.std.specs.Cmp.{IsEquivalence}
use Rattle.std.specs.List.{position}
use Rattle.std.specs.Option.{option_or}
use Rattle.std.specs.Ordering.{eq_by_cmp, is_eq}
use Rattle.std.specs.declared.cmp.Ordering.{Ordering}
use Rattle.ordered_set.specs.Keys.{with_key}
use Rattle.ordered_set.proofs.Positions.{any-found, position-more}

kept : (o : Option ℕ) (b : Bool) (n : ℕ) → (true ≡ b → o ≡ None) → cond b (Some n) o ≡ option_or o (cond b (Some n) None)
kept o true n h = sym (ap (λ q. option_or q (Some n)) (h refl))
kept (Some i) false n h = refl
kept None false n h = refl

module _ {K : Type 0} (eq : K → K → Bool) where
  pub with-old : (keys : List K) (key : K) (i : ℕ) → position (eq key) keys ≡ Some i → keys ≡ with_key eq keys key
  with-old keys key i h = sym (ap (λ b. cond b keys (keys ++ key ∷ [])) (any-found (eq key) keys ∙ ap is_some h))

  pub with-new : (keys : List K) (key : K) → position (eq key) keys ≡ None → keys ++ key ∷ [] ≡ with_key eq keys key
  with-new keys key h = sym (ap (λ b. cond b keys (keys ++ key ∷ [])) (any-found (eq key) keys ∙ ap is_some h))

  -- what is known of the indexes once a key that is new has the next one
  pub added : IsEquivalence eq → (cmp : K → K → Ordering) → ((x y : K) → eq x y ≡ eq_by_cmp cmp x y)
      → (keys : List K) (key : K) (old new : K → Option ℕ) → position (eq key) keys ≡ None
      → ((k : K) → old k ≡ position (eq k) keys)
      → ((k : K) → new k ≡ cond (is_eq (cmp key k)) (Some (length keys)) (old k))
      → (k : K) → new k ≡ position (eq k) (keys ++ key ∷ [])
  added laws cmp ties keys key old new lacked have adds k =
      adds k
      ∙ ap (λ b. cond b (Some (length keys)) (old k)) (sym (ties key k))
      ∙ ap (cond (eq key k) (Some (length keys))) (have k)
      ∙ kept (position (eq k) keys) (eq key k) (length keys) none
      ∙ ap (λ b. option_or (position (eq k) keys) (cond b (Some (length keys)) None)) (laws.symm key k)
      ∙ sym (position-more (eq k) keys key)
    where
      none : true ≡ eq key k → position (eq k) keys ≡ None
      none same = sym (λ j. position (λ z. laws.congr key k z (sym same) j) keys) ∙ lacked
