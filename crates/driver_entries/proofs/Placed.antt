-- Where entries stand among the cited ones, as these grow.
use mathlib.Core.Bool.{or-true}
use Rattle.std.proofs.Common.{◌≡◌, ℕ, ◌+◌, Bool, true, false, cond, not, ◌||◌, List, [], ◌∷◌, ◌++◌, map, refl, ap, sym, subst, ◌∙◌}
use Rattle.std.specs.List.{list_any, position_or_len}
use Rattle.std.specs.Cmp.{IsEquivalence}
use Rattle.driver_entries.specs.Entries.{is_in, place, with_new, with_all_new}
use Rattle.driver_entries.specs.StandsAt.{StandsAt}
use Rattle.driver_entries.proofs.Distinct.{is_in-append}
use Rattle.driver_entries.proofs.Sets.{insert-view, place-view}

module _ {E : Type 0} (eq : E → E → Bool) where
  place-append : (e : E) (xs zs : List E) → is_in eq e xs ≡ true → place eq e (xs ++ zs) ≡ place eq e xs
  place-append e [] zs h = cc
  place-append e (x ∷ xs) zs h = by (eq e x) h (place-append e xs zs)
    where
      by : (b : Bool) → (b || is_in eq e xs) ≡ true → (is_in eq e xs ≡ true → place eq e (xs ++ zs) ≡ place eq e xs)
          → cond (not b) (1 + place eq e (xs ++ zs)) 0 ≡ cond (not b) (1 + place eq e xs) 0
      by true h k = refl
      by false h k = ap (λ n. 1 + n) (k h)

  module _ (laws : IsEquivalence eq) where
    place-new : (e : E) (xs : List E) → is_in eq e xs ≡ false → place eq e (xs ++ e ∷ []) ≡ place eq e xs
    place-new e [] h = rw (laws.refl e) refl
    place-new e (x ∷ xs) h = by (eq e x) h (place-new e xs)
      where
        by : (b : Bool) → (b || is_in eq e xs) ≡ false → (is_in eq e xs ≡ false → place eq e (xs ++ e ∷ []) ≡ place eq e xs)
            → cond (not b) (1 + place eq e (xs ++ e ∷ [])) 0 ≡ cond (not b) (1 + place eq e xs) 0
        by true h k = refl
        by false h k = ap (λ n. 1 + n) (k h)

    -- an entry that was added, if need be, stands where it was or at the end
    pub own : (e : E) (xs : List E) → StandsAt eq (with_new eq xs e) e (place eq e xs)
    own e xs = by (is_in eq e xs) refl
      where
        by : (b : Bool) → is_in eq e xs ≡ b → StandsAt eq (cond b xs (xs ++ e ∷ [])) e (place eq e xs)
        by true h = record { listed = h; at = refl }
        by false h = record {
          listed = is_in-append eq laws e xs (e ∷ []) ∙ rw (laws.refl e) (or-true (is_in eq e xs));
          at = sym (place-new e xs h);
        }

    stays-one : (xs : List E) (y e : E) (k : ℕ) → StandsAt eq xs e k → StandsAt eq (with_new eq xs y) e k
    stays-one xs y e k s = by (is_in eq y xs)
      where
        by : (b : Bool) → StandsAt eq (cond b xs (xs ++ y ∷ [])) e k
        by true = s
        by false = record {
          listed = is_in-append eq laws e xs (y ∷ []) ∙ ap (λ b. b || is_in eq e (y ∷ [])) s.listed;
          at = s.at ∙ sym (place-append e xs (y ∷ []) s.listed);
        }

    -- what stands there stays there
    pub stays : (xs ys : List E) (e : E) (k : ℕ) → StandsAt eq xs e k → StandsAt eq (with_all_new eq xs ys) e k
    stays xs [] e k s = s
    stays xs (y ∷ ys) e k s = stays (with_new eq xs y) ys e k (stays-one xs y e k s)

    -- what an insertion gives
    pub inserted : {X : Type 0} (now : X → E) (x : X) (ks new : List X) (k : ℕ)
        → new ≡ cond (list_any (λ y. eq (now x) (now y)) ks) ks (ks ++ x ∷ []) → k ≡ position_or_len (λ y. eq (now x) (now y)) ks
        → StandsAt eq (map now new) (now x) k
    inserted now x ks new k n p =
        subst (λ xs. StandsAt eq xs (now x) k) (sym (insert-view now eq x ks new n))
        (subst (λ i. StandsAt eq (with_new eq (map now ks) (now x)) (now x) i) (sym (p ∙ place-view now eq (now x) ks)) (own (now x) (map now ks)))
