-- Lists with no two equal members.
use mathlib.Core.Bool.{or-true}
use Rattle.std.proofs.Common.{◌≡◌, ℕ, suc, ◌+◌, length, map, Bool, true, false, cond, not, ◌||◌, Option, Some, None, List, [], ◌∷◌, ◌++◌, refl, ap, ◌∙◌, sym, arith}
use Rattle.std.specs.List.{filter, range_with_len}
use Rattle.std.specs.Cmp.{IsEquivalence}
use Rattle.std.proofs.Math.ListN.{length-map}
use Rattle.driver_entries.specs.Entries.{distinct, bibliography_order, is_in, place}
use Rattle.driver_entries.specs.Laws.{NoTwoEqual, HoldsEachOnce, NumbersWithoutGaps}
use Rattle.driver_entries.proofs.Distinct.{others, is_in-distinct, is_in-append, is_in-equal}

module _ {E : Type 0} (eq : E → E → Bool) (laws : IsEquivalence eq) where
  -- leaving out changes nothing where no member is left out
  none_out : (f : E) (xs : List E) → is_in eq f xs ≡ false → others eq f xs ≡ xs
  none_out f [] n = refl
  none_out f (x ∷ xs) n = by (eq f x) refl n (none_out f xs)
    where
      by : (b : Bool) → eq f x ≡ b → (b || is_in eq f xs) ≡ false → (is_in eq f xs ≡ false → others eq f xs ≡ xs)
          → cond (not b) (x ∷ others eq f xs) (others eq f xs) ≡ (x ∷ xs)
      by false e h k = ap (λ t. x ∷ t) (k h)
      by true e h k = cc

  pub one_out : (f : E) (xs : List E) → NoTwoEqual eq xs → is_in eq f xs ≡ true → length (others eq f xs) + 1 ≡ length xs
  one_out f [] d h = cc
  one_out f (x ∷ xs) d h = by (eq f x) refl h (one_out f xs d.1)
    where
      by : (b : Bool) → eq f x ≡ b → (b || is_in eq f xs) ≡ true → (is_in eq f xs ≡ true → length (others eq f xs) + 1 ≡ length xs)
          → length (cond (not b) (x ∷ others eq f xs) (others eq f xs)) + 1 ≡ suc (length xs)
      by false e h k = omega (arith, k h)
      by true e h k =
          let same : others eq f xs ≡ xs = none_out f xs (is_in-equal eq laws f x xs e ∙ d.0) in
          omega (arith, ap length same)

  -- what leaves out some of a list has no more in it
  pub kept_out : (p : E → Bool) (y : E) (xs : List E) → is_in eq y xs ≡ false → is_in eq y (filter p xs) ≡ false
  kept_out p y [] h = refl
  kept_out p y (x ∷ xs) h = by (eq y x) (p x) refl h (kept_out p y xs)
    where
      by : (a b : Bool) → eq y x ≡ a → (a || is_in eq y xs) ≡ false → (is_in eq y xs ≡ false → is_in eq y (filter p xs) ≡ false)
          → is_in eq y (cond b (x ∷ filter p xs) (filter p xs)) ≡ false
      by true b e h k = cc
      by false true e h k = rw e (k h)
      by false false e h k = k h

  pub NoTwoEqual-filter : (p : E → Bool) (xs : List E) → NoTwoEqual eq xs → NoTwoEqual eq (filter p xs)
  NoTwoEqual-filter p [] d = tt
  NoTwoEqual-filter p (x ∷ xs) d = by (p x) (NoTwoEqual-filter p xs d.1)
    where
      by : (b : Bool) → NoTwoEqual eq (filter p xs) → NoTwoEqual eq (cond b (x ∷ filter p xs) (filter p xs))
      by true k = (kept_out p x xs d.0, k)
      by false k = k

  is_out : (x : E) (xs : List E) → is_in eq x (others eq x xs) ≡ false
  is_out x [] = refl
  is_out x (y ∷ ys) = by (eq x y) refl (is_out x ys)
    where
      by : (b : Bool) → eq x y ≡ b → is_in eq x (others eq x ys) ≡ false → is_in eq x (cond (not b) (y ∷ others eq x ys) (others eq x ys)) ≡ false
      by true e k = k
      by false e k = rw e k

  pub NoTwoEqual-distinct : (xs : List E) → NoTwoEqual eq (distinct eq xs)
  NoTwoEqual-distinct [] = tt
  NoTwoEqual-distinct (x ∷ xs) = (is_out x (distinct eq xs), NoTwoEqual-filter _ (distinct eq xs) (NoTwoEqual-distinct xs))

  -- what is in the list already adds nothing in front
  length-distinct-front : (p : E → Bool) (xs ys : List E) → ((e : E) → p e ≡ true → is_in eq e ys ≡ true)
      → length (distinct eq (filter p xs ++ ys)) ≡ length (distinct eq ys)
  length-distinct-front p [] ys h = refl
  length-distinct-front p (x ∷ xs) ys h = by (p x) refl (length-distinct-front p xs ys h)
    where
      by : (b : Bool) → p x ≡ b → length (distinct eq (filter p xs ++ ys)) ≡ length (distinct eq ys)
          → length (distinct eq (cond b (x ∷ filter p xs) (filter p xs) ++ ys)) ≡ length (distinct eq ys)
      by false e k = k
      by true e k =
          let there : is_in eq x (distinct eq (filter p xs ++ ys)) ≡ true =
          is_in-distinct eq laws x (filter p xs ++ ys) ∙ is_in-append eq laws x (filter p xs) ys ∙ ap (λ t. is_in eq x (filter p xs) || t) (h x e) ∙ or-true (is_in eq x (filter p xs)) in
          omega (arith, one_out x (distinct eq (filter p xs ++ ys)) (NoTwoEqual-distinct (filter p xs ++ ys)) there, k)

  pub length-bibliography_order : (order : Option (List E)) (xs : List E) → length (bibliography_order eq order xs) ≡ length (distinct eq xs)
  length-bibliography_order None xs = refl
  length-bibliography_order (Some order) xs = length-distinct-front (λ e. is_in eq e xs) order xs (λ e h. h)

  -- a member equal to e that was kept is equal to a member of xs
  comes_from : (e : E) (order xs : List E) → is_in eq e (filter (λ e. is_in eq e xs) order) ≡ true → is_in eq e xs ≡ true
  comes_from e [] xs h = cc
  comes_from e (o ∷ os) xs h = by (is_in eq o xs) (eq e o) refl refl h (comes_from e os xs)
    where
      by : (a b : Bool) → is_in eq o xs ≡ a → eq e o ≡ b → is_in eq e (cond a (o ∷ filter (λ e. is_in eq e xs) os) (filter (λ e. is_in eq e xs) os)) ≡ true
          → (is_in eq e (filter (λ e. is_in eq e xs) os) ≡ true → is_in eq e xs ≡ true) → is_in eq e xs ≡ true
      by false b p q h k = k h
      by true true p q h k = is_in-equal eq laws e o xs q ∙ p
      by true false p q h k = k (rw q at h)

  absorbs : (a b : Bool) → (a ≡ true → b ≡ true) → (a || b) ≡ b
  absorbs true b h = sym (h refl)
  absorbs false b h = refl

  pub holds_each_once : (order : Option (List E)) (xs : List E) → HoldsEachOnce eq order xs
  holds_each_once None xs = record { same = λ e. is_in-distinct eq laws e xs; once = NoTwoEqual-distinct xs }
  holds_each_once (Some order) xs = record {
    same = λ e. is_in-distinct eq laws e (filter (λ e. is_in eq e xs) order ++ xs) ∙ is_in-append eq laws e (filter (λ e. is_in eq e xs) order) xs
        ∙ absorbs (is_in eq e (filter (λ e. is_in eq e xs) order)) (is_in eq e xs) (comes_from e order xs);
    once = NoTwoEqual-distinct (filter (λ e. is_in eq e xs) order ++ xs);
  }

  -- behind x, which equals none of zs, each place is one more
  places_behind : (o : ℕ) (x : E) (xs zs : List E) → is_in eq x zs ≡ false
      → map (λ e. o + place eq e (x ∷ xs)) zs ≡ map (λ e. (o + 1) + place eq e xs) zs
  places_behind o x xs [] h = refl
  places_behind o x xs (z ∷ zs) h = by (eq x z) refl h (places_behind o x xs zs)
    where
      by : (b : Bool) → eq x z ≡ b → (b || is_in eq x zs) ≡ false
          → (is_in eq x zs ≡ false → map (λ e. o + place eq e (x ∷ xs)) zs ≡ map (λ e. (o + 1) + place eq e xs) zs)
          → map (λ e. o + place eq e (x ∷ xs)) (z ∷ zs) ≡ map (λ e. (o + 1) + place eq e xs) (z ∷ zs)
      by true e h k = cc
      by false e h k =
          let other : eq z x ≡ false = laws.symm z x ∙ e in
          let one : o + place eq z (x ∷ xs) ≡ (o + 1) + place eq z xs = rw other (omega arith) in
          rw (one, k h) refl

  pub without_gaps : (offset : ℕ) (xs : List E) → NoTwoEqual eq xs → NumbersWithoutGaps eq offset xs
  without_gaps offset [] d = refl
  without_gaps offset (x ∷ xs) d =
      let first : offset + place eq x (x ∷ xs) ≡ offset = rw (laws.refl x) (omega arith) in
      let rest : map (λ e. offset + place eq e (x ∷ xs)) xs ≡ range_with_len (offset + 1) (length xs) =
      places_behind offset x xs xs d.0 ∙ without_gaps (offset + 1) xs d.1 in
      rw (first, rest) refl

  -- how many entries the code gathered
  pub counted : {X : Type 0} (f : X → E) (items : List X) (order : Option (List E)) (xs : List E)
      → map f items ≡ bibliography_order eq order xs → length items ≡ length (distinct eq xs)
  counted f items order xs e = sym (length-map items f) ∙ ap length e ∙ length-bibliography_order order xs
