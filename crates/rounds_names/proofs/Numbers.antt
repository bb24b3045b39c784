-- Numbers of keys, by first occurrence: those of equal keys are the same.
use mathlib.Core.Bool.{or-true}
use Rattle.std.proofs.Common.{◌≡◌, ℕ, ◌+◌, ◌<◌, ◌≤◌, Bool, true, false, cond, not, ◌||◌, Some, List, [], ◌∷◌, ◌++◌, length, map, refl, ap, sym, ◌∙◌, suc, zero, arith, length-append}
use Rattle.std.specs.Prelude.{nat_eq, slice_get}
use Rattle.std.specs.List.{list_any, position_or_len}
use Rattle.std.specs.Cmp.{nat_eq_equiv}
use Rattle.std.proofs.lemmas.Bool.{eqb-true}
use Rattle.std.proofs.lemmas.List.{map-append}
use Rattle.std.proofs.lemmas.List.Folds.{list_any-append}
use Rattle.value_sources.specs.Finds.{Finds}

module _ {K : Type 0} (E : K → K → Bool) where
  -- the number of a key among distinct keys, and whether it is one of them
  abbrev pub number : List K → K → ℕ
  number set x = position_or_len (E x) set

  abbrev pub is_listed : List K → K → Bool
  is_listed set x = list_any (E x) set

  abbrev pub with_key : List K → K → List K
  with_key set x = cond (is_listed set x) set (set ++ x ∷ [])

  -- each of the keys is listed
  abbrev pub AreListed : List K → List K → Type 0
  AreListed set ks = (a : ℕ) (x : K) → slice_get ks a ≡ Some x → is_listed set x ≡ true

  -- the numbers that were found of the keys so far, and what lists these keys
  pub record AreNumbers (set ks : List K) (found : List ℕ) : Type 0 where
    pub numbers : found ≡ map (number set) ks
    pub listed : AreListed set ks
    pub few : length set ≤ length ks

  number-push : (set : List K) (x y : K) → is_listed (set ++ y ∷ []) x ≡ true → number (set ++ y ∷ []) x ≡ number set x
  number-push [] x y h = by (E x y) h
    where
      by : (b : Bool) → (b || false) ≡ true → cond (not b) (1 + 0) 0 ≡ 0
      by true h = refl
      by false h = cc
  number-push (z ∷ zs) x y h = by (E x z) h (number-push zs x y)
    where
      by : (b : Bool) → (b || is_listed (zs ++ y ∷ []) x) ≡ true → (is_listed (zs ++ y ∷ []) x ≡ true → number (zs ++ y ∷ []) x ≡ number zs x)
          → cond (not b) (1 + number (zs ++ y ∷ []) x) 0 ≡ cond (not b) (1 + number zs x) 0
      by true h k = refl
      by false h k = ap (λ n. 1 + n) (k h)

  listed-push : (set : List K) (x y : K) → is_listed set x ≡ true → is_listed (set ++ y ∷ []) x ≡ true
  listed-push set x y h = list_any-append (E x) set (y ∷ []) ∙ ap (λ b. b || is_listed (y ∷ []) x) h

  number-with : (set : List K) (x y : K) → is_listed (with_key set y) x ≡ true → number (with_key set y) x ≡ number set x
  number-with set x y = by (is_listed set y)
    where
      by : (b : Bool) → is_listed (cond b set (set ++ y ∷ [])) x ≡ true → number (cond b set (set ++ y ∷ [])) x ≡ number set x
      by true h = refl
      by false h = number-push set x y h

  listed-with : (set : List K) (x y : K) → is_listed set x ≡ true → is_listed (with_key set y) x ≡ true
  listed-with set x y h = by (is_listed set y)
    where
      by : (b : Bool) → is_listed (cond b set (set ++ y ∷ [])) x ≡ true
      by true = h
      by false = listed-push set x y h

  module _ (f : Finds E) where
    listed-own : (set : List K) (x : K) → is_listed (with_key set x) x ≡ true
    listed-own set x = by (is_listed set x) refl
      where
        by : (b : Bool) → is_listed set x ≡ b → is_listed (cond b set (set ++ x ∷ [])) x ≡ true
        by true h = h
        by false h =
            list_any-append (E x) set (x ∷ []) ∙ ap (λ b. is_listed set x || (b || false)) (f.self x) ∙ or-true (is_listed set x)

    -- listed keys with one number are equal
    same-number : (set : List K) (x y : K) → is_listed set x ≡ true → is_listed set y ≡ true → number set x ≡ number set y → x ≡ y
    same-number [] x y h k e = cc
    same-number (z ∷ zs) x y h k e = by (E x z) (E y z) refl refl h k e (same-number zs x y)
      where
        by : (b c : Bool) → E x z ≡ b → E y z ≡ c → (b || is_listed zs x) ≡ true → (c || is_listed zs y) ≡ true
            → cond (not b) (1 + number zs x) 0 ≡ cond (not c) (1 + number zs y) 0
            → (is_listed zs x ≡ true → is_listed zs y ≡ true → number zs x ≡ number zs y → x ≡ y) → x ≡ y
        by true true p q h k e r = f.equal x z p ∙ sym (f.equal y z q)
        by true false p q h k e r = absurd (omega arith)
        by false true p q h k e r = absurd (omega arith)
        by false false p q h k e r = r h k (omega arith)

    -- numbers are the same exactly where the keys are
    pub numbers-tell : (set : List K) (x y : K) → is_listed set x ≡ true → is_listed set y ≡ true → nat_eq (number set x) (number set y) ≡ E x y
    numbers-tell set x y h k = by (nat_eq (number set x) (number set y)) (E x y) refl refl (same-number set x y h k)
      where
        by : (b c : Bool) → nat_eq (number set x) (number set y) ≡ b → E x y ≡ c → (number set x ≡ number set y → x ≡ y) → b ≡ c
        by true true p q r = refl
        by false false p q r = refl
        by true false p q r =
            let same : x ≡ y = r (eqb-true (number set x) (number set y) p) in
            sym (f.self x) ∙ ap (E x) same ∙ q
        by false true p q r =
            let same : x ≡ y = f.equal x y q in
            sym p ∙ ap (λ z. nat_eq (number set x) (number set z)) (sym same) ∙ nat_eq_equiv.refl (number set x)

    pub number-within : (set : List K) (x : K) → is_listed set x ≡ true → number set x < length set
    number-within [] x h = cc
    number-within (z ∷ zs) x h = by (E x z) h (number-within zs x)
      where
        by : (b : Bool) → (b || is_listed zs x) ≡ true → (is_listed zs x ≡ true → number zs x < length zs) → cond (not b) (1 + number zs x) 0 < length (z ∷ zs)
        by true h k = omega arith
        by false h k = let r = k h in omega arith

    -- one key more
    pub numbers-more : (set ks : List K) (found : List ℕ) (x : K) → AreNumbers set ks found
        → AreNumbers (with_key set x) (ks ++ x ∷ []) (found ++ number set x ∷ [])
    numbers-more set ks found x so_far = record { numbers = numbers; listed = listed; few = few }
      where
        before : (ls : List K) → AreListed (with_key set x) ls → map (number set) ls ≡ map (number (with_key set x)) ls
        before [] h = refl
        before (l ∷ ls) h =
            let first : number set l ≡ number (with_key set x) l = sym (number-with set l x (h 0 l refl)) in
            let rest = before ls (λ a y e. h (suc a) y e) in
            λ i. first i ∷ rest i

        all-listed : AreListed (with_key set x) ks
        all-listed a y e = listed-with set y x (so_far.listed a y e)

        numbers : found ++ number set x ∷ [] ≡ map (number (with_key set x)) (ks ++ x ∷ [])
        numbers =
            ap (λ l. l ++ number set x ∷ []) (so_far.numbers ∙ before ks all-listed)
            ∙ ap (λ n. map (number (with_key set x)) ks ++ n ∷ []) (sym (number-with set x x (listed-own set x)))
            ∙ sym (map-append (number (with_key set x)) ks (x ∷ []))

        listed-at : (ls : List K) → AreListed (with_key set x) ls → AreListed (with_key set x) (ls ++ x ∷ [])
        listed-at [] h zero y e = let same : x ≡ y = cc in ap (is_listed (with_key set x)) (sym same) ∙ listed-own set x
        listed-at [] h (suc a) y e = cc
        listed-at (l ∷ ls) h zero y e = h zero y e
        listed-at (l ∷ ls) h (suc a) y e = listed-at ls (λ b z g. h (suc b) z g) a y e

        listed : AreListed (with_key set x) (ks ++ x ∷ [])
        listed = listed-at ks all-listed

        few : length (with_key set x) ≤ length (ks ++ x ∷ [])
        few = let h = so_far.few in let n = length-append ks (x ∷ []) in by (is_listed set x) n h
          where
            by : (b : Bool) → length (ks ++ x ∷ []) ≡ length ks + 1 → length set ≤ length ks → length (cond b set (set ++ x ∷ [])) ≤ length (ks ++ x ∷ [])
            by true n h = omega arith
            by false n h = let m = length-append set (x ∷ []) in omega arith
