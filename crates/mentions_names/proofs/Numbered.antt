-- Numbers of steps, by first occurrence: those of equal steps are the same, and stay when more are made.
use mathlib.Core.Bool.{or-true}
use Rattle.std.proofs.Common.{◌≡◌, ℕ, ◌+◌, Bool, true, false, cond, not, ◌||◌, List, [], ◌∷◌, ◌++◌, refl, ap, sym, ◌∙◌, arith}
use Rattle.std.specs.Prelude.{nat_eq}
use Rattle.std.specs.List.{list_any, position_or_len}
use Rattle.std.specs.Cmp.{nat_eq_equiv}
use Rattle.std.proofs.lemmas.Bool.{eqb-true}
use Rattle.std.proofs.lemmas.List.{append-nil, append_assoc}
use Rattle.std.proofs.lemmas.List.Folds.{list_any-append}
use Rattle.value_sources.specs.Finds.{Finds}
use Rattle.mentions_names.specs.Ways.{Extends}
use Rattle.mentions_names.specs.declared.ways.Step.{Step}

module _ {K : Type 0} (E : K → K → Bool) where
  abbrev pub number : List K → K → ℕ
  number set x = position_or_len (E x) set

  abbrev pub is_listed : List K → K → Bool
  is_listed set x = list_any (E x) set

  abbrev pub with_key : List K → K → List K
  with_key set x = cond (is_listed set x) set (set ++ x ∷ [])

  -- the number of a listed key stays
  pub number-stays : (set more : List K) (x : K) → is_listed set x ≡ true → number (set ++ more) x ≡ number set x
  number-stays [] more x h = cc
  number-stays (z ∷ zs) more x h = by (E x z) h (number-stays zs more x)
    where
      by : (b : Bool) → (b || is_listed zs x) ≡ true → (is_listed zs x ≡ true → number (zs ++ more) x ≡ number zs x)
          → cond (not b) (1 + number (zs ++ more) x) 0 ≡ cond (not b) (1 + number zs x) 0
      by true h k = refl
      by false h k = ap (λ n. 1 + n) (k h)

  pub listed-stays : (set more : List K) (x : K) → is_listed set x ≡ true → is_listed (set ++ more) x ≡ true
  listed-stays set more x h = list_any-append (E x) set more ∙ ap (λ b. b || is_listed more x) h

  module _ (f : Finds E) where
    -- the number of a new key, and whether it is listed then
    pub number-own : (set : List K) (x : K) → number (with_key set x) x ≡ number set x
    number-own set x = by (is_listed set x) refl
      where
        at-end : (zs : List K) → is_listed zs x ≡ false → number (zs ++ x ∷ []) x ≡ number zs x
        at-end [] h = ap (λ b. cond (not b) (1 + 0) 0) (f.self x)
        at-end (z ∷ zs) h = step (E x z) h (at-end zs)
          where
            step : (b : Bool) → (b || is_listed zs x) ≡ false → (is_listed zs x ≡ false → number (zs ++ x ∷ []) x ≡ number zs x)
                → cond (not b) (1 + number (zs ++ x ∷ []) x) 0 ≡ cond (not b) (1 + number zs x) 0
            step true h k = refl
            step false h k = ap (λ n. 1 + n) (k h)

        by : (b : Bool) → is_listed set x ≡ b → number (cond b set (set ++ x ∷ [])) x ≡ number set x
        by true h = refl
        by false h = at-end set h

    pub listed-own : (set : List K) (x : K) → is_listed (with_key set x) x ≡ true
    listed-own set x = by (is_listed set x) refl
      where
        by : (b : Bool) → is_listed set x ≡ b → is_listed (cond b set (set ++ x ∷ [])) x ≡ true
        by true h = h
        by false h = list_any-append (E x) set (x ∷ []) ∙ ap (λ b. is_listed set x || (b || false)) (f.self x) ∙ or-true (is_listed set x)

    -- listed keys with one number are equal
    same-number : (set : List K) (x y : K) → is_listed set x ≡ true → is_listed set y ≡ true → number set x ≡ number set y → x ≡ y
    same-number [] x y h k e = cc
    same-number (z ∷ zs) x y h k e = by (E x z) (E y z) refl refl h k e (same-number zs x y)
      where
        by : (b c : Bool) → E x z ≡ b → E y z ≡ c → (b || is_listed zs x) ≡ true → (c || is_listed zs y) ≡ true
            → cond (not b) (1 + number zs x) 0 ≡ cond (not c) (1 + number zs y) 0
            → (is_listed zs x ≡ true → is_listed zs y ≡ true → number zs x ≡ number zs y → x ≡ y) → x ≡ y
        by true true p q h k e r = f.equal x z p ∙ sym (f.equal y z q)
        by true false p q h k e r = absurd (omega arith)
        by false true p q h k e r = absurd (omega arith)
        by false false p q h k e r = r h k (omega arith)

    -- numbers are the same exactly where the keys are
    pub numbers-tell : (set : List K) (x y : K) → is_listed set x ≡ true → is_listed set y ≡ true → nat_eq (number set x) (number set y) ≡ E x y
    numbers-tell set x y h k = by (nat_eq (number set x) (number set y)) (E x y) refl refl (same-number set x y h k)
      where
        by : (b c : Bool) → nat_eq (number set x) (number set y) ≡ b → E x y ≡ c → (number set x ≡ number set y → x ≡ y) → b ≡ c
        by true true p q r = refl
        by false false p q r = refl
        by true false p q r =
            let same : x ≡ y = r (eqb-true (number set x) (number set y) p) in
            sym (f.self x) ∙ ap (E x) same ∙ q
        by false true p q r =
            let same : x ≡ y = f.equal x y q in
            sym p ∙ ap (λ z. nat_eq (number set x) (number set z)) (sym same) ∙ nat_eq_equiv.refl (number set x)

-- steps that were made stay
pub extends-with : (E : Step → Step → Bool) (set : List Step) (x : Step) → Extends set (with_key E set x)
extends-with E set x = by (is_listed E set x)
  where
    by : (b : Bool) → Extends set (cond b set (set ++ x ∷ []))
    by true = record { more = []; is_more = sym (append-nil set) }
    by false = record { more = x ∷ []; is_more = refl }

pub extends-same : (set : List Step) → Extends set set
extends-same set = record { more = []; is_more = sym (append-nil set) }

pub extends-then : (a b c : List Step) → Extends a b → Extends b c → Extends a c
extends-then a b c p q = record {
  more = p.more ++ q.more;
  is_more = q.is_more ∙ ap (λ l. l ++ q.more) p.is_more ∙ append_assoc a p.more q.more;
}
