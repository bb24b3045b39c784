-- A test that decides equality, and how such tests are put together.
use Rattle.std.specs.Prelude.{◌≡◌, Bool, true, false, ◌&&◌, Option, None, Some, refl, bytes_eq}
use Rattle.std.specs.Option.{option_eq}
use Rattle.std.specs.Bool.{Decides}
use Rattle.std.specs.Cmp.Lexicographic.{pointwise, pointwise_decides}
use Rattle.std.proofs.Common.{ap, sym, ◌∙◌, true≢false}
use Rattle.std.proofs.lemmas.Slice.Eq.{bytes_eq-Decides}

-- a test that is true of equal values alone, and of each value with itself
pub record Finds {K : Type 0} (E : K → K → Bool) : Type 0 where
  pub equal : (a b : K) → E a b ≡ true → a ≡ b
  pub self : (a : K) → E a a ≡ true

pub decides : {K : Type 0} {E : K → K → Bool} → Finds E → (a b : K) → Decides (E a b) (a ≡ b)
decides {E = E} f a b = (f.equal a b, λ p. ap (E a) (sym p) ∙ f.self a)

pub finds : {K : Type 0} {E : K → K → Bool} → ((a b : K) → Decides (E a b) (a ≡ b)) → Finds E
finds d = record { equal = λ a b. (d a b).0; self = λ a. (d a a).1 refl }

pub both : (a b : Bool) → a && b ≡ true → (a ≡ true) × (b ≡ true)
both true b e = (refl, e)
both false b e = absurd (true≢false (sym e))

pub and-true : (a b : Bool) → a ≡ true → b ≡ true → a && b ≡ true
and-true a b p q = rw (p, q)

pub texts_find : Finds bytes_eq
texts_find = finds bytes_eq-Decides

pub options_find : {K : Type 0} {E : K → K → Bool} → Finds E → Finds (option_eq E)
options_find {K = K} {E = E} f = record { equal = equal; self = self }
  where
    equal : (a b : Option K) → option_eq E a b ≡ true → a ≡ b
    equal None None e = refl
    equal (Some x) (Some y) e = ap Some (f.equal x y e)
    equal _ _ e = absurd (true≢false (sym e))

    self : (a : Option K) → option_eq E a a ≡ true
    self None = refl
    self (Some x) = f.self x

pub lists_find : {K : Type 0} {E : K → K → Bool} → Finds E → Finds (pointwise E)
lists_find f = finds (pointwise_decides (decides f))

-- of two pairs, the firsts and the seconds
pub pairs_find : {A B : Type 0} {E : A → A → Bool} {F : B → B → Bool} → Finds E → Finds F
    → Finds {K = A × B} (λ p q. E p.0 q.0 && F p.1 q.1)
pairs_find f g = record {
  equal = λ a b e. let p = both _ _ e in λ i. (f.equal a.0 b.0 p.0 i, g.equal a.1 b.1 p.1 i);
  self = λ a. and-true _ _ (f.self a.0) (g.self a.1);
}
