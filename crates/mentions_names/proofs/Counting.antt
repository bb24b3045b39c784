-- The greatest of numbers and of forms that are asked for by members of a list.
use Rattle.std.proofs.Common.{◌≡◌, ◌≢◌, ℕ, ◌+◌, ◌<◌, ◌≤◌, zero, suc, Bool, true, false, cond, ◌||◌, List, [], ◌∷◌, ◌++◌, map, max, refl, ap, sym, ◌∙◌, arith, true≢false}
use Rattle.std.specs.Prelude.{nat_eq}
use Rattle.std.specs.List.{fold, list_any, range_with_len}
use Rattle.std.proofs.lemmas.Bool.{eqb-false, eqb-true, ne_eqb}
use Rattle.value_sources.specs.declared.names.DisambiguatedNameForm.{DisambiguatedNameForm}
use Rattle.mentions_names.specs.Forms.{greater, greatest_form}
use Rattle.mentions_names.specs.Gathered.{count_of}
use Rattle.mentions_names.specs.Rivals.{form_by}
use Rattle.mentions_names.specs.Telling.{greatest}

pub greatest-push : (ns : List ℕ) (n : ℕ) → greatest (ns ++ n ∷ []) ≡ max n (greatest ns)
greatest-push [] n = refl
greatest-push (m ∷ ms) n = let rest = greatest-push ms n in omega (arith, rest)

module _ {X : Type 0} where
  pub greatest-same : (f h : X → ℕ) → ((x : X) → f x ≡ h x) → (xs : List X) → greatest (map f xs) ≡ greatest (map h xs)
  greatest-same f h e [] = refl
  greatest-same f h e (x ∷ xs) = λ i. max (e x i) (greatest-same f h e xs i)

  pub greatest-zero : (xs : List X) → greatest (map (λ x. 0) xs) ≡ 0
  greatest-zero [] = refl
  greatest-zero (x ∷ xs) = let rest = greatest-zero xs in omega (arith, rest)

  greatest-max : (f h : X → ℕ) (xs : List X) → greatest (map (λ x. max (f x) (h x)) xs) ≡ max (greatest (map f xs)) (greatest (map h xs))
  greatest-max f h [] = refl
  greatest-max f h (x ∷ xs) = let rest = greatest-max f h xs in omega (arith, rest)

  -- in either order
  pub greatest-swap : {Y : Type 0} (f : Y → X → ℕ) (ys : List Y) (xs : List X)
      → greatest (map (λ y. greatest (map (f y) xs)) ys) ≡ greatest (map (λ x. greatest (map (λ y. f y x) ys)) xs)
  greatest-swap f [] xs = sym (greatest-zero xs)
  greatest-swap f (y ∷ ys) xs =
      ap (max (greatest (map (f y) xs))) (greatest-swap f ys xs)
      ∙ sym (greatest-max (f y) (λ x. greatest (map (λ z. f z x) ys)) xs)

  -- where each asks for so many names because it goes on, or because it ends
  pub greatest-asked : (i : ℕ) (p q : X → Bool) (xs : List X) → greatest (map (λ x. count_of i (p x) (q x)) xs) ≡ count_of i (list_any p xs) (list_any q xs)
  greatest-asked i p q [] = refl
  greatest-asked i p q (x ∷ xs) = ap (max (count_of i (p x) (q x))) (greatest-asked i p q xs) ∙ by (p x) (q x) (list_any p xs) (list_any q xs)
    where
      by : (a b c d : Bool) → max (count_of i a b) (count_of i c d) ≡ count_of i (a || c) (b || d)
      by true b true d = omega arith
      by true b false true = omega arith
      by true b false false = omega arith
      by false true true d = omega arith
      by false true false true = omega arith
      by false true false false = omega arith
      by false false true d = omega arith
      by false false false true = omega arith
      by false false false false = omega arith

  pub greatest-ended : (i : ℕ) (p : X → Bool) (xs : List X) → greatest (map (λ x. cond (p x) i 0) xs) ≡ cond (list_any p xs) i 0
  greatest-ended i p [] = refl
  greatest-ended i p (x ∷ xs) = ap (max (cond (p x) i 0)) (greatest-ended i p xs) ∙ by (p x) (list_any p xs)
    where
      by : (a b : Bool) → max (cond a i 0) (cond b i 0) ≡ cond (a || b) i 0
      by true true = omega arith
      by true false = omega arith
      by false true = omega arith
      by false false = omega arith

-- one number alone has a value
pub greatest-nowhere : (d v a n : ℕ) → d < a → greatest (map (λ i. cond (nat_eq d i) v 0) (range_with_len a n)) ≡ 0
greatest-nowhere d v a zero h = refl
greatest-nowhere d v a (suc n) h =
    let off : nat_eq d a ≡ false = ne_eqb d a (λ e. omega (arith, e)) in
    let here : cond (nat_eq d a) v 0 ≡ 0 = ap (λ b. cond b v 0) off in
    let rest = greatest-nowhere d v (a + 1) n (omega arith) in
    omega (arith, here, rest)

pub greatest-at : (d v a n : ℕ) → a ≤ d → d < a + n → greatest (map (λ i. cond (nat_eq d i) v 0) (range_with_len a n)) ≡ v
greatest-at d v a zero l u = absurd (omega arith)
greatest-at d v a (suc n) l u = by (nat_eq d a) refl (λ k. greatest-at d v (a + 1) n k (omega arith))
  where
    by : (b : Bool) → nat_eq d a ≡ b → (a + 1 ≤ d → greatest (map (λ i. cond (nat_eq d i) v 0) (range_with_len (a + 1) n)) ≡ v)
        → max (cond (nat_eq d a) v 0) (greatest (map (λ i. cond (nat_eq d i) v 0) (range_with_len (a + 1) n))) ≡ v
    by true e later =
        let same : d ≡ a = eqb-true d a e in
        let here : cond (nat_eq d a) v 0 ≡ v = ap (λ b. cond b v 0) e in
        let rest = greatest-nowhere d v (a + 1) n (omega (arith, same)) in
        omega (arith, here, rest)
    by false e later =
        let here : cond (nat_eq d a) v 0 ≡ 0 = ap (λ b. cond b v 0) e in
        let ne : d ≢ a = eqb-false d a e in
        let rest = later (omega (arith, ne)) in
        omega (arith, here, rest)

-- the greatest form that is asked for by those who have a family name, and by those who have the initials too
module _ {X : Type 0} (given : Bool) (p q : X → Bool) where
  by-two : (a b : Bool) → DisambiguatedNameForm
  by-two a b = form_by given (a || b) b

  joins : (given a b c d : Bool) → greater (form_by given (a || b) b) (form_by given (c || d) d) ≡ form_by given ((a || c) || (b || d)) (b || d)
  joins false a b c d = refl
  joins true true true true true = refl
  joins true true true true false = refl
  joins true true true false true = refl
  joins true true true false false = refl
  joins true true false true true = refl
  joins true true false true false = refl
  joins true true false false true = refl
  joins true true false false false = refl
  joins true false true true true = refl
  joins true false true true false = refl
  joins true false true false true = refl
  joins true false true false false = refl
  joins true false false true true = refl
  joins true false false true false = refl
  joins true false false false true = refl
  joins true false false false false = refl

  or-assoc : (a b c : Bool) → ((a || b) || c) ≡ (a || (b || c))
  or-assoc true b c = refl
  or-assoc false b c = refl

  from : (a b : Bool) (xs : List X) → fold greater (form_by given (a || b) b) (map (λ x. form_by given (p x || q x) (q x)) xs)
      ≡ form_by given ((a || list_any p xs) || (b || list_any q xs)) (b || list_any q xs)
  from a b [] = λ i. form_by given (or-no a i || or-no b i) (or-no b i)
    where
      or-no : (c : Bool) → c ≡ (c || false)
      or-no true = refl
      or-no false = refl
  from a b (x ∷ xs) =
      ap (λ f. fold greater f (map (λ y. form_by given (p y || q y) (q y)) xs)) (joins given a b (p x) (q x))
      ∙ from (a || p x) (b || q x) xs
      ∙ (λ i. form_by given (or-assoc a (p x) (list_any p xs) i || or-assoc b (q x) (list_any q xs) i) (or-assoc b (q x) (list_any q xs) i))

  start : (given : Bool) → DisambiguatedNameForm.Short ≡ form_by given false false
  start true = refl
  start false = refl

  greatest-either : (xs : List X) → greatest_form (map (λ x. form_by given (p x || q x) (q x)) xs) ≡ form_by given (list_any p xs || list_any q xs) (list_any q xs)
  greatest-either xs = ap (λ f. fold greater f (map (λ x. form_by given (p x || q x) (q x)) xs)) (start given) ∙ from false false xs

  module _ (implied : (x : X) → q x ≡ true → p x ≡ true) where
    either : (a b : Bool) → (b ≡ true → a ≡ true) → (a || b) ≡ a
    either true b h = refl
    either false true h = sym (h refl)
    either false false h = refl

    forms-alike : (xs : List X) → map (λ x. form_by given (p x) (q x)) xs ≡ map (λ x. form_by given (p x || q x) (q x)) xs
    forms-alike [] = refl
    forms-alike (x ∷ xs) = λ i. form_by given (sym (either (p x) (q x) (implied x)) i) (q x) ∷ forms-alike xs i

    any-implied : (xs : List X) → list_any q xs ≡ true → list_any p xs ≡ true
    any-implied [] e = e
    any-implied (x ∷ xs) e = by (p x) (q x) (implied x) e (any-implied xs)
      where
        by : (a b : Bool) → (b ≡ true → a ≡ true) → (b || list_any q xs) ≡ true → (list_any q xs ≡ true → list_any p xs ≡ true)
            → (a || list_any p xs) ≡ true
        by true b h e rest = refl
        by false true h e rest = absurd (true≢false (sym (h refl)))
        by false false h e rest = rest e

    pub greatest-form-asked : (xs : List X) → greatest_form (map (λ x. form_by given (p x) (q x)) xs) ≡ form_by given (list_any p xs) (list_any q xs)
    greatest-form-asked xs =
        ap greatest_form (forms-alike xs) ∙ greatest-either xs ∙ ap (λ b. form_by given b (list_any q xs)) (either (list_any p xs) (list_any q xs) (any-implied xs))

pub greatest-short : {X : Type 0} (xs : List X) → greatest_form (map (λ x. DisambiguatedNameForm.Short) xs) ≡ DisambiguatedNameForm.Short
greatest-short [] = refl
greatest-short (x ∷ xs) = greatest-short xs
