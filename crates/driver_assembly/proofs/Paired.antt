-- Members of two lists at one index.
use Rattle.std.proofs.Common.{◌≡◌, ℕ, zero, suc, ◌<◌, ◌≤◌, List, [], ◌∷◌, Option, None, Some, length, get_or, refl, sym, arith}
use Rattle.std.specs.List.{zip}
use Rattle.std.specs.Prelude.{option_map}
use Rattle.std.proofs.lemmas.Slice.Zip.{get_or-zip}

pub pair-within : {A B : Type 0} (ks : List A) (vs : List B) (k : ℕ) → k < length ks → k < length vs → k < length (zip ks vs)
pair-within [] vs k h g = absurd (omega (arith, h))
pair-within (a ∷ ks) [] k h g = absurd (omega (arith, g))
pair-within (a ∷ ks) (b ∷ vs) zero h g = omega arith
pair-within (a ∷ ks) (b ∷ vs) (suc k) h g = let further = pair-within ks vs k (omega (arith, h)) (omega (arith, g)) in omega (arith, further)

pub pair-past : {A B : Type 0} (ks : List A) (vs : List B) (k : ℕ) → length ks ≤ k → length (zip ks vs) ≤ k
pair-past [] vs k h = omega arith
pair-past (a ∷ ks) [] k h = omega arith
pair-past (a ∷ ks) (b ∷ vs) zero h = absurd (omega (arith, h))
pair-past (a ∷ ks) (b ∷ vs) (suc k) h = let further = pair-past ks vs k (omega (arith, h)) in omega (arith, further)

pub pair-here : {A B : Type 0} (ks : List A) (vs : List B) (k : ℕ) (d : A) (e : B) → k < length ks → k < length vs → (get_or ks k d, get_or vs k e) ≡ get_or (zip ks vs) k (d, e)
pair-here ks vs k d e h g = sym (get_or-zip ks vs k (d, e) h g)

-- what is found, beside something else
pub twice : {A B C : Type 0} (o : Option A) (f : A → B) (m : C) → option_map {U = B × C} (λ b. (b, m)) (option_map f o) ≡ option_map {U = B × C} (λ a. (f a, m)) o
twice None f m = refl
twice (Some a) f m = refl
