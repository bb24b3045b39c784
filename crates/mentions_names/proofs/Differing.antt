-- The first place at which two lists of looks differ, and what stands there.
use Rattle.std.proofs.Common.{◌≡◌, ℕ, ◌+◌, ◌<◌, ◌≤◌, zero, suc, Bool, true, false, cond, not, ◌&&◌, Some, None, Option, List, [], ◌∷◌, length, take, refl, ap, sym, ◌∙◌, arith, add-one, length-take}
use Rattle.std.specs.Prelude.{nat_eq, slice_get}
use Rattle.std.specs.Option.{option_eq, option_map}
use Rattle.std.proofs.Math.Dec.{eqb-suc-suc, eqb-suc-zero, eqb-zero-suc}
use Rattle.std.proofs.lemmas.Option.{none-some, same_Some}
use Rattle.value_sources.specs.Finds.{lists_find}
use Rattle.mentions_names.specs.Looks.{same_look}
use Rattle.mentions_names.specs.Telling.{first_difference}
use Rattle.mentions_names.specs.declared.look.Look.{Look}
use Rattle.mentions_names.proofs.Deciding.{looks_find}
use Rattle.mentions_names.proofs.Leading.{same_looks}

-- i is that place
abbrev pub is_place : ℕ → Option ℕ → Bool
is_place i d = option_eq nat_eq d (Some i)

pub differs-at : (r s : List Look) (i : ℕ)
    → is_place i (first_difference r s) ≡ (same_looks (take i r) (take i s) && not (option_eq same_look (slice_get r i) (slice_get s i)))
differs-at [] [] zero = refl
differs-at [] [] (suc i) = refl
differs-at [] (y ∷ ys) zero = refl
differs-at [] (y ∷ ys) (suc i) = eqb-zero-suc i
differs-at (x ∷ xs) [] zero = refl
differs-at (x ∷ xs) [] (suc i) = eqb-zero-suc i
differs-at (x ∷ xs) (y ∷ ys) i = by (same_look x y) refl i (differs-at xs ys)
  where
    later : (d : Option ℕ) (i : ℕ) → is_place (suc i) (option_map (λ n. n + 1) d) ≡ is_place i d
    later None i = refl
    later (Some n) i = ap (λ m. nat_eq m (suc i)) (add-one n) ∙ eqb-suc-suc n i

    never : (d : Option ℕ) → is_place zero (option_map (λ n. n + 1) d) ≡ false
    never None = refl
    never (Some n) = ap (λ m. nat_eq m zero) (add-one n) ∙ eqb-suc-zero n

    by : (b : Bool) → same_look x y ≡ b → (i : ℕ)
        → ((j : ℕ) → is_place j (first_difference xs ys) ≡ (same_looks (take j xs) (take j ys) && not (option_eq same_look (slice_get xs j) (slice_get ys j))))
        → is_place i (cond b (option_map (λ n. n + 1) (first_difference xs ys)) (Some 0))
        ≡ (same_looks (take i (x ∷ xs)) (take i (y ∷ ys)) && not (option_eq same_look (slice_get (x ∷ xs) i) (slice_get (y ∷ ys) i)))
    by true e zero rest = never (first_difference xs ys) ∙ sym (ap not e)
    by true e (suc i) rest =
        later (first_difference xs ys) i ∙ rest i
        ∙ sym (ap (λ b. (b && same_looks (take i xs) (take i ys)) && not (option_eq same_look (slice_get xs i) (slice_get ys i))) e)
    by false e zero rest = sym (ap not e)
    by false e (suc i) rest =
        eqb-zero-suc i
        ∙ sym (ap (λ b. (b && same_looks (take i xs) (take i ys)) && not (option_eq same_look (slice_get xs i) (slice_get ys i))) e)

-- lists that begin with the same looks go so far both
pub as-far : (r s : List Look) (i : ℕ) → i ≤ length r → length s < i → same_looks (take i r) (take i s) ≡ false
as-far r s i h l = by (same_looks (take i r) (take i s)) refl
  where
    by : (b : Bool) → same_looks (take i r) (take i s) ≡ b → b ≡ false
    by false e = refl
    by true e =
        let same : length (take i r) ≡ length (take i s) = ap length ((lists_find looks_find).equal (take i r) (take i s) e) in
        let one = length-take i r in
        let other = length-take i s in
        absurd (omega (arith, one, other, same))

-- the place is at most the end of both
pub within-both : (r s : List Look) (d : ℕ) → first_difference r s ≡ Some d → d ≤ length r
within-both [] [] d e = absurd (none-some d e)
within-both [] (y ∷ ys) d e = let n : 0 ≡ d = same_Some 0 d e in omega (arith, n)
within-both (x ∷ xs) [] d e = let n : 0 ≡ d = same_Some 0 d e in omega (arith, n)
within-both (x ∷ xs) (y ∷ ys) d e = by (same_look x y) e (first_difference xs ys) refl (within-both xs ys)
  where
    by : (b : Bool) → cond b (option_map (λ n. n + 1) (first_difference xs ys)) (Some 0) ≡ Some d → (o : Option ℕ) → first_difference xs ys ≡ o
        → ((n : ℕ) → first_difference xs ys ≡ Some n → n ≤ length xs) → d ≤ length (x ∷ xs)
    by false q o p later = let n : 0 ≡ d = same_Some 0 d q in omega (arith, n)
    by true q None p later = absurd (none-some d (sym (ap (option_map (λ n. n + 1)) p) ∙ q))
    by true q (Some n) p later =
        let is : Some (n + 1) ≡ Some d = sym (ap (option_map (λ m. m + 1)) p) ∙ q in
        let same : n + 1 ≡ d = same_Some (n + 1) d is in
        let rest = later n p in
        omega (arith, same, rest)
