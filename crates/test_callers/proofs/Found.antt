-- Each of the numbers that the law of numbers speaks of stands at the place of an entry.
use Rattle.std.proofs.Common.{◌≡◌, ℕ, zero, suc, ◌+◌, ◌-◌, ◌<◌, ◌≤◌, Bool, true, false, cond, not, List, [], ◌∷◌, ◌++◌, Some, get_or, length, refl, ap, sym, subst, ◌∙◌, true≢false, arith}
use Rattle.std.specs.Prelude.{Contains, nat_eq, position, slice_get}
use Rattle.std.specs.Cmp.{unsigned_Decides}
use Rattle.std.specs.List.{position_or_len, range_with_len}
use Rattle.std.specs.List.Sorted.{IsPermutation}
use Rattle.std.proofs.lemmas.Bool.{lt-ltb}
use Rattle.std.proofs.lemmas.List.FromFn.{get_or-range_with_len, length-range_with_len}
use Rattle.std.proofs.lemmas.List.Quantifiers.{position-Some}
use Rattle.std.proofs.lemmas.Option.{slice_get-get_or}
use Rattle.std.proofs.lemmas.List.Sorted.{Contains-permutation, length_permutation}
use Rattle.csl_driver.specs.AnswerLaws.{HaveNumbersOnce}

in-range : (offset n number : ℕ) → offset ≤ number → number < offset + n → Contains (range_with_len offset n) number
in-range offset n number low high =
    let within : number - offset < n = omega (arith, low, high) in
    let long : number - offset < length (range_with_len offset n) = omega (arith, within, length-range_with_len offset n) in
    let back : offset + (number - offset) ≡ number = omega (arith, low) in
    (number - offset, long, get_or-range_with_len offset n (number - offset) number within ∙ back)

itself : (n : ℕ) → nat_eq n n ≡ true
itself n = (unsigned_Decides n n).1 refl

position-within : (number : ℕ) (numbers : List ℕ) → Contains numbers number → position_or_len (nat_eq number) numbers < length numbers
position-within number [] (k, w, e) = absurd (omega (arith, w))
position-within number (n ∷ ns) c = by (nat_eq number n) refl c (position-within number ns)
  where
    by : (b : Bool) → nat_eq number n ≡ b → Contains (n ∷ ns) number → (Contains ns number → position_or_len (nat_eq number) ns < length ns)
        → position_or_len (nat_eq number) (n ∷ ns) < length (n ∷ ns)
    by true e c more = rw e (omega arith)
    by false e (zero, w, same) more = absurd (true≢false (sym (itself number) ∙ ap (nat_eq number) (sym same) ∙ e))
    by false e (suc k, w, same) more =
        let within : position_or_len (nat_eq number) ns < length ns = more (k, omega (arith, w), same) in
        rw e (omega (arith, within))

-- where the law holds, the place of the first number that is this one is that of an entry
pub record IsFound (number n : ℕ) (numbers : List ℕ) : Type 0 where
  pub within : position_or_len (nat_eq number) numbers < length numbers
  pub as_many : length numbers ≡ n

pub is-found : {E : Type 0} (eq : E → E → Bool) (offset : ℕ) (entries : List E) (numbers : List ℕ) (number : ℕ) → HaveNumbersOnce eq offset entries numbers
    → offset ≤ number → number < offset + length entries → IsFound number (length entries) numbers
is-found eq offset entries numbers number law low high =
    let whole = range_with_len offset (length entries) in
    record {
      within = position-within number numbers (Contains-permutation whole numbers number law.each_once (in-range offset (length entries) number low high));
      as_many = length_permutation whole numbers law.each_once ∙ length-range_with_len offset (length entries);
    }

-- where a number was found it stands, and it is found where it stands
pub stands : (number : ℕ) (numbers : List ℕ) (place : ℕ) → Some place ≡ position (nat_eq number) numbers → slice_get numbers place ≡ Some number
stands number numbers place h =
    let p = position-Some (nat_eq number) numbers place 0 (sym h) in
    slice_get-get_or numbers place 0 p.0 ∙ ap Some (sym ((unsigned_Decides number (get_or numbers place 0)).0 p.1))

pub there : (number : ℕ) (numbers : List ℕ) → position_or_len (nat_eq number) numbers < length numbers → position (nat_eq number) numbers ≡ Some (position_or_len (nat_eq number) numbers)
there number numbers within = rw (lt-ltb (position_or_len (nat_eq number) numbers) (length numbers) within) refl

pub below : (number n : ℕ) (numbers : List ℕ) (place : ℕ) → IsFound number n numbers → Some place ≡ position (nat_eq number) numbers → place < n
below number n numbers place found h =
    let p = position-Some (nat_eq number) numbers place 0 (sym h) in
    omega (arith, p.0, found.as_many)
