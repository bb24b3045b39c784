-- A page range that was cut gives back the whole, and a number has digits alone.
use Rattle.std.proofs.Common.{◌≡◌, ℕ, zero, suc, ◌+◌, ◌-◌, ◌<◌, ◌≤◌, Bool, true, false, cond, min, eqb, List, [], ◌∷◌, ◌++◌, length, get_or, take, drop, reverse, inl, inr, refl, sym, ap, subst, ◌∙◌, arith}
use Rattle.std.specs.Char.{is_ascii_digit}
use Rattle.std.specs.List.{suffix_len}
use Rattle.std.specs.Str.{IsAscii, IsCharBoundary}
use Rattle.std.proofs.lemmas.Bool.{cases_lt}
use Rattle.std.proofs.lemmas.Bool.Decides.{Decides-eqb, nat_tests}
use Rattle.std.proofs.lemmas.List.{drop_all, length-drop, take-append-drop, get_or-drop, get_or_past, get_or-reverse}
use Rattle.std.proofs.lemmas.Str.{IsAscii-append, IsAscii-take}
use Rattle.std.proofs.lemmas.List.Sums.{common_prefix_len-le, prefix_len_passes, suffix_len-le-length}
use Rattle.cite_texts.specs.Pages.{changed_digits, whole_number, common_digits, number_start, number_of}

none-right : (xs : List ℕ) → common_digits xs [] ≡ 0
none-right [] = refl
none-right (x ∷ xs) = refl

-- where one number is at its end
pub at-end : (xs ys : List ℕ) (n : ℕ) → length ys ≤ n → common_digits (drop n xs) (drop n ys) ≡ 0
at-end xs ys n h = ap (common_digits (drop n xs)) (drop_all n ys h) ∙ none-right (drop n xs)

one-more : (same : Bool) (n m : ℕ) → suc n ≤ cond same (1 + m) 0 → (same ≡ true) × (n ≤ m)
one-more true n m h = (refl, omega arith)
one-more false n m h = absurd (omega arith)

-- of the digits that both begin with, the first ones are the same
take-common : (first whole : List ℕ) (n : ℕ) → n ≤ common_digits first whole → take n first ≡ take n whole
take-common first whole zero h = refl
take-common [] whole (suc n) h = absurd (omega arith)
take-common (x ∷ xs) [] (suc n) h = absurd (omega arith)
take-common (x ∷ xs) (y ∷ ys) (suc n) h =
    let more = one-more (eqb x y) n (common_digits xs ys) h in
    let same : x ≡ y = (Decides-eqb x y).0 more.0 in
    let rest : take n xs ≡ take n ys = take-common xs ys n more.1 in
    cc

cut-back : (first whole : List ℕ) (n : ℕ) → length first ≡ length whole → n ≤ common_digits first whole → whole_number first (drop n whole) ≡ whole
cut-back first whole n e h =
    let left : length first - length (drop n whole) ≡ n = omega (arith, length-drop n whole, (common_prefix_len-le eqb first whole).1) in
    ap (λ (m : ℕ). take m first ++ drop n whole) left
    ∙ (ap (λ (s : List ℕ). s ++ drop n whole) (take-common first whole n h) ∙ take-append-drop n whole)

none-left-out : (first whole : List ℕ) → length first ≤ length whole → whole_number first whole ≡ whole
none-left-out first whole h =
    let none : length first - length whole ≡ 0 = omega arith in
    ap (λ (m : ℕ). take m first ++ whole) none

by-length : (same : Bool) (first whole : List ℕ) (n : ℕ) → (same ≡ true → length first ≡ length whole) → n ≤ common_digits first whole → length first ≤ length whole
    → whole_number first (cond same (drop n whole) whole) ≡ whole
by-length true first whole n e h l = cut-back first whole n (e refl) h
by-length false first whole n e h l = none-left-out first whole l

-- what is shown of a number gives back the number, where the first one is not longer
pub read-back : (first whole : List ℕ) (kept : ℕ) → length first ≤ length whole → whole_number first (changed_digits first whole kept) ≡ whole
read-back first whole kept h =
    by-length (eqb (length first) (length whole)) first whole (min (common_digits first whole) (length whole - kept))
    (λ e. (Decides-eqb (length first) (length whole)).0 e) (omega arith) h

digit-small : (c : ℕ) → is_ascii_digit c ≡ true → c < 128
digit-small c h = grind (arith, nat_tests)

-- the byte at j, behind which k bytes stand
digit-at : (word : List ℕ) (j k : ℕ) → k + j + 1 ≡ length word → k < suffix_len is_ascii_digit word → get_or word j 0 < 128
digit-at word j k e h =
    let passes : is_ascii_digit (get_or (reverse word) k 0) ≡ true = prefix_len_passes is_ascii_digit (reverse word) k 0 h in
    let inside : k < length word = omega arith in
    let back : length word - 1 - k ≡ j = omega arith in
    let here : get_or (reverse word) k 0 ≡ get_or word j 0 = get_or-reverse word k 0 inside ∙ ap (λ (n : ℕ). get_or word n 0) back in
    digit-small (get_or word j 0) (ap is_ascii_digit (sym here) ∙ passes)

-- behind the place where a number begins stand digits alone
digit-behind : (word : List ℕ) (j : ℕ) → number_start word ≤ j → j < length word → get_or word j 0 < 128
digit-behind word j from inside =
    digit-at word j (length word - 1 - j) (omega arith) (omega (arith, suffix_len-le-length is_ascii_digit word))

-- a word may be cut where its number begins
pub number_cut : (word : List ℕ) (i : ℕ) → i ≡ number_start word → IsCharBoundary word i
number_cut word i e =
    (omega arith, λ inside big. let small : get_or word i 0 < 128 = digit-behind word i (omega arith) inside in absurd (omega arith))

number-small : (word : List ℕ) → IsAscii (number_of word)
number-small word i =
    let here : get_or (number_of word) i 0 ≡ get_or word (number_start word + i) 0 = get_or-drop (number_start word) word i 0 in
    elim (cases_lt (number_start word + i) (length word)) [
      | inl inside ↦ let small : get_or word (number_start word + i) 0 < 128 = digit-behind word (number_start word + i) (omega arith) inside in omega arith
      | inr past ↦ let none : get_or word (number_start word + i) 0 ≡ 0 = get_or_past word (number_start word + i) 0 past in omega arith
    ]

pub number_ascii : (word digits : List ℕ) → digits ≡ number_of word → IsAscii digits
number_ascii word digits e = subst IsAscii (sym e) (number-small word)

pub ascii_whole : (first last whole : List ℕ) → whole ≡ whole_number first last → IsAscii first → IsAscii last → IsAscii whole
ascii_whole first last whole e f l =
    subst IsAscii (sym e)
    (IsAscii-append (take (length first - length last) first) last (IsAscii-take first (length first - length last) f) l)
