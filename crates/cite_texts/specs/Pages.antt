-- The second number of a page range (CSL 1.0.2, "Page Ranges"). Numbers are lists of their digits.
use Rattle.std.specs.Prelude.{ℕ, ◌-◌, Bool, ◌&&◌, ◌||◌, List, ◌++◌, if◌then◌else◌, length, take, drop, min, nat_eq, nat_lt, slice_index}
use Rattle.std.specs.List.{common_prefix_len, suffix_len}
use Rattle.std.specs.Char.{is_ascii_digit}
use Rattle.style_file.specs.declared.style.PageRangeFormat.{PageRangeFormat}
use Rattle.style_file.specs.declared.style.PageRangeFormat.TheVariants.{ChicagoFifteen, ChicagoSixteen, Expanded, Minimal, MinimalTwo}

-- where the digits begin that a word ends in
abbrev pub number_start : List ℕ → ℕ
number_start word = length word - suffix_len is_ascii_digit word

abbrev pub number_of : List ℕ → List ℕ
number_of word = drop (number_start word) word

abbrev pub prefix_of : List ℕ → List ℕ
prefix_of word = take (number_start word) word

-- the second number as a reader knows it: before the digits that are shown stand those of the first
-- number that they lack
abbrev pub whole_number : List ℕ → List ℕ → List ℕ
whole_number first shown = take (length first - length shown) first ++ shown

-- how many digits both numbers begin with
abbrev pub common_digits : List ℕ → List ℕ → ℕ
common_digits = common_prefix_len nat_eq

-- the digits of the second number that are shown: those behind the digits that both begin with, and
-- so many at least. All of them where one number has more digits
abbrev pub changed_digits : List ℕ → List ℕ → ℕ → List ℕ
changed_digits first whole kept =
    if nat_eq (length first) (length whole)
    then drop (min (common_digits first whole) (length whole - kept)) whole else whole

-- numbers of four digits of which three change at least
abbrev pub changes_three_of_four : List ℕ → List ℕ → Bool
changes_three_of_four first whole = nat_eq (length first) 4 && nat_eq (length whole) 4
    && nat_lt (common_digits first whole) 2

-- the last digit but one is 0
abbrev pub is_early_in_its_hundred : List ℕ → Bool
is_early_in_its_hundred number = nat_lt 1 (length number)
    && nat_eq (slice_index number (length number - 2)) 48

-- fewer than three digits, or a multiple of 100
abbrev pub is_short_or_round : List ℕ → Bool
is_short_or_round number = nat_lt (length number) 3
    || (nat_eq (slice_index number (length number - 1)) 48
    && nat_eq (slice_index number (length number - 2)) 48)

-- The Chicago Manual of Style: all digits behind a number below 100 or a multiple of 100, the
-- changed ones behind one that ends in 01 to 09, and two at least behind any other
abbrev pub chicago_digits : List ℕ → List ℕ → ℕ
chicago_digits first whole = if is_short_or_round first then length whole
    else (if is_early_in_its_hundred first then 1 else 2)

-- how many digits of the second number a format shows at least
abbrev pub least_digits : PageRangeFormat → List ℕ → List ℕ → ℕ
least_digits ChicagoFifteen first whole =
    if changes_three_of_four first whole then length whole else chicago_digits first whole
least_digits ChicagoSixteen first whole = chicago_digits first whole
least_digits Expanded first whole = length whole
least_digits Minimal first whole = 1
least_digits MinimalTwo first whole = 2

-- the digits of the second number that a format shows
abbrev pub shown_digits : PageRangeFormat → List ℕ → List ℕ → List ℕ
shown_digits format first whole = changed_digits first whole (least_digits format first whole)
