-- Years in words.
use Rattle.std.specs.Prelude.{ℕ, zero, suc, ◌+◌, ◌/◌, ◌%◌, ℤ, pos, negsuc, Bool, ◌&&◌, List, [], ◌++◌, nat_lt, nat_le, if◌then◌else◌}
use Rattle.std.specs.Fmt.{decimal}

abbrev pub two_digits : ℕ → List ℕ
two_digits n = decimal (n / 10) ++ decimal (n % 10)

-- a year after Christ: in short the last two of four digits and more; else its digits, and behind
-- those of a year before 1000 the text for after Christ
abbrev pub year_after : ℕ → Bool → List ℕ → List ℕ
year_after n short ad =
    if (short && nat_le 1000 n) then two_digits (n % 100)
    else (decimal n ++ (if nat_lt n 1000 then ad else []))

-- a year: the one before 1 is the first before Christ, which is written as 1, and so on
abbrev pub year_text : ℤ → Bool → List ℕ → List ℕ → List ℕ
year_text (pos (suc n)) short ad bc = year_after (suc n) short ad
year_text (pos zero) short ad bc = decimal 1 ++ bc
year_text (negsuc n) short ad bc = decimal (n + 2) ++ bc
