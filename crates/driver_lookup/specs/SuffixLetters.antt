-- The letters of a year suffix, from `a` on.
use Rattle.std.specs.Prelude.{◌≡◌, ℕ, zero, suc, ◌+◌, ◌-◌, ◌*◌, ◌/◌, ◌%◌, ◌≤◌, List, [], ◌∷◌, ◌++◌, nat_lt, fold, All, if◌then◌else◌}
use Prim.Native.Char.{code}

-- the last letter
abbrev pub letter : ℕ → ℕ
letter n = code "a" + n % 26

-- the letters of n, where there are at most `most` before the last
abbrev pub letters_within : ℕ → ℕ → List ℕ
letters_within zero n = letter n ∷ []
letters_within (suc most) n = (if nat_lt n 26 then [] else letters_within most (n / 26 - 1))
    ++ letter n ∷ []

-- `a` to `z`, and then, before each of these letters, the letters of what is before: `aa`, `ab`
unfoldable pub suffix_letters : ℕ → List ℕ
suffix_letters n = letters_within n n

-- what letters are worth: `a` is 1 and `z` 26, and each letter more makes what is before it worth
-- 26 times as much
abbrev pub worth : List ℕ → ℕ
worth = fold (λ sum l. sum * 26 + (l - code "a" + 1)) 0

abbrev pub IsSmallLetter : ℕ → Type 0
IsSmallLetter l = (code "a" ≤ l) × (l ≤ code "z")

-- the letters of n are `a` to `z`, and worth n + 1
pub record AreLettersOf (n : ℕ) (text : List ℕ) : Type 0 where
  pub small : All IsSmallLetter text
  pub worth_more : worth text ≡ n + 1

-- no other letters are, so different numbers have different letters
pub record SuffixesDiffer : Type 0 where
  pub letters : (n : ℕ) → AreLettersOf n (suffix_letters n)
  pub different : (m n : ℕ) → suffix_letters m ≡ suffix_letters n → m ≡ n
