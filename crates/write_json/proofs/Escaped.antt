-- Texts as they stand in JSON strings.
use Rattle.std.proofs.Common.{◌≡◌, ◌≢◌, ◌<◌, ◌≤◌, ◌/◌, ◌%◌, ◌+◌, ℕ, List, [], ◌∷◌, ◌++◌, sym, ap, ◌∙◌, append-nil, arith, not, nat_eq, nat_lt, inl, inr, true, false}
use Rattle.std.specs.Bool.{OnTrue}
use Rattle.std.specs.Char.{encode_utf8, digit_char}
use Rattle.std.proofs.lemmas.Grind.{flat_map-append}
use Rattle.std.proofs.lemmas.Str.{encode_ascii}
use Rattle.std.proofs.lemmas.Bool.{cases_lt, cases_eq, false≢true, lt-ltb, le-ltb, ne_eqb, cond-true, cond-false}
use Rattle.std.proofs.lemmas.Bool.Decides.{nat_tests}
use Rattle.json.specs.Print.{escape_letter, escape_byte, escape}
use Rattle.json.proofs.Printed.Strings.{escape_byte_plain}

-- of a byte that no test before has caught
pub plain_unless_backslash : (x : ℕ) → 32 ≤ x → x ≢ 34 → OnTrue (not (nat_eq x 92)) (escape_byte x ≡ x ∷ [])
plain_unless_backslash x h q = elim (cases_eq x 92) [
  | inl same ↦ rw same tt
  | inr other ↦ grind (arith, nat_tests, escape_byte_plain x q other h)
]

pub escape-append : (s t : List ℕ) → escape (s ++ t) ≡ escape s ++ escape t
escape-append s t = flat_map-append escape_byte s t

escape_ascii : (c : ℕ) → c < 128 → escape (encode_utf8 c) ≡ escape_byte c
escape_ascii c small = ap escape (encode_ascii c small) ∙ append-nil (escape_byte c)

letter_wide : (c : ℕ) → 128 ≤ c → escape_letter c ≡ 0
letter_wide c wide = rw (
  ne_eqb c 34 (λ e. omega arith),
  ne_eqb c 92 (λ e. omega arith),
  ne_eqb c 8 (λ e. omega arith),
  ne_eqb c 12 (λ e. omega arith),
  ne_eqb c 10 (λ e. omega arith),
  ne_eqb c 13 (λ e. omega arith),
  ne_eqb c 9 (λ e. omega arith),
)

letter_small : (c : ℕ) → 0 < escape_letter c → c < 128
letter_small c some = elim (cases_lt c 128) [
  | inl small ↦ small
  | inr wide ↦ let none = letter_wide c wide in absurd (omega arith)
]

-- the letter of a character that has none
pub no_letter : (n : ℕ) → (0 < n → false ≡ true) → n ≡ 0
no_letter n none = elim (cases_lt 0 n) [
  | inl some ↦ absurd (false≢true (none some))
  | inr low ↦ omega arith
]

-- of a character with a letter
pub escape_short : (c : ℕ) → 0 < escape_letter c → escape (encode_utf8 c) ≡ 92 ∷ escape_letter c ∷ []
unfolding escape_byte
escape_short c has = escape_ascii c (letter_small c has) ∙ cond-true (nat_lt 0 (escape_letter c)) _ _ (lt-ltb 0 (escape_letter c) has)

-- of a control character with no letter
pub escape_control : (c : ℕ) → escape_letter c ≡ 0 → c < 32 → escape (encode_utf8 c) ≡ 92 ∷ 117 ∷ 48 ∷ 48 ∷ digit_char (c / 16) ∷ digit_char (c % 16) ∷ []
unfolding escape_byte
escape_control c none small =
    escape_ascii c (omega arith)
    ∙ cond-false (nat_lt 0 (escape_letter c)) _ _ (le-ltb 0 (escape_letter c) (omega arith))
    ∙ cond-true (nat_lt c 32) _ _ (lt-ltb c 32 small)

high : (x : ℕ) → 128 ≤ x → escape_byte x ≡ x ∷ []
high x h = escape_byte_plain x (λ e. omega arith) (λ e. omega arith) (omega arith)

escape_wide : (c : ℕ) → 128 ≤ c → escape (encode_utf8 c) ≡ encode_utf8 c
unfolding encode_utf8
escape_wide c h = elim (cases_lt c 2048) [
  | inl two ↦ rw (le-ltb c 128 h, lt-ltb c 2048 two, high (192 + c / 64) (omega arith), high (128 + c % 64) (omega arith))
  | inr more ↦ elim (cases_lt c 65536) [
    | inl three ↦ rw (le-ltb c 128 h, le-ltb c 2048 more, lt-ltb c 65536 three, high (224 + c / 4096) (omega arith), high (128 + c / 64 % 64) (omega arith), high (128 + c % 64) (omega arith))
    | inr four ↦ rw (le-ltb c 128 h, le-ltb c 2048 more, le-ltb c 65536 four, high (240 + c / 262144) (omega arith), high (128 + c / 4096 % 64) (omega arith), high (128 + c / 64 % 64) (omega arith), high (128 + c % 64) (omega arith))
  ]
]

-- of any other character
pub escape_plain : (c : ℕ) → escape_letter c ≡ 0 → 32 ≤ c → escape (encode_utf8 c) ≡ encode_utf8 c
unfolding escape_byte
escape_plain c none large = elim (cases_lt c 128) [
  | inl small ↦
      escape_ascii c small
      ∙ cond-false (nat_lt 0 (escape_letter c)) _ _ (le-ltb 0 (escape_letter c) (omega arith))
      ∙ cond-false (nat_lt c 32) _ _ (le-ltb c 32 large)
      ∙ sym (encode_ascii c small)
  | inr wide ↦ escape_wide c wide
]
