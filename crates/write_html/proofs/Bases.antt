-- Tables of superscript characters.
use Rattle.std.proofs.Common.{◌≡◌, ℕ, ◌<◌, true, false, not, List, [], ◌∷◌, ◌∙◌, refl, arith, ap}
use Rattle.std.specs.Prelude.{◌==◌, Some, None, cond, nat_lt}
use Rattle.std.specs.List.{list_all}
use Rattle.std.specs.Map.{lookup}
use Rattle.std.proofs.lemmas.Bool.Decides.{nat_tests}
use Rattle.write_html.proofs.Pushed.{left, right}

other : (s c n : ℕ) → c < n → not (nat_lt s n) ≡ true → (s == c) ≡ false
other s c n h k = grind (arith, nat_tests)

-- where all rows are of characters from n on, none is of one below it
pub none_below : (rows : List (ℕ × ℕ)) (c n : ℕ) → c < n → list_all (λ row. not (nat_lt row.0 n)) rows ≡ true → lookup (λ superscript. superscript == c) rows ≡ None
none_below [] c n h all = refl
none_below (row ∷ rows) c n h all =
    ap (λ b. cond b (Some row.1) (lookup (λ superscript. superscript == c) rows))
    (other row.0 c n h (left (not (nat_lt row.0 n)) (list_all (λ r. not (nat_lt r.0 n)) rows) all))
    ∙ none_below rows c n h (right (not (nat_lt row.0 n)) (list_all (λ r. not (nat_lt r.0 n)) rows) all)
