-- The item before, and equal names at the beginning.
use Rattle.std.proofs.Common.{◌≡◌, ℕ, zero, suc, ◌-◌, ◌<◌, ◌≤◌, ◌≢◌, Bool, Option, List, [], ◌∷◌, length, get_or, drop, refl, ap, ◌∙◌, arith}
use Rattle.std.specs.List.{common_prefix_len}
use Rattle.std.specs.Option.{option_flatten}
use Rattle.std.proofs.lemmas.List.{drop_all}
use Rattle.std.proofs.lemmas.Option.{slice_get_read}
use Rattle.mentions_authors.specs.Repeated.{before_at}

pub before-found : {X : Type 0} (xs : List (Option X)) (k : ℕ) (x : Option X) → k ≢ 0 → k < length xs → x ≡ get_or xs (k - 1) x → before_at xs k ≡ x
before-found xs zero x some within here = absurd (some refl)
before-found xs (suc k) x some within here =
    let less : suc k - 1 ≡ k = omega arith in
    let inside : k < length xs = omega arith in
    ap option_flatten (slice_get_read xs (length xs) k x refl inside (here ∙ ap (λ j. get_or xs j x) less))

module _ {X : Type 0} (eq : X → X → Bool) where
  none-right : (xs : List X) → common_prefix_len eq xs [] ≡ 0
  none-right [] = refl
  none-right (x ∷ xs) = refl

  -- where one list is at its end
  pub at-end : (xs ys : List X) (n : ℕ) → length ys ≤ n → common_prefix_len eq (drop n xs) (drop n ys) ≡ 0
  at-end xs ys n h = ap (common_prefix_len eq (drop n xs)) (drop_all n ys h) ∙ none-right (drop n xs)
