-- The places of a request's cites, set one after another.
use Rattle.std.proofs.Common.{◌≡◌, ℕ, zero, suc, ◌+◌, ◌<◌, List, [], ◌∷◌, ◌++◌, take, drop, length, get_or, ap, arith, add-one}
use Rattle.std.proofs.Math.ListN.{set}
use Rattle.driver_passes.specs.Request.{RequestedCite, placed_from}

module _ {E P : Type 0} where
  -- the cites of which the first n have their places
  abbrev pub half_placed : ℕ → ℕ → List (RequestedCite E P) → List (RequestedCite E P)
  half_placed b n xs = placed_from b (take n xs) ++ drop n xs

  at_base : (b c n : ℕ) (xs : List (RequestedCite E P)) (d : RequestedCite E P) → c ≡ b + n → n < length xs
      → set (half_placed b n xs) n (record (get_or (half_placed b n xs) n d) { place = c }) ≡ half_placed b (suc n) xs
  at_base b c n [] d e h = absurd (omega arith)
  at_base b c zero (x ∷ xs) d e h = let e2 : c ≡ b = omega arith in ap (λ k. record x { place = k } ∷ xs) e2
  at_base b c (suc n) (x ∷ xs) d e h =
      ap (λ ys. record x { place = b } ∷ ys) (at_base (b + 1) c n xs d (omega arith) (omega arith))

  -- one more cite gets its place
  pub place_more : (n : ℕ) (xs ys : List (RequestedCite E P)) (d : RequestedCite E P) → ys ≡ half_placed 0 n xs → n < length xs
      → set ys n (record (get_or ys n d) { place = n }) ≡ half_placed 0 (n + 1) xs
  place_more n xs ys d e h =
      rw (add-one, e) (at_base 0 n n xs d (omega arith) h)
