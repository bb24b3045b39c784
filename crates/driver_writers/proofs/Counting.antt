-- How the count of renderings grows.
use Rattle.std.proofs.Common.{◌≡◌, ℕ, zero, suc, ◌+◌, ◌-◌, ◌^◌, refl, ap, arith, ◌∙◌}
use Rattle.std.specs.Prelude.{min}
use Rattle.driver_writers.specs.Counted.{counted, counted_times}

-- n renderings and then m more
pub counted_times-add : (m n old : ℕ) → counted_times (m + n) old ≡ counted_times m (counted_times n old)
counted_times-add zero n old = let none : zero + n ≡ n = omega arith in ap (λ k. counted_times k old) none
counted_times-add (suc m) n old =
    let one : suc m + n ≡ suc (m + n) = omega arith in
    ap (λ k. counted_times k old) one ∙ ap counted (counted_times-add m n old)

-- n renderings in all, or the greatest number
pub counted_times-all : (n : ℕ) → counted_times n 0 ≡ min n (2 ^ 128 - 1)
counted_times-all zero = refl
counted_times-all (suc n) = ap counted (counted_times-all n) ∙ omega arith
