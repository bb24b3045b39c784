-- A number that isn't 0 is found again.
use Rattle.std.proofs.Common.{◌≡◌, zero, suc, ◌<◌, ℤ, pos, negsuc, Option, Some, None, sym, ap, ◌∙◌, arith}
use Rattle.std.specs.Coded.{le_prop}
use Rattle.std.specs.Prelude.{MatchOption, unsigned_abs}
use Rattle.std.specs.declared.num.NonZeroI16.{NonZeroI16}
use Rattle.std.proofs.Math.Nat.{zero-lt-suc}
use Rattle.document_styles.specs.Styles.{non_zero}

kept : (z : ℤ) (ok : 0 < unsigned_abs z) → Some (record { value = z; ok = ok }) ≡ non_zero z
kept (pos zero) ok = absurd (omega arith)
kept (pos (suc n)) ok = ap (λ h. let x : NonZeroI16 = record { value = pos (suc n); ok = h } in Some x) (le_prop ok (zero-lt-suc n))
kept (negsuc n) ok = ap (λ h. let x : NonZeroI16 = record { value = negsuc n; ok = h } in Some x) (le_prop ok (zero-lt-suc n))

-- what was made of a number as the code has it
pub non_zero_made : (z w : ℤ) (made : Option NonZeroI16) → w ≡ z → MatchOption made (w ≡ pos 0) (λ x. x.value ≡ w) → made ≡ non_zero z
non_zero_made z w None e h = sym (ap non_zero (sym e ∙ h))
non_zero_made z w (Some x) e h = kept x.value x.ok ∙ ap non_zero (h ∙ e)
