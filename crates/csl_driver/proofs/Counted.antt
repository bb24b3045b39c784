-- The numbers that a listing gives.
use Rattle.std.proofs.Common.{◌≡◌, ℕ, zero, suc, ◌+◌, ◌<◌, ◌≤◌, ◌^◌, Bool, not, List, [], ◌∷◌, ◌++◌, length, map, refl, ap, sym, subst, ◌∙◌, arith, length-append}
use Rattle.std.specs.Prelude.{slice_get, unwrap_or}
use Rattle.std.specs.List.{range_with_len, slice_index_or}
use Rattle.std.proofs.Math.ListN.{length-map}
use Rattle.std.proofs.lemmas.List.FromFn.{length-map-range_with_len}
use Rattle.std.proofs.lemmas.List.Sums.{prefix_len-le-length}
use Rattle.csl_driver.specs.Cited.{listed_number, numbers_at}
use Rattle.driver_entries.specs.Entries.{number, place}
use Rattle.driver_entries.specs.Listed.{IsListingOf, Listed}
use Rattle.driver_positions.specs.FirstProperties.{numbered_by}

funext : {A B : Type 0} {f g : A → B} → ((x : A) → f x ≡ g x) → f ≡ g
funext h = λ i x. h x i

-- of the numbers from b on and the one behind them
ranged : (f : ℕ → ℕ) (b n p : ℕ) → p ≤ n → slice_index_or (map f (range_with_len b n) ++ f (b + n) ∷ []) p 0 ≡ f (b + p)
ranged f b zero zero w = refl
ranged f b zero (suc p) w = absurd (omega (arith, w))
ranged f b (suc n) zero w = let e : b ≡ b + 0 = omega arith in ap f e
ranged f b (suc n) (suc p) w =
    let e : b + 1 + p ≡ b + suc p = omega arith in
    let m : b + suc n ≡ b + 1 + n = omega arith in
    ap (λ k. slice_index_or (map f (range_with_len (b + 1) n) ++ f k ∷ []) p 0) m ∙ ranged f (b + 1) n p (omega (arith, w)) ∙ ap f e

from_start : (f : ℕ → ℕ) (n p : ℕ) → p ≤ n → slice_index_or (map f (range_with_len 0 n) ++ f n ∷ []) p 0 ≡ f p
from_start f n p w =
    let whole : n ≡ 0 + n = omega arith in
    let here : 0 + p ≡ p = omega arith in
    ap (λ m. slice_index_or (map f (range_with_len 0 n) ++ f m ∷ []) p 0) whole ∙ ranged f 0 n p w ∙ ap f here

most : {E : Type 0} (f : E → ℕ) (n : ℕ) → ((e : E) → f e ≤ n) → (es : List E) (p : ℕ) → unwrap_or (slice_get (map f es) p) n ≤ n
most f n h [] p = omega arith
most f n h (e ∷ es) zero = h e
most f n h (e ∷ es) (suc p) = most f n h es p

module _ {E : Type 0} (eq : E → E → Bool) (entries order : List E) (l : Listed) (h : IsListingOf eq entries order l) (offset : ℕ) where
  -- they are those of the entries in its order
  pub numbered : numbered_by eq (numbers_at l offset (length entries)) entries ≡ number eq offset order
  numbered =
      funext (λ e. from_start (listed_number l offset) (length entries) (place eq e entries) (prefix_len-le-length (λ x. not (eq e x)) entries) ∙ ap (λ n. offset + n) (h.numbered e))

  -- and they fit where those of all entries do
  pub fits : offset + length entries < 2 ^ 64 → (p : ℕ) → listed_number l offset p < 2 ^ 64
  fits small p =
      let counted : length l.order ≡ length entries = ap length (ap (λ (m : Listed). m.order) h.listed) ∙ length-map order (λ e. place eq e entries) ∙ h.count in
      let bound : (e : E) → place eq e order ≤ length l.order = λ e.
      subst (λ n. place eq e order ≤ n) (h.count ∙ sym counted) (prefix_len-le-length (λ x. not (eq e x)) order) in
      let shown : unwrap_or (slice_get l.numbers p) (length l.order) ≤ length l.order =
      subst (λ ns. unwrap_or (slice_get ns p) (length l.order) ≤ length l.order) (sym (ap (λ (m : Listed). m.numbers) h.listed))
      (most (λ e. place eq e order) (length l.order) bound entries p) in
      omega (arith, shown, counted, small)

  -- there is one for each entry, and one for the next
  pub one-behind : (n : ℕ) → length (numbers_at l offset n) ≡ n + 1
  one-behind n =
      let shown : length (map (listed_number l offset) (range_with_len 0 n)) ≡ n = length-map-range_with_len (listed_number l offset) 0 n in
      let more = length-append (map (listed_number l offset) (range_with_len 0 n)) (listed_number l offset n ∷ []) in
      omega (arith, shown, more)
