-- How many members each class has, class after class.
use Rattle.std.proofs.Common.{◌≡◌, ◌≢◌, ℕ, ◌+◌, ◌<◌, Bool, true, false, List, length, get_or, take, refl, ap, sym, ◌∙◌, get_or-set_other, get_or-set_same}
use Rattle.std.specs.Prelude.{nat_eq}
use Rattle.std.specs.List.{count_by}
use Rattle.std.proofs.Math.ListN.{set}
use Rattle.std.proofs.lemmas.Bool.{eqb-false, eqb-true}
use Rattle.std.proofs.lemmas.List.Sums.{count_by_more_no, count_by_more_yes}

-- one class more
pub size-more : (sizes cs : List ℕ) (k c v n : ℕ) → k < length cs → c ≡ get_or cs k 0 → c < length sizes → v ≡ get_or sizes c 0
    → ((m : ℕ) → m < length cs → get_or sizes m 0 ≡ count_by (nat_eq m) (take k cs)) → n < length cs
    → get_or (set sizes c (v + 1)) n 0 ≡ count_by (nat_eq n) (take (k + 1) cs)
size-more sizes cs k c v n within here below value so_far h = by (nat_eq n c) refl
  where
    by : (b : Bool) → nat_eq n c ≡ b → get_or (set sizes c (v + 1)) n 0 ≡ count_by (nat_eq n) (take (k + 1) cs)
    by true e =
        let same : n ≡ c = eqb-true n c e in
        ap (λ m. get_or (set sizes c (v + 1)) m 0) same ∙ get_or-set_same sizes c (v + 1) 0 below
        ∙ ap (λ m. m + 1) (value ∙ ap (λ m. get_or sizes m 0) (sym same) ∙ so_far n h)
        ∙ sym (count_by_more_yes (nat_eq n) cs k 0 within (ap (nat_eq n) (sym here) ∙ e))
    by false e =
        let other : n ≢ c = eqb-false n c e in
        get_or-set_other sizes c n (v + 1) 0 other ∙ so_far n h ∙ sym (count_by_more_no (nat_eq n) cs k 0 within (ap (nat_eq n) (sym here) ∙ e))
