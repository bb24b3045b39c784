-- The numbers of names that pass a test, from one on.
use Rattle.std.proofs.Common.{◌≡◌, ℕ, zero, suc, ◌+◌, Bool, true, false, cond, List, [], ◌∷◌, ◌++◌, add-one, ap, arith, filter, sym, ◌∙◌}
use Rattle.std.specs.List.{range_with_len}
use Rattle.std.proofs.lemmas.List.{append-nil}
use Rattle.std.proofs.lemmas.List.Elements.{filter-append}
use Rattle.list_lemmas.proofs.Members.{range-more}

module _ (p : ℕ → Bool) where
  -- one number more, which passes or doesn't
  passed : (k : ℕ) → filter p (range_with_len 1 (k + 1)) ≡ filter p (range_with_len 1 k) ++ filter p ((k + 1) ∷ [])
  passed k =
      let e : 1 + k ≡ k + 1 = omega arith in
      ap (λ n. filter p (range_with_len 1 n)) (add-one k) ∙ ap (filter p) (range-more 1 k ∙ ap (λ n. range_with_len 1 k ++ n ∷ []) e) ∙ filter-append p (range_with_len 1 k) ((k + 1) ∷ [])

  pub numbers-more : (k : ℕ) {found more : List ℕ} → p (k + 1) ≡ true → found ≡ filter p (range_with_len 1 k) → more ≡ found ++ (k + 1) ∷ []
      → more ≡ filter p (range_with_len 1 (k + 1))
  numbers-more k e f m = m ∙ ap (λ l. l ++ (k + 1) ∷ []) f ∙ sym (passed k ∙ rw e)

  pub numbers-same : (k : ℕ) {found : List ℕ} → p (k + 1) ≡ false → found ≡ filter p (range_with_len 1 k) → found ≡ filter p (range_with_len 1 (k + 1))
  numbers-same k {found} e f = f ∙ sym (passed k ∙ ap (λ b. filter p (range_with_len 1 k) ++ cond b ((k + 1) ∷ []) []) e ∙ rw append-nil)
