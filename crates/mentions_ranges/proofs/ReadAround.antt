-- The stretch of linked members around a place.
use Rattle.std.proofs.Common.{◌≡◌, ◌⊎◌, inl, inr, ℕ, zero, suc, ◌+◌, ◌<◌, ◌≤◌, Bool, true, false, ◌&&◌, Option, None, Some, List, length, refl, ap, sym, subst, ◌∙◌, true≢false, arith}
use Rattle.std.specs.Prelude.{slice_get}
use Rattle.std.proofs.lemmas.Bool.{and_parts}
use Rattle.mentions_ranges.specs.Stretches.{both}
use Rattle.mentions_ranges.proofs.Linked.{came_here, goes-on, goes_on, linked-past}
use Rattle.list_lemmas.proofs.Tests.{clash}

same-or-before : (i k : ℕ) → i < suc k → (i ≡ k) ⊎ (i < k)
same-or-before i k h = grind arith

same-or-behind : (k i : ℕ) → k ≤ i → (i ≡ k) ⊎ (suc k ≤ i)
same-or-behind k i h = grind arith

before-or-behind : (i k : ℕ) → (i < k) ⊎ (k ≤ i)
before-or-behind i k = grind arith

inside-or-past : (k n : ℕ) → (suc k < n) ⊎ (n ≤ k + 1)
inside-or-past k n = grind arith

module _ {X : Type 0} (fits : X → Bool) (link : X → X → Bool) (xs : List X) where
  pub within : (k : ℕ) → goes_on fits link xs k ≡ true → suc k < length xs
  within k h = elim (inside-or-past k (length xs)) [ inl w ↦ w | inr w ↦ absurd (clash _ (goes-on fits link xs k ∙ h) (linked-past link xs k w)) ]

  -- the members at k and behind it
  pub record AreLinked (k : ℕ) : Type 0 where
    pub one : X
    pub next : X
    pub is_one : slice_get xs k ≡ Some one
    pub is_next : slice_get xs (suc k) ≡ Some next
    pub linked : link one next ≡ true

  pub linked : (k : ℕ) → goes_on fits link xs k ≡ true → AreLinked k
  linked k = by (slice_get xs k) (slice_get xs (suc k)) refl refl
    where
      by : (o p : Option X) → slice_get xs k ≡ o → slice_get xs (suc k) ≡ p → both link o p ≡ true → AreLinked k
      by None p d e h = absurd (true≢false (sym h))
      by (Some x) None d e h = absurd (true≢false (sym h))
      by (Some x) (Some y) d e h = record { one = x; next = y; is_one = d; is_next = e; linked = h }

  -- from p to q each is linked to the next; none is linked to p, and q to none
  pub record AreEnds (p q : ℕ) : Type 0 where
    pub first : came_here fits link xs p ≡ false
    pub last : goes_on fits link xs q ≡ false
    pub steps : (i : ℕ) → p ≤ i → i < q → goes_on fits link xs i ≡ true

  to-left : (k : ℕ) → came_here fits link xs k ≡ true
      → (p : ℕ) × (p < k) × (came_here fits link xs p ≡ false) × ((i : ℕ) → p ≤ i → i < k → goes_on fits link xs i ≡ true)
  to-left zero h = absurd (true≢false (sym h))
  to-left (suc k) h = by (came_here fits link xs k) refl (λ e. to-left k e)
    where
      by : (b : Bool) → came_here fits link xs k ≡ b
          → (came_here fits link xs k ≡ true → (p : ℕ) × (p < k) × (came_here fits link xs p ≡ false) × ((i : ℕ) → p ≤ i → i < k → goes_on fits link xs i ≡ true))
          → (p : ℕ) × (p < suc k) × (came_here fits link xs p ≡ false) × ((i : ℕ) → p ≤ i → i < suc k → goes_on fits link xs i ≡ true)
      by false e more = (k, omega arith, e, λ i u v. let s : k ≡ i = omega arith in subst (λ j. goes_on fits link xs j ≡ true) s h)
      by true e more =
          let r = more e in
          (r.0, omega arith, r.2, λ i u v. elim (same-or-before i k v) [ inl s ↦ ap (goes_on fits link xs) s ∙ h | inr w ↦ r.3 i u w ])

  to-right : (m k : ℕ) → length xs ≤ m + k → goes_on fits link xs k ≡ true
      → (q : ℕ) × (k < q) × (goes_on fits link xs q ≡ false) × ((i : ℕ) → k ≤ i → i < q → goes_on fits link xs i ≡ true)
  to-right zero k l h = let w = within k h in absurd (omega arith)
  to-right (suc m) k l h = by (goes_on fits link xs (suc k)) refl (λ e. to-right m (suc k) (omega arith) e)
    where
      by : (b : Bool) → goes_on fits link xs (suc k) ≡ b
          → (goes_on fits link xs (suc k) ≡ true → (q : ℕ) × (suc k < q) × (goes_on fits link xs q ≡ false) × ((i : ℕ) → suc k ≤ i → i < q → goes_on fits link xs i ≡ true))
          → (q : ℕ) × (k < q) × (goes_on fits link xs q ≡ false) × ((i : ℕ) → k ≤ i → i < q → goes_on fits link xs i ≡ true)
      by false e more = (suc k, omega arith, e, λ i u v. let s : k ≡ i = omega arith in subst (λ j. goes_on fits link xs j ≡ true) s h)
      by true e more =
          let r = more e in
          (r.0, omega arith, r.2, λ i u v. elim (same-or-behind k i u) [ inl s ↦ ap (goes_on fits link xs) s ∙ h | inr w ↦ r.3 i w v ])

  -- what is linked on both sides is inside a stretch
  pub around : (k : ℕ) → came_here fits link xs k && goes_on fits link xs k ≡ true → (p : ℕ) × (q : ℕ) × (p < k) × (k < q) × AreEnds p q
  around k h =
      let b = and_parts (came_here fits link xs k) (goes_on fits link xs k) h in
      let l = to-left k b.0 in
      let r = to-right (length xs) k (omega arith) b.1 in (
        l.0,
        r.0,
        l.1,
        r.1,
        record {
          first = l.2;
          last = r.2;
          steps = λ i u v. elim (before-or-behind i k) [ inl w ↦ l.3 i u w | inr w ↦ r.3 i w v ];
        },
      )
