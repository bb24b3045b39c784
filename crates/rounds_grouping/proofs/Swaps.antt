-- Members moved one after another to where they are to stand.
use Rattle.std.proofs.Common.{◌≡◌, ◌≢◌, ℕ, ◌+◌, ◌<◌, ◌≤◌, ◌⊎◌, inl, inr, true, false, List, length, get_or, refl, ap, sym, ◌∙◌, subst, true≢false, arith}
use Rattle.std.specs.Prelude.{nat_eq, swap}
use Rattle.std.specs.List.{IsDistinct, range_with_len}
use Rattle.std.specs.List.Sorted.{IsPermutation}
use Rattle.std.proofs.Math.ListN.{set, length-set}
use Rattle.std.proofs.lemmas.List.{get_or-set_other, get_or-set_same}
use Rattle.std.proofs.lemmas.List.Edits.{swapped_from_swap}
use Rattle.std.proofs.lemmas.List.FromFn.{get_or-range_with_len, length-range_with_len}
use Rattle.std.proofs.lemmas.Bool.Decides.{Decides-eqb, nat_tests}
use Rattle.std.proofs.lemmas.List.Sorted.{All-permutation, length_permutation}
use Rattle.std.proofs.lemmas.Map.Keys.{IsDistinct-IsPermutation, IsDistinct-from_apart, apart_from_distinct}
use Rattle.rounds_grouping.specs.Moves.{IsPicked}

-- each place below n stands in the order once
pub record IsOrder (n : ℕ) (order : List ℕ) : Type 0 where
  pub count : length order ≡ n
  pub below : (k : ℕ) → k < n → get_or order k 0 < n
  pub apart : (j k : ℕ) → j < k → k < n → get_or order j 0 ≡ get_or order k 0 → ⊥

-- the first i members are where they are to stand; standing tells of each where it stood, and found_at where it is now
pub record Moving {X : Type 0} (old : List X) (order : List ℕ) (i : ℕ) (now : List X) (standing found_at : List ℕ) : Type 0 where
  pub count : length now ≡ length old
  pub standing_count : length standing ≡ length old
  pub found_count : length found_at ≡ length old
  pub members : (k : ℕ) (d : X) → k < length old → get_or now k d ≡ get_or old (get_or standing k 0) d
  pub front : (k : ℕ) → k < i → get_or standing k 0 ≡ get_or order k 0
  pub below : (k : ℕ) → k < length old → get_or standing k 0 < length old
  pub found : (p : ℕ) → p < length old → get_or found_at p 0 < length old
  pub back : (p : ℕ) → p < length old → get_or standing (get_or found_at p 0) 0 ≡ p

equal-or : (a b : ℕ) → (a ≡ b) ⊎ (a ≢ b)
equal-or a b = grind arith

below-or : (k i : ℕ) → k < i + 1 → (k ≡ i) ⊎ (k < i)
below-or k i h = grind arith

nat_eq-same : (a b : ℕ) → a ≡ b → nat_eq a b ≡ true
nat_eq-same a b e = (Decides-eqb a b).1 e

nat_eq-flips : (a b : ℕ) → nat_eq a b ≡ nat_eq b a
nat_eq-flips a b = grind (arith, nat_tests)

nat_eq-other : (a b : ℕ) → a ≢ b → nat_eq a b ≡ false
nat_eq-other a b ne = grind (arith, nat_tests)

in-range : (n k d : ℕ) → k < n → get_or (range_with_len 0 n) k d < n
in-range n k d h = omega (arith, get_or-range_with_len 0 n k d h)

range-distinct : (n : ℕ) → IsDistinct nat_eq (range_with_len 0 n)
range-distinct n = IsDistinct-from_apart nat_eq (range_with_len 0 n) (λ i j d u v.
    let w : j < n = subst (λ l. j < l) (length-range_with_len 0 n) v in
    nat_eq-other (get_or (range_with_len 0 n) i d) (get_or (range_with_len 0 n) j d) (λ e.
    let a = get_or-range_with_len 0 n i d (omega arith) in
    let b = get_or-range_with_len 0 n j d w in
    absurd (omega arith)))

-- what two writes leave at a place
module _ (xs : List ℕ) (b v a u q : ℕ) where
  put-here : a < length xs → q ≡ a → get_or (set (set xs b v) a u) q 0 ≡ u
  put-here h e = let w : a < length (set xs b v) = omega (arith, length-set xs b v) in ap (λ x. get_or (set (set xs b v) a u) x 0) e ∙ get_or-set_same (set xs b v) a u 0 w

  put-other : b < length xs → q ≢ a → q ≡ b → get_or (set (set xs b v) a u) q 0 ≡ v
  put-other h ne e = get_or-set_other (set xs b v) a q u 0 ne ∙ ap (λ x. get_or (set xs b v) x 0) e ∙ get_or-set_same xs b v 0 h

  put-elsewhere : q ≢ a → q ≢ b → get_or (set (set xs b v) a u) q 0 ≡ get_or xs q 0
  put-elsewhere ne nb = get_or-set_other (set xs b v) a q u 0 ne ∙ get_or-set_other xs b q v 0 nb

module _ {X : Type 0} (old : List X) (order : List ℕ) where
  pub start : (standing found_at : List ℕ) → standing ≡ range_with_len 0 (length old) → found_at ≡ range_with_len 0 (length old)
      → Moving old order 0 old standing found_at
  start standing found_at e f =
      let n = length old in
      let at = λ (xs : List ℕ) (q : xs ≡ range_with_len 0 n) (k : ℕ) (h : k < n). ap (λ ys. get_or ys k 0) q ∙ get_or-range_with_len 0 n k 0 h in
      record {
        count = refl;
        standing_count = ap length e ∙ length-range_with_len 0 n;
        found_count = ap length f ∙ length-range_with_len 0 n;
        members = λ k d h. let w : get_or standing k 0 ≡ k = at standing e k h ∙ omega arith in ap (λ j. get_or old j d) (sym w);
        front = λ k h. absurd (omega arith);
        below = λ k h. omega (arith, at standing e k h);
        found = λ p h. omega (arith, at found_at f p h);
        back = λ p h.
            let w : get_or found_at p 0 ≡ p = at found_at f p h ∙ omega arith in
            let v : get_or standing p 0 ≡ p = at standing e p h ∙ omega arith in
            ap (λ j. get_or standing j 0) w ∙ v;
      }

  module _ (is : IsOrder (length old) order) (i place from other : ℕ) (now more : List X) (standing found_at after : List ℕ) where
    pub step : Moving old order i now standing found_at → i < length order → place ≡ get_or order i 0 → from ≡ get_or found_at place 0 → other ≡ get_or standing i 0
        → more ≡ swap now i from → after ≡ swap standing i from → length more ≡ length now → length after ≡ length standing
        → Moving old order (i + 1) more after (set (set found_at other from) place i)
    step m h p f o e s ml al =
        let n = length old in
        let c = is.count in
        let inside : i < n = omega arith in
        let placed : place < n = subst (λ x. x < n) (sym p) (is.below i inside) in
        let from_in : from < n = subst (λ x. x < n) (sym f) (m.found place placed) in
        let at_from : get_or standing from 0 ≡ place = ap (λ x. get_or standing x 0) f ∙ m.back place placed in
        let other_in : other < n = subst (λ x. x < n) (sym o) (m.below i inside) in
        let mc = m.count in
        let sc = m.standing_count in
        let fc = m.found_count in
        let members = λ (d : X). swapped_from_swap now more i from d (omega arith) (omega arith) e in
        let places = swapped_from_swap standing after i from 0 (omega arith) (omega arith) s in
        let at_place = λ (q : ℕ) (u : q ≡ place). put-here found_at other from place i q (omega arith) u in
        let at_other = λ (q : ℕ) (ne : q ≢ place) (u : q ≡ other). put-other found_at other from place i q (omega arith) ne u in
        let elsewhere = λ (q : ℕ) (ne : q ≢ place) (nb : q ≢ other). put-elsewhere found_at other from place i q ne nb in
        record {
          count = ml ∙ mc;
          standing_count = al ∙ sc;
          found_count = length-set (set found_at other from) place i ∙ length-set found_at other from ∙ fc;
          members = λ k d w. elim (equal-or k i) [
            | inl q ↦ ap (λ x. get_or more x d) q ∙ (members d).0 ∙ m.members from d from_in ∙ ap (λ x. get_or old x d) (sym places.0 ∙ ap (λ x. get_or after x 0) (sym q))
            | inr ne ↦ elim (equal-or k from) [
              | inl q ↦ ap (λ x. get_or more x d) q ∙ (members d).1 ∙ m.members i d inside ∙ ap (λ x. get_or old x d) (sym places.1 ∙ ap (λ x. get_or after x 0) (sym q))
              | inr nf ↦ (members d).2 k ne nf ∙ m.members k d w ∙ ap (λ x. get_or old x d) (sym (places.2 k ne nf))
            ]
          ];
          front = λ k w. elim (below-or k i w) [
            | inl q ↦ ap (λ x. get_or after x 0) q ∙ places.0 ∙ at_from ∙ p ∙ ap (λ x. get_or order x 0) (sym q)
            | inr lt ↦ elim (equal-or k from) [
              | inl q ↦ absurd (is.apart k i lt inside (sym (m.front k lt) ∙ ap (λ x. get_or standing x 0) q ∙ at_from ∙ p))
              | inr nf ↦ places.2 k (omega arith) nf ∙ m.front k lt
            ]
          ];
          below = λ k w. elim (equal-or k i) [
            | inl q ↦ subst (λ x. x < n) (sym (ap (λ x. get_or after x 0) q ∙ places.0)) (m.below from from_in)
            | inr ne ↦ elim (equal-or k from) [
              | inl q ↦ subst (λ x. x < n) (sym (ap (λ x. get_or after x 0) q ∙ places.1)) (m.below i inside)
              | inr nf ↦ subst (λ x. x < n) (sym (places.2 k ne nf)) (m.below k w)
            ]
          ];
          found = λ q w. elim (equal-or q place) [
            | inl u ↦ subst (λ x. x < n) (sym (at_place q u)) inside
            | inr ne ↦ elim (equal-or q other) [
              | inl u ↦ subst (λ x. x < n) (sym (at_other q ne u)) from_in
              | inr nb ↦ subst (λ x. x < n) (sym (elsewhere q ne nb)) (m.found q w)
            ]
          ];
          back = λ q w. elim (equal-or q place) [
            | inl u ↦ ap (λ x. get_or after x 0) (at_place q u) ∙ places.0 ∙ at_from ∙ sym u
            | inr ne ↦ elim (equal-or q other) [
              | inl u ↦ ap (λ x. get_or after x 0) (at_other q ne u) ∙ places.1 ∙ sym o ∙ sym u
              | inr nb ↦
                  ap (λ x. get_or after x 0) (elsewhere q ne nb)
                  ∙ places.2 (get_or found_at q 0)
                  (λ r. nb (sym (m.back q w) ∙ ap (λ x. get_or standing x 0) r ∙ sym o))
                  (λ r. ne (sym (m.back q w) ∙ ap (λ x. get_or standing x 0) r ∙ at_from))
                  ∙ m.back q w
            ]
          ];
        }

  -- what the code reads and writes is there
  pub record Within (i place from other : ℕ) (now : List X) (standing found_at : List ℕ) : Type 0 where
    pub place_found : place < length found_at
    pub here : i < length standing
    pub here_now : i < length now
    pub from_now : from < length now
    pub from_standing : from < length standing
    pub other_found : other < length found_at

  pub within : IsOrder (length old) order → (i place from other : ℕ) (now : List X) (standing found_at : List ℕ) → Moving old order i now standing found_at
      → i < length order → place ≡ get_or order i 0 → from ≡ get_or found_at place 0 → other ≡ get_or standing i 0 → Within i place from other now standing found_at
  within is i place from other now standing found_at m h p f o =
      let n = length old in
      let c = is.count in
      let inside : i < n = omega arith in
      let placed : place < n = subst (λ x. x < n) (sym p) (is.below i inside) in
      let from_in : from < n = subst (λ x. x < n) (sym f) (m.found place placed) in
      let other_in : other < n = subst (λ x. x < n) (sym o) (m.below i inside) in
      let mc = m.count in
      let sc = m.standing_count in
      let fc = m.found_count in
      record { place_found = omega arith; here = omega arith; here_now = omega arith; from_now = omega arith; from_standing = omega arith; other_found = omega arith }

  pub permuted : IsPermutation (range_with_len 0 (length old)) order → IsOrder (length old) order
  permuted h =
      let n = length old in
      let count : length order ≡ n = length_permutation (range_with_len 0 n) order h ∙ length-range_with_len 0 n in
      let all = All-permutation (λ x. x < n) (range_with_len 0 n) order h (λ k d w. in-range n k d (subst (λ l. k < l) (length-range_with_len 0 n) w)) in
      let distinct = IsDistinct-IsPermutation nat_eq nat_eq-flips (range_with_len 0 n) order h (range-distinct n) in
      record {
        count = count;
        below = λ k w. all k 0 (omega arith);
        apart = λ j k u w e. true≢false (sym (nat_eq-same _ _ e) ∙ apart_from_distinct nat_eq order j k 0 distinct u (omega arith));
      }

  pub finish : IsOrder (length old) order → (i : ℕ) (now : List X) (standing found_at : List ℕ) → Moving old order i now standing found_at → length order ≤ i → IsPicked old order now
  finish is i now standing found_at m h = record {
    count = m.count ∙ sym is.count;
    members = λ k d w. let c = is.count in m.members k d (omega arith) ∙ ap (λ x. get_or old x d) (m.front k (omega arith));
  }
