-- Of any stretches of linked cites that are hidden inside, the law.
use Rattle.std.proofs.Common.{◌≡◌, ◌⊎◌, inl, inr, ℕ, zero, suc, ◌+◌, ◌-◌, ◌<◌, ◌≤◌, Bool, true, false, ◌&&◌, ◌||◌, Option, None, Some, List, length, map, refl, ap, sym, subst, ◌∙◌, true≢false, arith}
use Rattle.std.specs.Prelude.{option_map, slice_get, slice_range}
use Rattle.std.specs.List.{range_with_len}
use Rattle.std.specs.Option.{option_and_then, option_map_or}
use Rattle.std.proofs.lemmas.Bool.{and_from, not_from_false}
use Rattle.std.proofs.lemmas.Option.{same_Some}
use Rattle.list_lemmas.proofs.Members.{found}
use Rattle.mentions_ranges.specs.Stretches.{both, ends_long, is_inner}
use Rattle.mentions_ranges.specs.declared.collapsed.CollapsedCite.{CollapsedCite}
use Rattle.mentions_ranges.specs.declared.collapsed.Delimiter.{Delimiter}
use Rattle.mentions_ranges.proofs.Linked.{IsSound, came_before, came_here, ends, goes_on, inner}
use Rattle.list_lemmas.proofs.Tests.{clash}
use Rattle.driver_lookup.specs.Between.{between}
use Rattle.mentions_ranges.specs.ReadBack.{AreNextShown, AreReadBack, CanBeReadBack, WasHid, holds_at, is_hidden, read_at}
use Rattle.mentions_ranges.proofs.ReadAround.{AreEnds, around, linked, within}
use Rattle.mentions_ranges.proofs.Placed.{rising}

and-false : (b : Bool) → b && false ≡ false
and-false true = refl
and-false false = refl

three : (m n : ℕ) → (m ≡ n) ⊎ (m < n) ⊎ (n < m)
three m n = grind arith

-- what a link tells of two cites: both are shown by their caller and of one class, and the number of
-- the second is the next one
module _ {X : Type 0} (hidden : X → Bool) (class number : X → Option ℕ) where
  pub record AreCounted (x y : X) : Type 0 where
    pub shown : hidden x ≡ false
    pub next_shown : hidden y ≡ false
    pub same_class : class y ≡ class x
    pub here : ℕ
    pub is_here : number x ≡ Some here
    pub is_next : number y ≡ Some (here + 1)

module _ {X : Type 0} (fits : X → Bool) (link : X → X → Bool) (cites : List X) (collapsed : List CollapsedCite) where
  -- what collapsing makes of stretches
  pub record HidesInner : Type 0 where
    pub hides : (k : ℕ) → holds_at (λ c. c.is_inner) collapsed k ≡ came_here fits link cites k && goes_on fits link cites k
    pub dashes : (k : ℕ) → k < length cites → ends_long fits link cites k ≡ true → option_map (λ c. c.delimiter) (slice_get collapsed k) ≡ Some Delimiter.Dash

  -- where each cite is made by its place
  module _ (sound : IsSound fits link) (made : ℕ → X → CollapsedCite) (at : (k : ℕ) → slice_get collapsed k ≡ option_map (made k) (slice_get cites k)) where
    pub hides-inner : ((k : ℕ) (x : X) → (made k x).is_inner ≡ is_inner fits link cites k) → ((k : ℕ) (x : X) → ends_long fits link cites k ≡ true → (made k x).delimiter ≡ Delimiter.Dash)
        → HidesInner
    hides-inner is_made is_dash = record {
      hides = λ k. ap (λ o. option_map_or (λ c. c.is_inner) o false) (at k) ∙ by k (slice_get cites k) refl;
      dashes = λ k w e. ap (option_map (λ c. c.delimiter)) (at k) ∙ there k e (slice_get cites k) (found cites k w);
    }
      where
        by : (k : ℕ) (o : Option X) → slice_get cites k ≡ o → option_map_or (λ c. c.is_inner) (option_map (made k) o) false ≡ came_here fits link cites k && goes_on fits link cites k
        by k None e = sym (ap (λ o. came_here fits link cites k && both link o (slice_get cites (suc k))) e ∙ and-false (came_here fits link cites k))
        by k (Some x) e = is_made k x ∙ inner fits link cites sound k

        there : (k : ℕ) → ends_long fits link cites k ≡ true → (o : Option X) → (x : X) × (o ≡ Some x) → option_map (λ c. c.delimiter) (option_map (made k) o) ≡ Some Delimiter.Dash
        there k e o f = ap (λ o. option_map (λ c. c.delimiter) (option_map (made k) o)) f.1 ∙ ap Some (is_dash k f.0 e)

  module _ (hidden : X → Bool) (class number : X → Option ℕ) (sound : IsSound fits link) (is : HidesInner)
      (members : (k : ℕ) (x y : X) → slice_get cites k ≡ Some x → slice_get cites (suc k) ≡ Some y → link x y ≡ true → AreCounted hidden class number x y) where
    -- the same at places
    record IsCounted (k : ℕ) : Type 0 where
      shown : holds_at hidden cites k ≡ false
      next_shown : holds_at hidden cites (suc k) ≡ false
      same_class : read_at class cites (suc k) ≡ read_at class cites k
      here : ℕ
      is_here : read_at number cites k ≡ Some here
      is_next : read_at number cites (suc k) ≡ Some (here + 1)

    counted : (k : ℕ) → goes_on fits link cites k ≡ true → IsCounted k
    counted k h =
        let l = linked fits link cites k h in
        let c = members k l.one l.next l.is_one l.is_next l.linked in
        record {
          shown = ap (λ o. option_map_or hidden o false) l.is_one ∙ c.shown;
          next_shown = ap (λ o. option_map_or hidden o false) l.is_next ∙ c.next_shown;
          same_class = ap (option_and_then class) l.is_next ∙ c.same_class ∙ sym (ap (option_and_then class) l.is_one);
          here = c.here;
          is_here = ap (option_and_then number) l.is_one ∙ c.is_here;
          is_next = ap (option_and_then number) l.is_next ∙ c.is_next;
        }

    shown-behind : (k : ℕ) → came_here fits link cites k ≡ true → holds_at hidden cites k ≡ false
    shown-behind zero h = absurd (true≢false (sym h))
    shown-behind (suc k) h = (counted k h).next_shown

    within-behind : (k : ℕ) → came_here fits link cites k ≡ true → k < length cites
    within-behind zero h = absurd (true≢false (sym h))
    within-behind (suc k) h = within fits link cites k h

    -- a stretch of two or more
    module _ (p q : ℕ) (order : p < q) (are : AreEnds fits link cites p q) where
      came-at : (i : ℕ) → p < i → i ≤ q → came_here fits link cites i ≡ true
      came-at zero u v = absurd (omega arith)
      came-at (suc i) u v = are.steps i (omega arith) (omega arith)

      came-before-at : (i : ℕ) → p + 1 < i → i ≤ q → came_before fits link cites i ≡ true
      came-before-at zero u v = absurd (omega arith)
      came-before-at (suc i) u v = came-at i (omega arith) (omega arith)

      was-hid : (i : ℕ) → p < i → i < q → WasHid cites collapsed hidden i
      was-hid i u v =
          let on = are.steps i (omega arith) v in
          ((counted i on).shown, is.hides i ∙ and_from _ _ (came-at i u (omega arith)) on)

      at-first : IsCounted p
      at-first = counted p (are.steps p (omega arith) order)

      first-shown : is_hidden cites collapsed hidden p ≡ false
      first-shown =
          let by_caller = at-first.shown in
          let inside : holds_at (λ c. c.is_inner) collapsed p ≡ false = is.hides p ∙ ap (λ b. b && goes_on fits link cites p) are.first in
          λ i. by_caller i || inside i

      last-shown : is_hidden cites collapsed hidden q ≡ false
      last-shown =
          let by_caller = shown-behind q (came-at q order (omega arith)) in
          let inside : holds_at (λ c. c.is_inner) collapsed q ≡ false = is.hides q ∙ ap (λ b. came_here fits link cites q && b) are.last ∙ and-false (came_here fits link cites q) in
          λ i. by_caller i || inside i

      next-shown : AreNextShown cites collapsed hidden p q
      next-shown = record {
        in_order = order;
        in_request = within-behind q (came-at q order (omega arith));
        first_shown = first-shown;
        last_shown = last-shown;
        between_hidden = λ k u v. let w = was-hid k u v in λ i. w.0 i || w.1 i;
      }

      class-from : (j i : ℕ) → i ≡ p + j → i ≤ q → read_at class cites i ≡ read_at class cites p
      class-from zero i e w = let s : i ≡ p = omega arith in ap (read_at class cites) s
      class-from (suc j) zero e w = absurd (omega arith)
      class-from (suc j) (suc i) e w = (counted i (are.steps i (omega arith) (omega arith))).same_class ∙ class-from j i (omega arith) (omega arith)

      abbrev first-number : ℕ
      first-number = at-first.here

      number-from : (j i : ℕ) → i ≡ p + j → i ≤ q → read_at number cites i ≡ Some (first-number + j)
      number-from zero i e w =
          let s : i ≡ p = omega arith in
          let n : first-number ≡ first-number + 0 = omega arith in
          ap (read_at number cites) s ∙ at-first.is_here ∙ ap Some n
      number-from (suc j) zero e w = absurd (omega arith)
      number-from (suc j) (suc i) e w =
          let c = counted i (are.steps i (omega arith) (omega arith)) in
          let same : c.here ≡ first-number + j = same_Some _ _ (sym c.is_here ∙ number-from j i (omega arith) (omega arith)) in
          let n : c.here + 1 ≡ first-number + suc j = omega (arith, same) in
          c.is_next ∙ ap Some n

      between-are : slice_range (map number cites) (p + 1) q ≡ map Some (between first-number (first-number + (q - p)))
      between-are =
          let many : q - (p + 1) ≡ first-number + (q - p) - (first-number + 1) = omega arith in
          rising number (q - (p + 1)) (p + 1) (first-number + 1) cites
          (λ j i e w. let n : first-number + suc j ≡ first-number + 1 + j = omega arith in number-from (suc j) i (omega arith) (omega arith) ∙ ap Some n)
          ∙ ap (λ n. map Some (range_with_len (first-number + 1) n)) many

      read-back : p + 1 < q → AreReadBack cites collapsed hidden class number p q
      read-back long = record {
        all_were_hid = was-hid;
        one_class = λ k u v. class-from (k - p) k (omega arith) v;
        first_number = first-number;
        last_number = first-number + (q - p);
        is_first = at-first.is_here;
        is_last = number-from (q - p) q (omega arith) (omega arith);
        numbers_between = between-are;
        dash = is.dashes q (within-behind q (came-at q order (omega arith)))
            (ends fits link cites sound q
            ∙ and_from _ _ (and_from _ _ (came-before-at q long (omega arith)) (came-at q order (omega arith))) (not_from_false _ are.last));
      }

    -- next shown cites around a place are the same ones
    same-ends : (p q a b k : ℕ) → AreNextShown cites collapsed hidden p q → p < k → k < q → AreNextShown cites collapsed hidden a b → a < k → k < b → (a ≡ p) × (b ≡ q)
    same-ends p q a b k one pk kq other ak kb = (
      elim (three a p) [
        | inl e ↦ e
        | inr (inl w) ↦ absurd (clash _ (other.between_hidden p w (omega arith)) one.first_shown)
        | inr (inr w) ↦ absurd (clash _ (one.between_hidden a w (omega arith)) other.first_shown)
      ],
      elim (three b q) [
        | inl e ↦ e
        | inr (inl w) ↦ absurd (clash _ (one.between_hidden b (omega arith) w) other.last_shown)
        | inr (inr w) ↦ absurd (clash _ (other.between_hidden q (omega arith) w) one.last_shown)
      ],
    )

    pub law : CanBeReadBack cites collapsed hidden class number
    law = record {
      hidden_between_shown = λ k h.
          let r = around fits link cites k (sym (is.hides k) ∙ h.1) in
          record { first = r.0; last = r.1; next_shown = next-shown r.0 r.1 (omega arith) r.4; is_between = (r.2, r.3) };
      hidden_can_be_read_back = λ p q k next u v h.
          let r = around fits link cites k (sym (is.hides k) ∙ h.1) in
          let s = same-ends p q r.0 r.1 k next u v (next-shown r.0 r.1 (omega arith) r.4) r.2 r.3 in
          subst (λ a. AreReadBack cites collapsed hidden class number a q) s.0
          (subst (λ b. AreReadBack cites collapsed hidden class number r.0 b) s.1 (read-back r.0 r.1 (omega arith) r.4 (omega arith)));
    }
