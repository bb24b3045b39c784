-- Stretches of cites of one group, by neighbouring cites.
use Rattle.std.proofs.Common.{◌≡◌, ℕ, zero, suc, ◌+◌, ◌<◌, ◌≤◌, ◌⊎◌, inl, inr, Bool, true, false, not, ◌&&◌, nat_le, List, get_or, length, map, refl, ap, sym, ◌∙◌, subst, true≢false, arith, add-one}
use Rattle.std.specs.Prelude.{Option, None, Some, is_some, nat_eq}
use Rattle.std.specs.List.{list_all, list_any}
use Rattle.std.specs.Option.{option_eq}
use Rattle.std.specs.Cmp.{unsigned_Decides}
use Rattle.std.proofs.lemmas.Bool.{and_parts, and_from}
use Rattle.list_lemmas.specs.Places.{places}
use Rattle.value_styles.specs.Style.{CitationValue}
use Rattle.driver_passes.specs.Renders.{ItemRender}
use Rattle.rounds_grouping.specs.YearStretches.{year_collapsed, group_at, shares, is_stretch, is_later_in_stretch, follows_stretch}
use Rattle.rounds_grouping.specs.CollapseSteps.{is_same, year_step}
use Rattle.rounds_grouping.proofs.RunLemmas.{some-within}
use Rattle.list_lemmas.proofs.Tests.{behind-first, one-less, le-true, true-le, each, of-each}
use Rattle.list_lemmas.proofs.Wholes.{Chain, IsOfChains, before, reaches, ends-two}

equal-of : (x y : Option ℕ) → option_eq nat_eq x y ≡ true → x ≡ y
equal-of None None e = refl
equal-of None (Some n) e = absurd (true≢false (sym e))
equal-of (Some m) None e = absurd (true≢false (sym e))
equal-of (Some m) (Some n) e = ap Some ((unsigned_Decides m n).0 e)

of-equal : (x y : Option ℕ) → x ≡ y → option_eq nat_eq x y ≡ true
of-equal x y e = subst (λ z. option_eq nat_eq x z ≡ true) e (self x)
  where
    self : (x : Option ℕ) → option_eq nat_eq x x ≡ true
    self None = refl
    self (Some m) = (unsigned_Decides m m).1 refl

same-of : (x y : Option ℕ) → is_some x ≡ true → y ≡ x → is_same x y ≡ true
same-of None y h e = absurd (true≢false (sym h))
same-of (Some m) y h e = subst (λ z. is_same (Some m) z ≡ true) (sym e) ((unsigned_Decides m m).1 refl)

of-same : (x y : Option ℕ) → is_same x y ≡ true → (is_some x ≡ true) × (y ≡ x)
of-same None y h = absurd (true≢false (sym h))
of-same (Some m) None h = absurd (true≢false (sym h))
of-same (Some m) (Some n) h = (refl, ap Some ((unsigned_Decides n m).0 h))

module _ (groups : List (Option ℕ)) where
  abbrev pub grouped : ℕ → Bool
  grouped k = is_some (group_at groups k)

  -- k and the next are of one group
  abbrev pub goes_on : ℕ → Bool
  goes_on k = is_same (group_at groups k) (group_at groups (suc k))

  on-from : (k : ℕ) → goes_on k ≡ true → grouped k ≡ true
  on-from k h = (of-same (group_at groups k) (group_at groups (suc k)) h).0

  on-to : (k : ℕ) → goes_on k ≡ true → grouped (suc k) ≡ true
  on-to k h = let p = of-same (group_at groups k) (group_at groups (suc k)) h in ap is_some p.1 ∙ p.0

  all-alike : (a b k : ℕ) → Chain grouped goes_on a b → a ≤ k → k < b + 1 → group_at groups k ≡ group_at groups a
  all-alike a b zero c u v = let e : zero ≡ a = omega arith in ap (λ j. group_at groups j) e
  all-alike a b (suc k) c u v =
      elim (at u) [ inl e ↦ ap (λ j. group_at groups j) e | inr w ↦ (of-same (group_at groups k) (group_at groups (suc k)) (c.steps k w (omega arith))).1 ∙ all-alike a b k c w (omega arith) ]
    where
      at : a ≤ suc k → (suc k ≡ a) ⊎ (a ≤ k)
      at h = grind arith

  stretches : IsOfChains (shares groups) grouped goes_on (length groups)
  stretches = record { opens = opens; closes = closes; here = on-from; there = on-to; within = some-within groups }
    where
      opens : (a b : ℕ) → shares groups a b ≡ true → Chain grouped goes_on a b
      opens a b h =
          let alike = λ (k : ℕ). grouped k && option_eq nat_eq (group_at groups k) (group_at groups a) in
          let p = and_parts (nat_le a b) (list_all alike (places a (b + 1))) h in
          let o = true-le a b p.0 in
          let at = λ (k : ℕ) (u : a ≤ k) (v : k < b + 1). and_parts (grouped k) (option_eq nat_eq (group_at groups k) (group_at groups a)) (each alike a (b + 1) k p.1 u v) in
          record {
            order = o;
            start = (at a (omega arith) (omega arith)).0;
            steps = λ k u v. same-of (group_at groups k) (group_at groups (suc k)) (at k u (omega arith)).0
                (equal-of _ _ (at (suc k) (omega arith) (omega arith)).1 ∙ sym (equal-of _ _ (at k u (omega arith)).1));
          }

      closes : (a b : ℕ) → Chain grouped goes_on a b → shares groups a b ≡ true
      closes a b c =
          and_from _ _ (le-true a b c.order)
          (of-each (λ k. grouped k && option_eq nat_eq (group_at groups k) (group_at groups a)) a (b + 1)
          (λ k u v. let e = all-alike a b k c u v in and_from _ _ (ap is_some e ∙ c.start) (of-equal _ _ e)))

  -- whether a cite is of the group of the one before, and the one before is of the group of the one before that
  abbrev pub later_at : ℕ → Bool
  later_at = before goes_on false

  abbrev pub was_later_at : ℕ → Bool
  was_later_at = before later_at false

  pub later : (k : ℕ) → is_later_in_stretch groups k ≡ later_at k
  later = reaches stretches

  pub follows : (k : ℕ) → follows_stretch groups k ≡ was_later_at k && not (later_at k)
  follows zero = refl
  follows (suc k) =
      (λ i. behind-first k i && list_any (λ a. is_stretch groups a (one-less k i)) (places 0 (one-less k i)))
      ∙ ends-two stretches k

  pub stands-before : (k : ℕ) → group_at groups k ≡ before (group_at groups) None (k + 1)
  stands-before k = ap (before (group_at groups) None) (sym (add-one k))

  pub later-is : (k : ℕ) → is_same (before (group_at groups) None k) (group_at groups k) ≡ later_at k
  later-is zero = refl
  later-is (suc k) = refl

  pub was-later-next : (k : ℕ) → later_at k ≡ was_later_at (k + 1)
  was-later-next k = ap was_later_at (sym (add-one k))

module _ {E P : Type 0} (citation : CitationValue) (to_suffixes : Bool) (cites : List (ItemRender E P)) where
  -- a cite is changed as its stretch asks for
  pub step-is : (k : ℕ) (later was : Bool) (c : ItemRender E P) → c ≡ get_or cites k c
      → later ≡ later_at (map (λ d. d.group) cites) k → was ≡ was_later_at (map (λ d. d.group) cites) k
      → year_step citation to_suffixes later was c ≡ year_collapsed citation to_suffixes cites k (get_or cites k c)
  step-is k l w c h p q =
      by l w
      ∙ (λ i. year_step citation to_suffixes ((p ∙ sym (later (map (λ d. d.group) cites) k)) i) (((λ j. q j && not (p j)) ∙ sym (follows (map (λ d. d.group) cites) k)) i) c)
      ∙ ap (λ d. year_collapsed citation to_suffixes cites k d) h
    where
      by : (l w : Bool) → year_step citation to_suffixes l w c ≡ year_step citation to_suffixes l (w && not l) c
      by true w = refl
      by false true = refl
      by false false = refl
