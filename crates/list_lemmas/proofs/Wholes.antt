-- Stretches of places of which each is linked to the next, and those that are as long as can be.
use Rattle.std.proofs.Common.{◌≡◌, ℕ, zero, suc, ◌+◌, ◌-◌, ◌<◌, ◌≤◌, ◌⊎◌, inl, inr, Bool, true, false, not, ◌&&◌, nat_lt, refl, ap, sym, ◌∙◌, subst, true≢false, arith, add-one}
use Rattle.std.specs.List.{list_any}
use Rattle.std.proofs.lemmas.Bool.Decides.{nat_tests}
use Rattle.std.proofs.lemmas.Bool.{not-true, and_parts, and_from, not_from_false}
use Rattle.list_lemmas.specs.Places.{places, is_maximal}
use Rattle.list_lemmas.proofs.Tests.{same_test, fails, clash, some, of-some}

-- what f gives one place before; d before the first place
abbrev pub before : {X : Type 0} → (ℕ → X) → X → ℕ → X
before f d zero = d
before f d (suc k) = f k

-- from a to b, where the first is fit and each is linked to the next
pub record Chain (first link : ℕ → Bool) (a b : ℕ) : Type 0 where
  pub order : a ≤ b
  pub start : first a ≡ true
  pub steps : (k : ℕ) → a ≤ k → k < b → link k ≡ true

-- such places, which are linked to none before and none behind
pub record Whole (first link : ℕ → Bool) (a b : ℕ) : Type 0 where
  pub chain : Chain first link a b
  pub left : before link false a ≡ false
  pub right : link b ≡ false

-- what a test has to do with chains
pub record IsOfChains (holds : ℕ → ℕ → Bool) (first link : ℕ → Bool) (n : ℕ) : Type 0 where
  pub opens : (a b : ℕ) → holds a b ≡ true → Chain first link a b
  pub closes : (a b : ℕ) → Chain first link a b → holds a b ≡ true
  pub here : (k : ℕ) → link k ≡ true → first k ≡ true
  pub there : (k : ℕ) → link k ≡ true → first (suc k) ≡ true
  pub within : (k : ℕ) → first k ≡ true → k < n

module _ {holds : ℕ → ℕ → Bool} {first link : ℕ → Bool} {n : ℕ} (is : IsOfChains holds first link n) where
  at-or-below : (k b : ℕ) → k < suc b → (k ≡ b) ⊎ (k < b)
  at-or-below k b h = grind arith

  at-or-above : (a k : ℕ) → a ≤ k → (k ≡ a) ⊎ (suc a ≤ k)
  at-or-above a k h = grind arith

  -- one more place at an end
  longer : (a b : ℕ) → Chain first link a b → link b ≡ true → Chain first link a (suc b)
  longer a b c h = record {
    order = let o = c.order in omega arith;
    start = c.start;
    steps = λ k u v. elim (at-or-below k b v) [ inl e ↦ ap link e ∙ h | inr w ↦ c.steps k u w ];
  }

  earlier : (a b : ℕ) → Chain first link (suc a) b → link a ≡ true → Chain first link a b
  earlier a b c h = record {
    order = let o = c.order in omega arith;
    start = is.here a h;
    steps = λ k u v. elim (at-or-above a k u) [ inl e ↦ ap link e ∙ h | inr w ↦ c.steps k w v ];
  }

  one : (a : ℕ) → first a ≡ true → Chain first link a a
  one a h = record { order = omega arith; start = h; steps = λ k u v. absurd (omega arith) }

  -- each of its places is fit
  last : (a b : ℕ) → Chain first link a b → first b ≡ true
  last a b c = by b c.order c
    where
      by : (b : ℕ) → a ≤ b → Chain first link a b → first b ≡ true
      by zero h c = let e : a ≡ zero = omega arith in subst (λ x. first x ≡ true) e c.start
      by (suc b) h c = elim (at-or-above a (suc b) h) [ inl e ↦ ap first e ∙ c.start | inr w ↦ is.there b (c.steps b (omega arith) (omega arith)) ]

  -- it goes on to the right and to the left as far as can be
  to-right : (m a b : ℕ) → n ≤ m + b → Chain first link a b → (c : ℕ) × (b ≤ c) × Chain first link a c × (link c ≡ false)
  to-right zero a b h c = let w = is.within b (last a b c) in absurd (omega arith)
  to-right (suc m) a b h c = by (link b) refl (λ e. to-right m a (suc b) (omega arith) (longer a b c e))
    where
      by : (t : Bool) → link b ≡ t → (link b ≡ true → (d : ℕ) × (suc b ≤ d) × Chain first link a d × (link d ≡ false)) → (d : ℕ) × (b ≤ d) × Chain first link a d × (link d ≡ false)
      by true e more = let r = more e in (r.0, omega arith, r.2, r.3)
      by false e more = (b, omega arith, c, e)

  to-left : (a b : ℕ) → Chain first link a b → (c : ℕ) × (c ≤ a) × Chain first link c b × (before link false c ≡ false)
  to-left zero b c = (zero, omega arith, c, refl)
  to-left (suc a) b c = by (link a) refl (λ e. to-left a b (earlier a b c e))
    where
      by : (t : Bool) → link a ≡ t → (link a ≡ true → (d : ℕ) × (d ≤ a) × Chain first link d b × (before link false d ≡ false)) → (d : ℕ) × (d ≤ suc a) × Chain first link d b × (before link false d ≡ false)
      by true e more = let r = more e in (r.0, omega arith, r.2, r.3)
      by false e more = (suc a, omega arith, c, e)

  -- the maximal ones
  left-fails : (a b : ℕ) → Chain first link a b → before link false a ≡ false → nat_lt 0 a && holds (a - 1) b ≡ false
  left-fails zero b c e = refl
  left-fails (suc a) b c e =
      fails _ (λ h. let o = c.order in clash (link a) ((is.opens a b (subst (λ x. holds x b ≡ true) (omega arith) (and_parts (nat_lt 0 (suc a)) _ h).1)).steps a (omega arith) (omega arith)) e)

  left-unlinked : (a b : ℕ) → Chain first link a b → nat_lt 0 a && holds (a - 1) b ≡ false → before link false a ≡ false
  left-unlinked zero b c e = refl
  left-unlinked (suc a) b c e =
      fails _ (λ h. clash _ (and_from (nat_lt 0 (suc a)) (holds (suc a - 1) b) (grind (arith, nat_tests)) (subst (λ x. holds x b ≡ true) (omega arith) (is.closes a b (earlier a b c h)))) e)

  pub whole : (a b : ℕ) → is_maximal holds a b ≡ true → Whole first link a b
  whole a b h =
      let p = and_parts (holds a b && not (nat_lt 0 a && holds (a - 1) b)) (not (holds a (b + 1))) h in
      let q = and_parts (holds a b) (not (nat_lt 0 a && holds (a - 1) b)) p.0 in
      let c = is.opens a b q.0 in
      record {
        chain = c;
        left = left-unlinked a b c (not-true _ q.1);
        right = fails (link b) (λ e. clash (holds a (b + 1)) (subst (λ x. holds a x ≡ true) (sym (add-one b)) (is.closes a (suc b) (longer a b c e))) (not-true _ p.1));
      }

  pub maximal : (a b : ℕ) → Whole first link a b → is_maximal holds a b ≡ true
  maximal a b w =
      let behind : holds a (b + 1) ≡ false = fails _ (λ h. let o = w.chain.order in clash (link b) ((is.opens a (b + 1) h).steps b o (omega arith)) w.right) in
      and_from _ _ (and_from _ _ (is.closes a b w.chain) (not_from_false _ (left-fails a b w.chain w.left))) (not_from_false _ behind)

  -- that which a chain is part of
  around : (a b : ℕ) → Chain first link a b → (c : ℕ) × (d : ℕ) × (c ≤ a) × (b ≤ d) × Whole first link c d
  around a b c =
      let l = to-left a b c in
      let r = to-right n l.0 b (omega arith) l.2 in
      (l.0, r.0, l.1, r.1, record { chain = r.2; left = l.3; right = r.3 })

  pub linked-before : (k a b : ℕ) → Chain first link a b → a < k → k ≤ b → before link false k ≡ true
  linked-before zero a b c u v = absurd (omega arith)
  linked-before (suc k) a b c u v = c.steps k (omega arith) (omega arith)

  -- from the place before k to k, and on to the one behind
  two : (k : ℕ) → before link false k ≡ true → (a : ℕ) × (suc a ≡ k) × Chain first link a k
  two zero h = absurd (true≢false (sym h))
  two (suc k) h = (k, refl, longer k k (one k (is.here k h)) h)

  three : (k : ℕ) → before (before link false) false k ≡ true → before link false k ≡ true → (a : ℕ) × (suc (suc a) ≡ k) × Chain first link a k
  three zero g h = absurd (true≢false (sym h))
  three (suc k) g h = let t = two k g in (t.0, ap suc t.1, longer t.0 k t.2 h)

  -- one begins before k and ends behind it
  pub passes : (k : ℕ) → list_any (λ a. list_any (λ b. is_maximal holds a b) (places (k + 1) n)) (places 0 k) ≡ before link false k && link k
  passes k = same_test _ _ there back
    where
      there : list_any (λ a. list_any (λ b. is_maximal holds a b) (places (k + 1) n)) (places 0 k) ≡ true → before link false k && link k ≡ true
      there h =
          let a = some (λ a. list_any (λ b. is_maximal holds a b) (places (k + 1) n)) 0 k h in
          let b = some (λ b. is_maximal holds a.0 b) (k + 1) n a.3 in
          let c = (whole a.0 b.0 b.3).chain in
          and_from _ _ (linked-before k a.0 b.0 c a.2 (omega arith)) (c.steps k (omega arith) (omega arith))

      back : before link false k && link k ≡ true → list_any (λ a. list_any (λ b. is_maximal holds a b) (places (k + 1) n)) (places 0 k) ≡ true
      back h =
          let p = and_parts (before link false k) (link k) h in
          let t = two k p.0 in
          let w = around t.0 (suc k) (longer t.0 k t.2 p.1) in
          of-some (λ a. list_any (λ b. is_maximal holds a b) (places (k + 1) n)) 0 k w.0 (omega arith) (omega arith)
          (of-some (λ b. is_maximal holds w.0 b) (k + 1) n w.1 (omega arith) (is.within w.1 (last w.0 w.1 w.4.chain)) (maximal w.0 w.1 w.4))

  -- one begins before k and ends at k or behind it
  pub reaches : (k : ℕ) → list_any (λ a. list_any (λ b. is_maximal holds a b) (places k n)) (places 0 k) ≡ before link false k
  reaches k = same_test _ _ there back
    where
      there : list_any (λ a. list_any (λ b. is_maximal holds a b) (places k n)) (places 0 k) ≡ true → before link false k ≡ true
      there h =
          let a = some (λ a. list_any (λ b. is_maximal holds a b) (places k n)) 0 k h in
          let b = some (λ b. is_maximal holds a.0 b) k n a.3 in
          linked-before k a.0 b.0 (whole a.0 b.0 b.3).chain a.2 b.1

      back : before link false k ≡ true → list_any (λ a. list_any (λ b. is_maximal holds a b) (places k n)) (places 0 k) ≡ true
      back h =
          let t = two k h in
          let w = around t.0 k t.2 in
          of-some (λ a. list_any (λ b. is_maximal holds a b) (places k n)) 0 k w.0 (omega arith) (omega arith)
          (of-some (λ b. is_maximal holds w.0 b) k n w.1 (omega arith) (is.within w.1 (last w.0 w.1 w.4.chain)) (maximal w.0 w.1 w.4))

  -- one of two places or more ends at k
  pub ends-two : (k : ℕ) → list_any (λ a. is_maximal holds a k) (places 0 k) ≡ before link false k && not (link k)
  ends-two k = same_test _ _ there back
    where
      there : list_any (λ a. is_maximal holds a k) (places 0 k) ≡ true → before link false k && not (link k) ≡ true
      there h =
          let a = some (λ a. is_maximal holds a k) 0 k h in
          let w = whole a.0 k a.3 in
          and_from _ _ (linked-before k a.0 k w.chain a.2 (omega arith)) (not_from_false _ w.right)

      back : before link false k && not (link k) ≡ true → list_any (λ a. is_maximal holds a k) (places 0 k) ≡ true
      back h =
          let p = and_parts (before link false k) (not (link k)) h in
          let t = two k p.0 in
          let l = to-left t.0 k t.2 in
          of-some (λ a. is_maximal holds a k) 0 k l.0 (omega arith) (omega arith) (maximal l.0 k (record { chain = l.2; left = l.3; right = not-true _ p.1 }))

  -- one of three or more ends at k
  pub ends-three : (k : ℕ) → list_any (λ a. is_maximal holds a k) (places 0 (k - 1)) ≡ before (before link false) false k && before link false k && not (link k)
  ends-three k = same_test _ _ there back
    where
      linked-twice : (k a : ℕ) → Chain first link a k → a < k - 1 → before (before link false) false k ≡ true
      linked-twice zero a c u = absurd (omega arith)
      linked-twice (suc k) a c u = linked-before k a (suc k) c (omega arith) (omega arith)

      there : list_any (λ a. is_maximal holds a k) (places 0 (k - 1)) ≡ true → before (before link false) false k && before link false k && not (link k) ≡ true
      there h =
          let a = some (λ a. is_maximal holds a k) 0 (k - 1) h in
          let w = whole a.0 k a.3 in
          and_from _ _ (and_from _ _ (linked-twice k a.0 w.chain a.2) (linked-before k a.0 k w.chain (omega arith) (omega arith))) (not_from_false _ w.right)

      back : before (before link false) false k && before link false k && not (link k) ≡ true → list_any (λ a. is_maximal holds a k) (places 0 (k - 1)) ≡ true
      back h =
          let p = and_parts (before (before link false) false k && before link false k) (not (link k)) h in
          let q = and_parts (before (before link false) false k) (before link false k) p.0 in
          let t = three k q.0 q.1 in
          let l = to-left t.0 k t.2 in
          of-some (λ a. is_maximal holds a k) 0 (k - 1) l.0 (omega arith) (omega arith) (maximal l.0 k (record { chain = l.2; left = l.3; right = not-true _ p.1 }))

  -- one begins at k
  pub begins : (k : ℕ) → list_any (λ b. is_maximal holds k b) (places k n) ≡ first k && not (before link false k)
  begins k = same_test _ _ there back
    where
      there : list_any (λ b. is_maximal holds k b) (places k n) ≡ true → first k && not (before link false k) ≡ true
      there h =
          let b = some (λ b. is_maximal holds k b) k n h in
          let w = whole k b.0 b.3 in
          and_from _ _ w.chain.start (not_from_false _ w.left)

      back : first k && not (before link false k) ≡ true → list_any (λ b. is_maximal holds k b) (places k n) ≡ true
      back h =
          let p = and_parts (first k) (not (before link false k)) h in
          let r = to-right n k k (omega arith) (one k p.0) in
          of-some (λ b. is_maximal holds k b) k n r.0 r.1 (is.within r.0 (last k r.0 r.2)) (maximal k r.0 (record { chain = r.2; left = not-true _ p.1; right = r.3 }))
