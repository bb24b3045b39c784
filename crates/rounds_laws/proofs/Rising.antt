-- The first members of classes, class after class, stand in the order of the members.
use Rattle.std.proofs.Common.{◌≡◌, ℕ, ◌+◌, ◌<◌, ◌≤◌, Bool, true, false, cond, not, ◌||◌, List, [], ◌∷◌, map, refl, ap, sym, subst, ◌∙◌, true≢false, arith}
use Rattle.std.specs.Prelude.{All, AllPairs, filter}
use Rattle.std.specs.Cmp.{IsEquivalence}
use Rattle.std.specs.List.{enumerate_from}
use Rattle.std.proofs.lemmas.Bool.{or_left, or_right}
use Rattle.std.proofs.lemmas.List.Elements.{All-cons, All-nil}
use Rattle.std.proofs.lemmas.List.Kept.{AllPairs-cons}
use Rattle.driver_entries.specs.Entries.{distinct, is_in}
use Rattle.driver_entries.proofs.Distinct.{is_in-distinct}

module _ {K : Type 0} (g : K → ℕ) where
  -- a number below that of each key
  abbrev pub Below : ℕ → List K → Type 0
  Below m [] = Unit {0}
  Below m (k ∷ ks) = (m < g k) × Below m ks

  -- the number of each key is below those of the later ones
  abbrev pub Rising : List K → Type 0
  Rising [] = Unit {0}
  Rising (k ∷ ks) = Below (g k) ks × Rising ks

  pub below-pairs : (ks : List K) → Rising ks → AllPairs (λ p q. p < q) (map g ks)
  below-pairs [] h = λ i j d low high. absurd (omega (arith, high))
  below-pairs (k ∷ ks) h = AllPairs-cons (λ p q. p < q) (g k) (map g ks) (all ks h.0) (below-pairs ks h.1)
    where
      all : (ks : List K) → Below (g k) ks → All (λ q. g k < q) (map g ks)
      all [] b = All-nil (λ q. g k < q)
      all (l ∷ ls) b = All-cons (λ q. g k < q) (g l) (map g ls) b.0 (all ls b.1)

-- the same of some keys, by numbers that are the same for these
module _ {K : Type 0} (g h : K → ℕ) (p : K → Bool) (same : (k : K) → p k ≡ true → g k ≡ h k) where
  below-filter : (m : ℕ) (ks : List K) → Below g m ks → Below h m (filter p ks)
  below-filter m [] b = tt
  below-filter m (k ∷ ks) b = by (p k) refl (below-filter m ks b.1)
    where
      by : (t : Bool) → p k ≡ t → Below h m (filter p ks) → Below h m (cond t (k ∷ filter p ks) (filter p ks))
      by true e more = (subst (λ n. m < n) (same k e) b.0, more)
      by false e more = more

  pub rising-filter : (ks : List K) → Rising g ks → Rising h (filter p ks)
  rising-filter [] r = tt
  rising-filter (k ∷ ks) r = by (p k) refl (rising-filter ks r.1)
    where
      by : (t : Bool) → p k ≡ t → Rising h (filter p ks) → Rising h (cond t (k ∷ filter p ks) (filter p ks))
      by true e more = (subst (λ n. Below h n (filter p ks)) (same k e) (below-filter (g k) ks r.0), more)
      by false e more = more

module _ {X : Type 0} where
  -- the place of the first of members with places
  abbrev pub first_place : List (ℕ × X) → ℕ
  first_place [] = 0
  first_place (w ∷ ws) = w.0

  -- places that rise, from one on
  abbrev pub Rise : ℕ → List (ℕ × X) → Type 0
  Rise low [] = Unit {0}
  Rise low (w ∷ ws) = (low ≤ w.0) × Rise (w.0 + 1) ws

  pub rise-numbered : (low b : ℕ) (xs : List X) → low ≤ b → Rise low (enumerate_from b xs)
  rise-numbered low b [] h = tt
  rise-numbered low b (x ∷ xs) h = (h, rise-numbered (b + 1) (b + 1) xs (omega arith))

module _ {K X : Type 0} (eq : K → K → Bool) (laws : IsEquivalence eq) (f : ℕ × X → K) where
  -- the members of a key
  abbrev pub members : List (ℕ × X) → K → List (ℕ × X)
  members ws k = filter (λ w. eq k (f w)) ws

  abbrev pub firsts : List (ℕ × X) → K → ℕ
  firsts ws k = first_place (members ws k)

  above : (low : ℕ) (ws : List (ℕ × X)) (k : K) → Rise low ws → is_in eq k (map f ws) ≡ true → low ≤ firsts ws k
  above low [] k r h = absurd (true≢false (sym h))
  above low (w ∷ ws) k r h = by (eq k (f w)) h (above (w.0 + 1) ws k r.1)
    where
      by : (t : Bool) → t || is_in eq k (map f ws) ≡ true → (is_in eq k (map f ws) ≡ true → w.0 + 1 ≤ firsts ws k) → low ≤ first_place (cond t (w ∷ members ws k) (members ws k))
      by true h more = r.0
      by false h more = let l = r.0 in let m = more h in omega (arith, l, m)

  below-each : (g : K → ℕ) (m : ℕ) (ks : List K) → ((k : K) → is_in eq k ks ≡ true → m < g k) → Below g m ks
  below-each g m [] h = tt
  below-each g m (k ∷ ks) h = (h k (or_left (eq k k) (is_in eq k ks) (laws.refl k)), below-each g m ks (λ l e. h l (or_right (eq l k) (is_in eq l ks) e)))

  -- a member of another key counts for nothing
  passed : (w : ℕ × X) (ws : List (ℕ × X)) (k : K) → not (eq (f w) k) ≡ true → firsts ws k ≡ firsts (w ∷ ws) k
  passed w ws k h = sym (ap (λ t. first_place (cond t (w ∷ members ws k) (members ws k))) (laws.symm k (f w) ∙ from-not (eq (f w) k) h))
    where
      from-not : (a : Bool) → not a ≡ true → a ≡ false
      from-not true h = absurd (true≢false (sym h))
      from-not false h = refl

  pub firsts-rise : (low : ℕ) (ws : List (ℕ × X)) → Rise low ws → Rising (firsts ws) (distinct eq (map f ws))
  firsts-rise low [] r = tt
  firsts-rise low (w ∷ ws) r = (
    subst (λ n. Below (firsts (w ∷ ws)) n others) (sym first) (below-filter (firsts ws) (firsts (w ∷ ws)) apart (passed w ws) w.0 keys all-above),
    rising-filter (firsts ws) (firsts (w ∷ ws)) apart (passed w ws) keys (firsts-rise (w.0 + 1) ws r.1),
  )
    where
      keys : List K
      keys = distinct eq (map f ws)

      apart : K → Bool
      apart k = not (eq (f w) k)

      others : List K
      others = filter apart keys

      first : firsts (w ∷ ws) (f w) ≡ w.0
      first = ap (λ t. first_place (cond t (w ∷ members ws (f w)) (members ws (f w)))) (laws.refl (f w))

      all-above : Below (firsts ws) w.0 keys
      all-above = below-each (firsts ws) w.0 keys (λ k h.
          let l = above (w.0 + 1) ws k r.1 (sym (is_in-distinct eq laws k (map f ws)) ∙ h) in omega (arith, l))
