-- Members of lists, and lists whose members are counted; of states, one above all others.
use Rattle.std.proofs.Common.{◌≡◌, ◌⊎◌, inl, inr, ℕ, zero, suc, ◌+◌, ◌≤◌, Bool, true, false, cond, ◌||◌, Some, List, [], ◌∷◌, map, refl, ap, ◌∙◌, true≢false, arith}
use Rattle.std.specs.Prelude.{All, Contains, fold}
use Rattle.std.specs.List.{enumerate_from, list_any}
use Rattle.std.specs.Ordering.{is_lt}
use Rattle.std.proofs.lemmas.List.Elements.{All-cons, All-head, All-nil, All-tail}
use Rattle.driver_lookup.specs.States.{greater, kind_of, state_cmp}
use Rattle.driver_lookup.specs.declared.state.DisambiguateState.{DisambiguateState}
use Rattle.driver_lookup.specs.declared.state.DisambiguateState.TheVariants.{YearSuffix}
use Rattle.rounds_runs.specs.RoundMarks.{greatest_state}

module _ {X : Type 0} where
  -- none of a list passes it
  pub none-in : (p : X → Bool) (xs : List X) → list_any p xs ≡ false → All (λ x. p x ≡ false) xs
  none-in p [] h = All-nil (λ x. p x ≡ false)
  none-in p (x ∷ xs) h = by (p x) refl h (none-in p xs)
    where
      by : (b : Bool) → p x ≡ b → b || list_any p xs ≡ false → (list_any p xs ≡ false → All (λ x. p x ≡ false) xs) → All (λ x. p x ≡ false) (x ∷ xs)
      by true e q more = absurd (true≢false q)
      by false e q more = All-cons (λ x. p x ≡ false) x xs e (more q)

  -- what is known of each holds of each with its number
  pub all-numbered : (Q : X → Type 0) (k : ℕ) (xs : List X) → All Q xs → All (λ p. Q p.1) (enumerate_from k xs)
  all-numbered Q k [] h = All-nil (λ (p : ℕ × X). Q p.1)
  all-numbered Q k (x ∷ xs) h = All-cons (λ (p : ℕ × X). Q p.1) (k, x) (enumerate_from (k + 1) xs) (All-head Q x xs h) (all-numbered Q (k + 1) xs (All-tail Q x xs h))

  pub numbered-map : {Y : Type 0} (f : X → Y) (k : ℕ) (xs : List X) → map (λ p. (p.0, f p.1)) (enumerate_from k xs) ≡ enumerate_from k (map f xs)
  numbered-map f k [] = refl
  numbered-map f k (x ∷ xs) = ap (λ ps. (k, f x) ∷ ps) (numbered-map f (k + 1) xs)

-- a suffix among states of which each other is of a lower kind
module _ (n : ℕ) where
  abbrev pub IsBelow : DisambiguateState → Type 0
  IsBelow s = (kind_of s ≤ 2) ⊎ (s ≡ YearSuffix n)

  own-greater : greater (YearSuffix n) (YearSuffix n) ≡ YearSuffix n
  own-greater = by (is_lt (state_cmp (YearSuffix n) (YearSuffix n)))
    where
      by : (b : Bool) → cond b (YearSuffix n) (YearSuffix n) ≡ YearSuffix n
      by true = refl
      by false = refl

  over-low : (s : DisambiguateState) → kind_of s ≤ 2 → greater (YearSuffix n) s ≡ YearSuffix n
  over-low DisambiguateState.None h = refl
  over-low (DisambiguateState.NameDisambiguation forms) h = refl
  over-low DisambiguateState.Choose h = refl
  over-low (DisambiguateState.YearSuffix m) h = absurd (omega (arith, h))

  low-over : (s : DisambiguateState) → kind_of s ≤ 2 → greater s (YearSuffix n) ≡ YearSuffix n
  low-over DisambiguateState.None h = refl
  low-over (DisambiguateState.NameDisambiguation forms) h = refl
  low-over DisambiguateState.Choose h = refl
  low-over (DisambiguateState.YearSuffix m) h = absurd (omega (arith, h))

  over : (s : DisambiguateState) → IsBelow s → greater (YearSuffix n) s ≡ YearSuffix n
  over s (inl h) = over-low s h
  over s (inr e) = ap (greater (YearSuffix n)) e ∙ own-greater

  before : (s : DisambiguateState) → IsBelow s → greater s (YearSuffix n) ≡ YearSuffix n
  before s (inl h) = low-over s h
  before s (inr e) = ap (λ t. greater t (YearSuffix n)) e ∙ own-greater

  both : (s t : DisambiguateState) → IsBelow s → IsBelow t → IsBelow (greater s t)
  both s t h g = by (is_lt (state_cmp t s))
    where
      by : (b : Bool) → IsBelow (cond b s t)
      by true = h
      by false = g

  stays-top : (ss : List DisambiguateState) → All IsBelow ss → fold greater (YearSuffix n) ss ≡ YearSuffix n
  stays-top [] all = refl
  stays-top (s ∷ ss) all = ap (λ t. fold greater t ss) (over s (All-head IsBelow s ss all)) ∙ stays-top ss (All-tail IsBelow s ss all)

  comes-top : (s : DisambiguateState) (ss : List DisambiguateState) → IsBelow s → All IsBelow ss → Contains ss (YearSuffix n) → fold greater s ss ≡ YearSuffix n
  comes-top s [] h all (k, w, e) = absurd (omega (arith, w))
  comes-top s (t ∷ ss) h all (zero, w, e) = ap (λ u. fold greater u ss) (ap (greater s) e ∙ before s h) ∙ stays-top ss (All-tail IsBelow t ss all)
  comes-top s (t ∷ ss) h all (suc k, w, e) = comes-top (greater s t) ss (both s t h (All-head IsBelow t ss all)) (All-tail IsBelow t ss all) (k, omega (arith, w), e)

  pub top-greatest : (ss : List DisambiguateState) → All IsBelow ss → Contains ss (YearSuffix n) → greatest_state ss ≡ Some (YearSuffix n)
  top-greatest [] all (k, w, e) = absurd (omega (arith, w))
  top-greatest (s ∷ ss) all (zero, w, e) = ap Some (ap (λ t. fold greater t ss) e ∙ stays-top ss (All-tail IsBelow s ss all))
  top-greatest (s ∷ ss) all (suc k, w, e) = ap Some (comes-top s ss (All-head IsBelow s ss all) (All-tail IsBelow s ss all) (k, omega (arith, w), e))
