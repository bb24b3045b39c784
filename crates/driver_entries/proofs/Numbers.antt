-- The numbers of entries in a list, as it grows.
use Rattle.std.proofs.Common.{◌≡◌, ℕ, zero, suc, ◌+◌, ◌<◌, nat_lt, nat_eq, Bool, true, false, cond, not, ◌||◌, Option, Some, None, List, [], ◌∷◌, ◌++◌, length, map, get_or, is_some, replicate, true≢false, refl, ap, sym, subst, ◌∙◌, arith}
use Rattle.std.specs.Prelude.{slice_get}
use Rattle.std.specs.Cmp.{IsEquivalence, nat_eq_equiv}
use Rattle.std.specs.List.{position, range_with_len}
use Rattle.std.proofs.Math.ListN.{length-set, set}
use Rattle.std.proofs.lemmas.Bool.Decides.{nat_tests}
use Rattle.std.proofs.lemmas.List.{length-replicate}
use Rattle.std.proofs.lemmas.List.FromFn.{get_or-range_with_len, length-range_with_len}
use Rattle.std.proofs.lemmas.Option.{slice_get-get_or}
use Rattle.driver_entries.specs.Entries.{is_in, place, with_new}
use Rattle.driver_entries.specs.StandsAt.{StandsAt}
use Rattle.driver_entries.specs.Laws.{NoTwoEqual}
use Rattle.driver_entries.proofs.Distinct.{is_in-equal}

module _ {E : Type 0} (eq : E → E → Bool) where
  -- the number of an entry in a list, if it is there
  abbrev pub number_in : List E → E → Option ℕ
  number_in es e = position (eq e) es

  -- step by step
  abbrev behind : Bool → Option ℕ → Option ℕ
  behind true o = Some 0
  behind false None = None
  behind false (Some n) = Some (suc n)

  lt-next : (n m : ℕ) (c : Bool) → nat_lt n m ≡ c → nat_lt (suc n) (suc m) ≡ c
  lt-next n m true h = grind (arith, nat_tests)
  lt-next n m false h = grind (arith, nat_tests)

  number_in-step : (x : E) (xs : List E) (e : E) → number_in (x ∷ xs) e ≡ behind (eq e x) (number_in xs e)
  number_in-step x xs e = by (eq e x) (nat_lt (place eq e xs) (length xs)) refl
    where
      first : nat_lt 0 (suc (length xs)) ≡ true
      first = grind (arith, nat_tests)

      next : 1 + place eq e xs ≡ suc (place eq e xs)
      next = omega arith

      by : (b c : Bool) → nat_lt (place eq e xs) (length xs) ≡ c
          → cond (nat_lt (cond (not b) (1 + place eq e xs) 0) (suc (length xs))) (Some (cond (not b) (1 + place eq e xs) 0)) None
          ≡ behind b (cond c (Some (place eq e xs)) None)
      by true c h = rw first refl
      by false true h = rw (next, lt-next (place eq e xs) (length xs) true h) refl
      by false false h = rw (next, lt-next (place eq e xs) (length xs) false h) refl

  module _ (laws : IsEquivalence eq) where
    -- equal entries have the same number
    pub number_in-equal : (e d : E) (xs : List E) → eq e d ≡ true → number_in xs e ≡ number_in xs d
    number_in-equal e d [] h = refl
    number_in-equal e d (x ∷ xs) h =
        number_in-step x xs e ∙ rw (laws.congr e d x h, number_in-equal e d xs h) (sym (number_in-step x xs d))

    -- none, exactly where it isn't there
    pub numbered : (e : E) (xs : List E) → is_some (number_in xs e) ≡ is_in eq e xs
    numbered e [] = refl
    numbered e (x ∷ xs) = ap is_some (number_in-step x xs e) ∙ by (eq e x) (number_in xs e) (numbered e xs)
      where
        by : (b : Bool) (o : Option ℕ) → is_some o ≡ is_in eq e xs → is_some (behind b o) ≡ (b || is_in eq e xs)
        by true o h = refl
        by false None h = h
        by false (Some n) h = h

    -- behind the others
    number_in-last : (e d : E) (xs : List E) → eq d e ≡ true → is_in eq e xs ≡ false → number_in (xs ++ e ∷ []) d ≡ Some (length xs)
    number_in-last e d [] h out = number_in-step e [] d ∙ rw h refl
    number_in-last e d (x ∷ xs) h out = by (eq e x) refl out (number_in-last e d xs h)
      where
        by : (b : Bool) → eq e x ≡ b → (b || is_in eq e xs) ≡ false → (is_in eq e xs ≡ false → number_in (xs ++ e ∷ []) d ≡ Some (length xs))
            → number_in (x ∷ xs ++ e ∷ []) d ≡ Some (suc (length xs))
        by true q out k = cc
        by false q out k = number_in-step x (xs ++ e ∷ []) d ∙ rw (laws.congr d e x h, q, k out) refl

    -- no other number changes
    number_in-other : (e d : E) (xs : List E) → eq d e ≡ false → number_in (xs ++ e ∷ []) d ≡ number_in xs d
    number_in-other e d [] h = number_in-step e [] d ∙ rw h refl
    number_in-other e d (x ∷ xs) h = number_in-step x (xs ++ e ∷ []) d ∙ ap (λ o. behind (eq d x) o) (number_in-other e d xs h) ∙ sym (number_in-step x xs d)

    others-same : (e : E) (keys xs : List E) → is_in eq e keys ≡ false → map (number_in (xs ++ e ∷ [])) keys ≡ map (number_in xs) keys
    others-same e [] xs h = refl
    others-same e (d ∷ ds) xs h = by (eq e d) refl h (others-same e ds xs)
      where
        by : (b : Bool) → eq e d ≡ b → (b || is_in eq e ds) ≡ false → (is_in eq e ds ≡ false → map (number_in (xs ++ e ∷ [])) ds ≡ map (number_in xs) ds)
            → map (number_in (xs ++ e ∷ [])) (d ∷ ds) ≡ map (number_in xs) (d ∷ ds)
        by true q out k = cc
        by false q out k = rw (number_in-other e d xs (laws.symm d e ∙ q), k out) refl

    -- the numbers of the cited entries, where e, which stands at k among them, is listed
    pub numbers-set : (keys : List E) (k : ℕ) (e : E) (xs : List E) → NoTwoEqual eq keys → is_in eq e keys ≡ true → k ≡ place eq e keys → is_in eq e xs ≡ false
        → set (map (number_in xs) keys) k (Some (length xs)) ≡ map (number_in (xs ++ e ∷ [])) keys
    numbers-set [] k e xs once there at out = cc
    numbers-set (d ∷ ds) k e xs once there at out = by (eq e d) refl there at (numbers-set ds)
      where
        by : (b : Bool) → eq e d ≡ b → (b || is_in eq e ds) ≡ true → k ≡ cond (not b) (1 + place eq e ds) 0
            → ((j : ℕ) (f : E) (ys : List E) → NoTwoEqual eq ds → is_in eq f ds ≡ true → j ≡ place eq f ds → is_in eq f ys ≡ false
            → set (map (number_in ys) ds) j (Some (length ys)) ≡ map (number_in (ys ++ f ∷ [])) ds)
            → set (map (number_in xs) (d ∷ ds)) k (Some (length xs)) ≡ map (number_in (xs ++ e ∷ [])) (d ∷ ds)
        by true q there at more =
            let apart : is_in eq e ds ≡ false = is_in-equal eq laws e d ds q ∙ once.0 in
            rw (at, number_in-last e d xs (laws.symm d e ∙ q) out, others-same e ds xs apart) refl
        by false q there at more =
            let next : k ≡ suc (place eq e ds) = at ∙ omega arith in
            rw (next, number_in-other e d xs (laws.symm d e ∙ q)) (ap (λ l. number_in xs d ∷ l) (more (place eq e ds) e xs once.1 there refl out))

    -- what stands at the place of e is equal to it
    pub number-at : (keys : List E) (k : ℕ) (e : E) (xs : List E) → is_in eq e keys ≡ true → k ≡ place eq e keys
        → slice_get (map (number_in xs) keys) k ≡ Some (number_in xs e)
    number-at [] k e xs there at = cc
    number-at (d ∷ ds) k e xs there at = by (eq e d) refl there at (number-at ds)
      where
        by : (b : Bool) → eq e d ≡ b → (b || is_in eq e ds) ≡ true → k ≡ cond (not b) (1 + place eq e ds) 0
            → ((j : ℕ) (f : E) (ys : List E) → is_in eq f ds ≡ true → j ≡ place eq f ds → slice_get (map (number_in ys) ds) j ≡ Some (number_in ys f))
            → slice_get (map (number_in xs) (d ∷ ds)) k ≡ Some (number_in xs e)
        by true q there at more = rw at (ap Some (sym (number_in-equal e d xs q)))
        by false q there at more =
            let next : k ≡ suc (place eq e ds) = at ∙ omega arith in
            rw next (more (place eq e ds) e xs there refl)

module _ {E : Type 0} (eq : E → E → Bool) (laws : IsEquivalence eq) where
  -- each of entries that are all different stands at its place
  pub own-place : (es : List E) (k : ℕ) (d : E) → NoTwoEqual eq es → k < length es → StandsAt eq es (get_or es k d) k
  own-place [] k d once within = absurd (omega (arith, within))
  own-place (e ∷ es) zero d once within = record { listed = rw (laws.refl e) refl; at = rw (laws.refl e) refl }
  own-place (e ∷ es) (suc k) d once within =
      let more = own-place es k d once.1 (omega (arith, within)) in
      let f = get_or es k d in
      let apart : eq f e ≡ false = by (eq f e) refl more.listed in
      record {
        listed = rw (apart, more.listed) refl;
        at = rw apart (omega (arith, more.at));
      }
    where
      by : (b : Bool) → eq (get_or es k d) e ≡ b → is_in eq (get_or es k d) es ≡ true → eq (get_or es k d) e ≡ false
      by false q there = q
      by true q there = absurd (true≢false (sym there ∙ is_in-equal eq laws (get_or es k d) e es q ∙ once.0))

-- the numbers from a on, none equal to another
lower : (b a n : ℕ) → b < a → is_in nat_eq b (range_with_len a n) ≡ false
lower b a zero h = refl
lower b a (suc n) h = let other : nat_eq b a ≡ false = grind (arith, nat_tests) in rw (other, lower b (a + 1) n (omega arith)) refl

range-once : (a n : ℕ) → NoTwoEqual nat_eq (range_with_len a n)
range-once a zero = tt
range-once a (suc n) = (lower a (a + 1) n (omega arith), range-once (a + 1) n)

pub range-more : (a n j : ℕ) → a + n ≡ j → range_with_len a (n + 1) ≡ range_with_len a n ++ j ∷ []
range-more a zero j h = let e : a ≡ j = omega arith in rw e refl
range-more a (suc n) j h =
    let more : suc n + 1 ≡ suc (n + 1) = omega arith in
    rw more (ap (λ l. a ∷ l) (range-more (a + 1) n j (omega arith)))

range-at : (n k : ℕ) → k < n → StandsAt nat_eq (range_with_len 0 n) k k
range-at n k h =
    let within : k < length (range_with_len 0 n) = subst (λ m. k < m) (sym (length-range_with_len 0 n)) h in
    let here : get_or (range_with_len 0 n) k k ≡ k = get_or-range_with_len 0 n k k h ∙ omega arith in
    subst (λ p. StandsAt nat_eq (range_with_len 0 n) p k) here (own-place nat_eq nat_eq_equiv (range_with_len 0 n) k k (range-once 0 n) within)

module _ (numbers : List (Option ℕ)) (order : List ℕ) (k : ℕ) (slot : Option ℕ)
    (h : numbers ≡ map (number_in nat_eq order) (range_with_len 0 (length numbers))) (within : k < length numbers) (here : slot ≡ get_or numbers k slot) where
  told : is_some slot ≡ is_in nat_eq k order
  told =
      let at : Some slot ≡ Some (number_in nat_eq order k) =
      ap Some here ∙ sym (slice_get-get_or numbers k slot within) ∙ ap (λ ns. slice_get ns k) h
      ∙ number-at nat_eq nat_eq_equiv (range_with_len 0 (length numbers)) k k order (range-at (length numbers) k within).listed (range-at (length numbers) k within).at in
      ap is_some (unwrapped at) ∙ numbered nat_eq nat_eq_equiv k order
    where
      unwrapped : {a b : Option ℕ} → Some a ≡ Some b → a ≡ b
      unwrapped p = cc

  -- one more in the order
  pub list-new : is_some slot ≡ false → order ++ k ∷ [] ≡ with_new nat_eq order k
  list-new none = let out : is_in nat_eq k order ≡ false = sym told ∙ none in rw out refl

  pub list-old : is_some slot ≡ true → order ≡ with_new nat_eq order k
  list-old some = let there : is_in nat_eq k order ≡ true = sym told ∙ some in rw there refl

  numbers-more : is_some slot ≡ false → let more = set numbers k (Some (length order)) in more ≡ map (number_in nat_eq (order ++ k ∷ [])) (range_with_len 0 (length more))
  numbers-more none =
      let out : is_in nat_eq k order ≡ false = sym told ∙ none in
      let stands = range-at (length numbers) k within in
      ap (λ ns. set ns k (Some (length order))) h
      ∙ numbers-set nat_eq nat_eq_equiv (range_with_len 0 (length numbers)) k k order (range-once 0 (length numbers)) stands.listed stands.at out
      ∙ ap (λ n. map (number_in nat_eq (order ++ k ∷ [])) (range_with_len 0 n)) (sym (length-set numbers k (Some (length order))))

  -- and its number
  pub numbers-new : {len : ℕ} {os : List ℕ} → is_some slot ≡ false → len ≡ length order → os ≡ order ++ k ∷ []
      → let more = set numbers k (Some len) in more ≡ map (number_in nat_eq os) (range_with_len 0 (length more))
  numbers-new none l o = rw (l, o) (numbers-more none)

-- none is in the order
pub unnumbered : (n : ℕ) (numbers : List (Option ℕ)) (order : List ℕ) → order ≡ [] → numbers ≡ replicate n None → numbers ≡ map (number_in nat_eq order) (range_with_len 0 (length numbers))
unnumbered n numbers order none h =
    rw none (h ∙ blank 0 n ∙ ap (λ m. map (number_in nat_eq []) (range_with_len 0 m)) (sym (length-replicate n None) ∙ sym (ap length h)))
  where
    blank : (a n : ℕ) → replicate n None ≡ map (number_in nat_eq []) (range_with_len a n)
    blank a zero = refl
    blank a (suc n) = ap (λ l. None ∷ l) (blank (a + 1) n)
