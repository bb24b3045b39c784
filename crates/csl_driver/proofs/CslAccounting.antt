-- Lists of every second member, and numbers of entries by the places of a listing.
use Rattle.std.proofs.Common.{◌≡◌, ℕ, ◌+◌, ◌<◌, Bool, true, false, cond, not, List, [], ◌∷◌, ◌++◌, All, get_or, length, map, refl, ap, sym, subst, ◌∙◌, arith}
use Rattle.std.specs.Prelude.{slice_get, slice_index_or}
use Rattle.std.specs.List.{cons_option, filter_map, find}
use Rattle.std.proofs.lemmas.List.Elements.{All-get_or}
use Rattle.std.proofs.lemmas.List.Folds.{find_at}
use Rattle.std.proofs.lemmas.Simd.{map-map}
use Rattle.csl_driver.specs.CslAccount.{every_second}
use Rattle.driver_entries.specs.Entries.{place}
use Rattle.driver_positions.specs.FirstProperties.{numbered_by}

-- whether the next member is taken
abbrev pub next_taken : {X : Type 0} → Bool → List X → Bool
next_taken taken [] = taken
next_taken taken (x ∷ xs) = next_taken (not taken) xs

-- one member more
pub second-more : {X : Type 0} (taken : Bool) (xs : List X) (x : X) → every_second taken (xs ++ x ∷ []) ≡ cond (next_taken taken xs) (every_second taken xs ++ x ∷ []) (every_second taken xs)
second-more true [] x = refl
second-more false [] x = refl
second-more true (y ∷ ys) x = by (next_taken false ys) (second-more false ys x)
  where
    by : (b : Bool) → every_second false (ys ++ x ∷ []) ≡ cond b (every_second false ys ++ x ∷ []) (every_second false ys)
        → y ∷ every_second false (ys ++ x ∷ []) ≡ cond b (y ∷ every_second false ys ++ x ∷ []) (y ∷ every_second false ys)
    by true h = ap (λ l. y ∷ l) h
    by false h = ap (λ l. y ∷ l) h
second-more false (y ∷ ys) x = second-more true ys x

pub next-turns : {X : Type 0} (taken : Bool) (xs : List X) (x : X) → next_taken taken (xs ++ x ∷ []) ≡ not (next_taken taken xs)
next-turns taken [] x = refl
next-turns taken (y ∷ ys) x = next-turns (not taken) ys x

-- a member is taken without the first one where it isn't taken with it
other-turn : {X : Type 0} (taken : Bool) (xs : List X) → next_taken (not taken) xs ≡ not (next_taken taken xs)
other-turn taken [] = refl
other-turn taken (x ∷ xs) = other-turn (not taken) xs

module _ {X : Type 0} (xs : List X) (x : X) (turn : Bool) (is : turn ≡ next_taken true xs) where
  with-first : {b : Bool} → turn ≡ b → every_second true (xs ++ x ∷ []) ≡ cond b (every_second true xs ++ x ∷ []) (every_second true xs)
  with-first t = second-more true xs x ∙ ap (λ b. cond b (every_second true xs ++ x ∷ []) (every_second true xs)) (sym is ∙ t)

  without-first : {b : Bool} → turn ≡ b → every_second false (xs ++ x ∷ []) ≡ cond (not b) (every_second false xs ++ x ∷ []) (every_second false xs)
  without-first t = second-more false xs x ∙ ap (λ b. cond b (every_second false xs ++ x ∷ []) (every_second false xs)) (other-turn true xs ∙ ap not (sym is ∙ t))

  -- one member more, where it is its turn
  pub first-grows : turn ≡ true → every_second true (xs ++ x ∷ []) ≡ every_second true xs ++ x ∷ []
  first-grows t = with-first t

  pub later-stays : turn ≡ true → every_second false (xs ++ x ∷ []) ≡ every_second false xs
  later-stays t = without-first t

  -- and where it isn't
  pub first-stays : turn ≡ false → every_second true (xs ++ x ∷ []) ≡ every_second true xs
  first-stays t = with-first t

  pub later-grows : turn ≡ false → every_second false (xs ++ x ∷ []) ≡ every_second false xs ++ x ∷ []
  later-grows t = without-first t

  pub turns : not turn ≡ next_taken true (xs ++ x ∷ [])
  turns = ap not is ∙ sym (next-turns true xs x)

-- entries that are listed by their places among others
pub entries-found : {E : Type 0} (eq : E → E → Bool) (entries listed : List E)
    → filter_map (slice_get entries) (map (λ e. place eq e entries) listed) ≡ filter_map (λ e. find (eq e) entries) listed
entries-found eq entries [] = refl
entries-found eq entries (e ∷ listed) = λ i. cons_option (sym (find_at (eq e) entries) i) (entries-found eq entries listed i)

-- where there is a number for each entry, and for the next, there is one at each place of a listing
pub number-there : (n : ℕ) (places order numbers : List ℕ) (k : ℕ) → All (λ p. p < n) places → order ≡ places → length numbers ≡ n + 1 → k < length order → get_or order k 0 < length numbers
number-there n places order numbers k all is long within =
    let below = All-get_or (λ p. p < n) order k 0 within (subst (All (λ p. p < n)) (sym is) all) in
    omega (arith, below, long)

-- the numbers of entries that are listed, by their places
pub numbers-listed : {E : Type 0} (eq : E → E → Bool) (entries listed : List E) (numbers : List ℕ) (number_of : E → ℕ) → numbered_by eq numbers entries ≡ number_of
    → map (λ p. slice_index_or numbers p 0) (map (λ e. place eq e entries) listed) ≡ map number_of listed
numbers-listed eq entries listed numbers number_of are = map-map (λ p. slice_index_or numbers p 0) (λ e. place eq e entries) listed ∙ ap (λ f. map f listed) are
