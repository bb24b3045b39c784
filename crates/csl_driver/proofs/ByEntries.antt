-- Lists by the places of entries that each stand there once.
use Rattle.std.proofs.Common.{◌≡◌, ℕ, zero, suc, ◌+◌, ◌<◌, ◌≤◌, Bool, true, List, [], ◌∷◌, ◌++◌, Option, Some, None, length, map, take, get_or, refl, ap, sym, ◌∙◌, arith}
use Rattle.std.specs.Prelude.{All, slice_get, unwrap_or}
use Rattle.std.specs.Cmp.{IsEquivalence}
use Rattle.std.specs.List.{range_with_len}
use Rattle.std.proofs.lemmas.List.{map-append}
use Rattle.std.proofs.lemmas.List.Elements.{All-cons, All-head, All-nil, All-tail}
use Rattle.std.proofs.lemmas.Simd.{map-map}
use Rattle.driver_entries.specs.Entries.{is_in, place}
use Rattle.driver_entries.specs.Laws.{NoTwoEqual}
use Rattle.driver_entries.proofs.ListedPlaces.{all-cited, place-within}
use Rattle.driver_entries.proofs.Once.{without_gaps}
use Rattle.driver_entries.proofs.Placing.{all_in, left, right}
use Rattle.driver_lookup.specs.declared.state.DisambiguateState.{DisambiguateState}
use Rattle.driver_positions.specs.FirstProperties.{numbered_by}
use Rattle.rounds_runs.specs.Rerenders.{AreStatesOf}
use Rattle.rounds_runs.specs.Rounds.{StateTable, told_by}

zero-more : (n : ℕ) → 0 + n ≡ n
zero-more n = omega arith

ranged : {X : Type 0} (ys : List X) (d : X) (b : ℕ) (xs : List X) → ((k : ℕ) → get_or ys (b + k) d ≡ get_or xs k d) → map (λ k. get_or ys k d) (range_with_len b (length xs)) ≡ xs
ranged ys d b [] h = refl
ranged ys d b (x ∷ xs) h =
    let here : b ≡ b + 0 = omega arith in
    let next : (k : ℕ) → b + 1 + k ≡ b + suc k = λ k. omega arith in
    let first : get_or ys b d ≡ x = ap (λ k. get_or ys k d) here ∙ h 0 in
    λ i. first i ∷ ranged ys d (b + 1) xs (λ k. ap (λ n. get_or ys n d) (next k) ∙ h (suc k)) i

taken-at : {X : Type 0} (xs : List X) (n k : ℕ) (d : X) → k < n → get_or (take n xs) k d ≡ get_or xs k d
taken-at xs zero k d h = absurd (omega (arith, h))
taken-at [] (suc n) k d h = refl
taken-at (x ∷ xs) (suc n) zero d h = refl
taken-at (x ∷ xs) (suc n) (suc k) d h = taken-at xs n k d (omega (arith, h))

taken-length : {X : Type 0} (xs : List X) (n : ℕ) → n ≤ length xs → length (take n xs) ≡ n
taken-length xs zero h = refl
taken-length [] (suc n) h = absurd (omega (arith, h))
taken-length (x ∷ xs) (suc n) h = ap suc (taken-length xs n (omega (arith, h)))

pub agree : {E Y : Type 0} (f g : E → Y) (xs : List E) → All (λ e. f e ≡ g e) xs → map f xs ≡ map g xs
agree f g [] h = refl
agree f g (x ∷ xs) h = λ i. All-head (λ e. f e ≡ g e) x xs h i ∷ agree f g xs (All-tail (λ e. f e ≡ g e) x xs h) i

taken-more : {X : Type 0} (xs : List X) (k : ℕ) (x : X) → slice_get xs k ≡ Some x → take (suc k) xs ≡ take k xs ++ x ∷ []
taken-more [] k x h = cc
taken-more (y ∷ ys) zero x h = let same : y ≡ x = ap (λ o. unwrap_or o y) h in ap (λ z. z ∷ []) same
taken-more (y ∷ ys) (suc k) x h = ap (λ zs. y ∷ zs) (taken-more ys k x h)

-- one more is taken
pub one-taken : {A X : Type 0} (view : A → X) (xs : List X) (k : ℕ) (before now : List A) (a : A) → now ≡ before ++ a ∷ [] → map view before ≡ take k xs → slice_get xs k ≡ Some (view a)
    → map view now ≡ take (k + 1) xs
one-taken view xs k before now a push was at =
    let one : suc k ≡ k + 1 = omega arith in
    ap (map view) push ∙ map-append view before (a ∷ []) ∙ ap (λ l. l ++ view a ∷ []) was ∙ sym (taken-more xs k (view a) at) ∙ ap (λ n. take n xs) one

module _ {E : Type 0} (eq : E → E → Bool) (laws : IsEquivalence eq) (es : List E) (once : NoTwoEqual eq es) where
  by-entries : {X : Type 0} (xs : List X) (d : X) → length xs ≡ length es → xs ≡ map (λ e. get_or xs (place eq e es) d) es
  by-entries xs d same =
      sym (ranged xs d 0 xs (λ k. ap (λ n. get_or xs n d) (zero-more k)))
      ∙ ap (λ n. map (λ k. get_or xs k d) (range_with_len 0 n)) same
      ∙ ap (map (λ k. get_or xs k d)) (sym (without_gaps eq laws 0 es once))
      ∙ map-map (λ k. get_or xs k d) (λ e. 0 + place eq e es) es
      ∙ (λ i. map (λ e. get_or xs (zero-more (place eq e es) i) d) es)

  each : {Y : Type 0} (f g : E → Y) → ((e : E) → place eq e es < length es → f e ≡ g e) → (xs : List E) → all_in eq laws es xs ≡ true → All (λ e. f e ≡ g e) xs
  each f g h [] inside = All-nil (λ e. f e ≡ g e)
  each f g h (x ∷ xs) inside =
      All-cons (λ e. f e ≡ g e) x xs (h x (place-within eq laws x es (left (is_in eq x es) (all_in eq laws es xs) inside)))
      (each f g h xs (right (is_in eq x es) (all_in eq laws es xs) inside))

  own : {Y : Type 0} (f g : E → Y) → ((e : E) → place eq e es < length es → f e ≡ g e) → map f es ≡ map g es
  own f g h = agree f g es (each f g h es (all-cited eq laws es es (λ e. refl)))

  -- the states of the entries
  pub states-of : (table : StateTable E) (states : List (Option DisambiguateState)) → AreStatesOf eq es table states → map told_by states ≡ map (λ e. told_by (table e)) es
  states-of table states are =
      ap (map told_by) (by-entries states None are.long) ∙ map-map told_by (λ e. get_or states (place eq e es) None) es
      ∙ own (λ e. told_by (get_or states (place eq e es) None)) (λ e. told_by (table e)) (λ e below. ap told_by (are.at e below))

  -- their numbers, without that of the next
  pub numbers-of : (number_of : E → ℕ) (numbers : List ℕ) → length numbers ≡ length es + 1 → numbered_by eq numbers es ≡ number_of → take (length es) numbers ≡ map number_of es
  numbers-of number_of numbers long are =
      by-entries (take (length es) numbers) 0 (taken-length numbers (length es) (omega (arith, long)))
      ∙ own (λ e. get_or (take (length es) numbers) (place eq e es) 0) number_of (λ e below. taken-at numbers (length es) (place eq e es) 0 below ∙ (λ i. are i e))
