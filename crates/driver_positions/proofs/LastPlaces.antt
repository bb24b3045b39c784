-- The place of the last member that passes a test, and the number of the first note.
use Rattle.std.proofs.Common.{◌≡◌, ℕ, zero, suc, ◌-◌, ◌<◌, ◌≤◌, Bool, true, false, cond, ◌&&◌, ◌||◌, ◌⊎◌, nat_le, List, [], ◌∷◌, ◌++◌, Option, Some, None, is_some, length, drop, find, option_and_then, inl, inr, refl, ap, sym, ◌∙◌, arith}
use Rattle.std.specs.List.{list_any}
use Rattle.std.specs.Option.{ForSome, option_or}
use Rattle.std.proofs.lemmas.Bool.{cases_lt}
use Rattle.std.proofs.lemmas.Bool.Decides.{nat_tests}
use Rattle.driver_passes.specs.Request.{Request}
use Rattle.driver_positions.specs.FirstProperties.{has_cite_of, first_note, last_of, notes_entry}
use Rattle.driver_positions.specs.Seen.{is_within, last_place, last_place_behind}

module _ {X : Type 0} (p : X → Bool) where
  pub last_place-push : (xs : List X) (x : X) → last_place p (xs ++ x ∷ []) ≡ cond (p x) (Some (length xs)) (last_place p xs)
  last_place-push [] x = refl
  last_place-push (y ∷ ys) x = ap (λ o. last_place_behind (p y) o) (last_place-push ys x) ∙ by (p x)
    where
      by : (b : Bool) → last_place_behind (p y) (cond b (Some (length ys)) (last_place p ys)) ≡ cond b (Some (suc (length ys))) (last_place_behind (p y) (last_place p ys))
      by true = refl
      by false = refl

  below-behind : (b : Bool) (o : Option ℕ) (n : ℕ) → ForSome o (λ k. k < n) → ForSome (last_place_behind b o) (λ k. k < suc n)
  below-behind b (Some j) n h = λ k e. let within : j < n = h j refl in let same : suc j ≡ k = cc in omega arith
  below-behind true None n h = λ k e. let same : 0 ≡ k = cc in omega arith
  below-behind false None n h = λ k e. cc

  pub last_place-below : (xs : List X) → ForSome (last_place p xs) (λ k. k < length xs)
  last_place-below [] = λ k e. cc
  last_place-below (x ∷ xs) = below-behind (p x) (last_place p xs) (length xs) (last_place-below xs)

  -- one member more in front, where the last n are among the others
  inside : (b : Bool) (o : Option ℕ) (l n : ℕ) → n ≤ l → is_within l n o ≡ is_within (suc l) n (last_place_behind b o)
  inside b (Some k) l n h = let same : suc l - suc k ≡ l - k = omega arith in ap (λ m. nat_le m n) (sym same)
  inside true None l n h = grind (arith, nat_tests)
  inside false None l n h = refl

  -- and where they are all
  whole : (b : Bool) (o : Option ℕ) (l n : ℕ) → l < n → (b || is_within l n o) ≡ is_within (suc l) n (last_place_behind b o)
  whole true (Some k) l n h = grind (arith, nat_tests)
  whole false (Some k) l n h = let same : suc l - suc k ≡ l - k = omega arith in ap (λ m. nat_le m n) (sym same)
  whole true None l n h = grind (arith, nat_tests)
  whole false None l n h = refl

  -- one of the last n passes
  pub is_within-last : (n : ℕ) (xs : List X) → list_any p (last_of n xs) ≡ is_within (length xs) n (last_place p xs)
  is_within-last n [] = ap (λ l. list_any p l) (drop-nil (0 - n))
    where
      drop-nil : (k : ℕ) → drop {A = X} k [] ≡ []
      drop-nil zero = refl
      drop-nil (suc k) = refl
  is_within-last n (x ∷ xs) = by (is_within-last n xs) (cases_lt (length xs) n)
    where
      by : list_any p (last_of n xs) ≡ is_within (length xs) n (last_place p xs) → (length xs < n) ⊎ (n ≤ length xs)
          → list_any p (last_of n (x ∷ xs)) ≡ is_within (suc (length xs)) n (last_place p (x ∷ xs))
      by more (inl h) =
          let none : suc (length xs) - n ≡ 0 = omega arith in
          let none-inside : 0 ≡ length xs - n = omega arith in
          ap (λ k. list_any p (drop k (x ∷ xs))) none ∙ ap (λ k. p x || list_any p (drop k xs)) none-inside ∙ ap (λ b. p x || b) more ∙ whole (p x) (last_place p xs) (length xs) n h
      by more (inr h) =
          let one : suc (length xs) - n ≡ suc (length xs - n) = omega arith in
          ap (λ k. list_any p (drop k (x ∷ xs))) one ∙ more ∙ inside (p x) (last_place p xs) (length xs) n h

module _ {E P : Type 0} (eq : E → E → Bool) (e : E) where
  -- the number of a request that notes e comes first
  pub first_note-push : (rs : List (Request E P)) (r : Request E P)
      → first_note eq e (rs ++ r ∷ []) ≡ option_or (first_note eq e rs) (cond (has_cite_of eq e r) r.note_number None)
  first_note-push [] r = by r.note_number (has_cite_of eq e r) refl
    where
      by : (o : Option ℕ) (b : Bool) → r.note_number ≡ o → option_and_then (λ q. q.note_number) (cond (is_some o && b) (Some r) None) ≡ cond b o None
      by None true h = refl
      by None false h = refl
      by (Some n) true h = h
      by (Some n) false h = refl
  first_note-push (q ∷ rs) r = by q.note_number (has_cite_of eq e q) refl (first_note-push rs r)
    where
      by : (o : Option ℕ) (b : Bool) → q.note_number ≡ o
          → first_note eq e (rs ++ r ∷ []) ≡ option_or (first_note eq e rs) (cond (has_cite_of eq e r) r.note_number None)
          → option_and_then (λ q. q.note_number) (cond (is_some o && b) (Some q) (find (notes_entry eq e) (rs ++ r ∷ [])))
          ≡ option_or (option_and_then (λ q. q.note_number) (cond (is_some o && b) (Some q) (find (notes_entry eq e) rs))) (cond (has_cite_of eq e r) r.note_number None)
      by None b h k = k
      by (Some n) false h k = k
      by (Some n) true h k = h ∙ ap (λ o. option_or o (cond (has_cite_of eq e r) r.note_number None)) (sym h)
