-- The entries that notes cite, one more.
use mathlib.Core.Bool.{or-false, or-true}
use Rattle.std.proofs.Common.{◌≡◌, ℕ, zero, suc, ◌+◌, ◌-◌, ◌<◌, ◌≤◌, ◌≢◌, Bool, true, false, cond, not, ◌&&◌, ◌||◌, Some, None, Option, List, [], ◌∷◌, length, map, get_or, take, refl, ap, sym, ◌∙◌, arith, add-one}
use Rattle.std.specs.Prelude.{nat_eq, option_map, slice_get}
use Rattle.std.specs.HashMap.{HashMap, get}
use Rattle.std.specs.List.{list_any}
use Rattle.std.specs.Map.{lookup}
use Rattle.std.specs.Option.{option_and_then}
use Rattle.std.specs.Cmp.{nat_eq_equiv}
use Rattle.std.proofs.lemmas.Bool.{eqb-true}
use Rattle.std.proofs.lemmas.List.Folds.{list_any-append}
use Rattle.std.proofs.lemmas.List.{take_all}
use Rattle.std.proofs.lemmas.Option.{slice_get-map, slice_get_read}
use Rattle.mentions_notes.specs.Noted.{is_other, noted_with}
use Rattle.mentions_notes.specs.Repeats.{before_at}
use Rattle.mentions_notes.specs.declared.repeats.NoteEntries.{NoteEntries}
use Rattle.list_lemmas.proofs.Stepping.{next}

other-grows : (e entry : ℕ) (o : Option NoteEntries) → is_other e (Some (noted_with entry o)) ≡ (is_other e o || not (nat_eq e entry))
other-grows e entry None = ap not (nat_eq_equiv.symm entry e)
other-grows e entry (Some c) = by c.several (nat_eq c.entry e) refl
  where
    by : (s b : Bool) → nat_eq c.entry e ≡ b → ((s || not (nat_eq c.entry entry)) || not (nat_eq c.entry e)) ≡ ((s || not (nat_eq c.entry e)) || not (nat_eq e entry))
    by true b p = refl
    by false false p =
        ap (λ d. not (nat_eq c.entry entry) || not d) p ∙ or-true (not (nat_eq c.entry entry)) ∙ sym (ap (λ d. not d || not (nat_eq e entry)) p)
    by false true p =
        let same : c.entry ≡ e = eqb-true c.entry e p in
        ap (λ d. not (nat_eq c.entry entry) || not d) p ∙ or-false (not (nat_eq c.entry entry)) ∙ ap (λ x. not (nat_eq x entry)) same
        ∙ sym (ap (λ d. not d || not (nat_eq e entry)) p)

-- an entry noted in a map
pub entry-noted : {S : Type 0} (old new : HashMap ℕ NoteEntries S) (number entry : ℕ) → ((q : ℕ) → get nat_eq new q ≡ cond (nat_eq number q) (Some (noted_with entry (get nat_eq old number))) (get nat_eq old q))
    → (n e : ℕ) → is_other e (get nat_eq new n) ≡ (is_other e (get nat_eq old n) || (nat_eq n number && not (nat_eq e entry)))
entry-noted {S = S} old new number entry updated n e = ap (is_other e) (updated n) ∙ by (nat_eq number n) refl
  where
    by : (b : Bool) → nat_eq number n ≡ b → is_other e (cond b (Some (noted_with entry (get nat_eq old number))) (get nat_eq old n)) ≡ (is_other e (get nat_eq old n) || (nat_eq n number && not (nat_eq e entry)))
    by true p =
        let same : number ≡ n = eqb-true number n p in
        other-grows e entry (get nat_eq old number) ∙ ap (λ x. is_other e (get nat_eq old x) || not (nat_eq e entry)) same
        ∙ ap (λ b. is_other e (get nat_eq old n) || (b && not (nat_eq e entry))) (sym (nat_eq_equiv.symm n number ∙ p))
    by false p = sym (ap (λ b. is_other e (get nat_eq old n) || (b && not (nat_eq e entry))) (nat_eq_equiv.symm n number ∙ p) ∙ or-false _)

-- cites of a note
pub none-noted : (was here : Bool) → was ≡ (was || (here && false))
none-noted true here = refl
none-noted false true = refl
none-noted false false = refl

more-noted : (was here a b : Bool) → ((was || (here && a)) || (here && b)) ≡ (was || (here && (a || (b || false))))
more-noted true here a b = refl
more-noted false true a b = ap (λ c. a || c) (sym (or-false b))
more-noted false false a b = refl

module _ {X : Type 0} (p : X → Bool) (xs : List X) (k : ℕ) (x : X) (within : k < length xs) (here : x ≡ get_or xs k x) where
  any-next : (list_any p (take k xs) || (p x || false)) ≡ list_any p (take (k + 1) xs)
  any-next = sym (list_any-append p (take k xs) (x ∷ [])) ∙ ap (list_any p) (sym (next xs k x within here))

  pub cites-noted : (was in_note all now : Bool) → all ≡ (was || (in_note && list_any p (take k xs))) → now ≡ (all || (in_note && p x)) → now ≡ (was || (in_note && list_any p (take (k + 1) xs)))
  cites-noted was in_note all now so_far added =
      added ∙ ap (λ b. b || (in_note && p x)) so_far ∙ more-noted was in_note (list_any p (take k xs)) (p x) ∙ ap (λ b. was || (in_note && b)) any-next

  -- requests of a document
  pub requests-noted : (all now : Bool) → all ≡ list_any p (take k xs) → now ≡ (all || p x) → now ≡ list_any p (take (k + 1) xs)
  requests-noted all now so_far added = added ∙ (λ i. so_far i || sym (or-false (p x)) i) ∙ any-next

pub all-noted : {X : Type 0} (p : X → Bool) (xs : List X) (k : ℕ) → length xs ≤ k → list_any p (take k xs) ≡ list_any p xs
all-noted p xs k h = ap (list_any p) (take_all k xs h)

pub no-notes : {S : Type 0} (noted : HashMap ℕ NoteEntries S) → noted.entries ≡ [] → (n e : ℕ) → is_other e (get nat_eq noted n) ≡ false
no-notes noted empty = λ n e. ap (λ es. is_other e (lookup (nat_eq n) es)) empty

-- the member before
pub before-found : {X : Type 0} (xs : List X) (k : ℕ) (x : X) → k ≢ 0 → k < length xs → x ≡ get_or xs (k - 1) x → before_at xs k ≡ Some x
before-found xs zero x some within here = absurd (some refl)
before-found xs (suc k) x some within here =
    let less : suc k - 1 ≡ k = omega arith in
    let inside : k < length xs = omega arith in
    slice_get_read xs (length xs) k x refl inside (here ∙ ap (λ j. get_or xs j x) less)

pub before-next : {X : Type 0} (xs : List X) (k : ℕ) (x : X) → k < length xs → x ≡ get_or xs k x → before_at xs (k + 1) ≡ Some x
before-next xs k x within here = ap (before_at xs) (add-one k) ∙ slice_get_read xs (length xs) k x refl within here

pub before-view : {X Y Z : Type 0} (view : X → Y) (f : Y → Option Z) (xs : List X) (k : ℕ) → option_and_then (λ x. f (view x)) (before_at xs k) ≡ option_and_then f (before_at (map view xs) k)
before-view view f xs zero = refl
before-view {X = X} view f xs (suc k) = by (slice_get xs k) ∙ ap (option_and_then f) (sym (slice_get-map view xs k))
  where
    by : (o : Option X) → option_and_then (λ x. f (view x)) o ≡ option_and_then f (option_map view o)
    by None = refl
    by (Some x) = refl
