-- Lists that are made member by member, and what some of their members pass.
use Rattle.std.proofs.Common.{◌≡◌, ℕ, ◌+◌, ◌<◌, ◌≤◌, zero, suc, Bool, true, false, cond, ◌||◌, Some, List, [], ◌∷◌, filter, get_or, length, map, take, refl, ap, sym, ◌∙◌, arith, true≢false}
use Rattle.std.specs.Prelude.{All, Any, option_map, slice_get}
use Rattle.std.specs.List.{AllZip, enumerate_from, list_any, range_with_len, zip}
use Rattle.std.proofs.lemmas.Bool.{or_parts}
use Rattle.std.proofs.lemmas.List.Elements.{All-cons, All-head, All-nil, All-tail}
use Rattle.std.proofs.lemmas.Option.{none-some, same_Some}

module _ {X Y : Type 0} where
  pub zip-maps : {Z : Type 0} (f : X → Y) (g : X → Z) (xs : List X) → zip xs (zip (map f xs) (map g xs)) ≡ map (λ x. (x, (f x, g x))) xs
  zip-maps f g [] = refl
  zip-maps f g (x ∷ xs) = ap (λ l. (x, (f x, g x)) ∷ l) (zip-maps f g xs)

  pub all-of-maps : (R : Y → Y → Type 0) (f g : X → Y) → ((x : X) → R (f x) (g x)) → (xs : List X) → AllZip R (map f xs) (map g xs)
  all-of-maps R f g h [] = tt
  all-of-maps R f g h (x ∷ xs) = (h x, all-of-maps R f g h xs)

  pub all-under : (P : Y → Type 0) (f : X → Y) (xs : List X) → All P (map f xs) → All (λ x. P (f x)) xs
  all-under P f [] h = All-nil (λ x. P (f x))
  all-under P f (x ∷ xs) h = All-cons (λ y. P (f y)) x xs (All-head P (f x) (map f xs) h) (all-under P f xs (All-tail P (f x) (map f xs) h))

  -- how many pass
  pub zipped-count : (q : Y → Bool) (f : X → Y) (xs : List X) → length (filter (λ p. q p.1) (zip xs (map f xs))) ≡ length (filter q (map f xs))
  zipped-count q f [] = refl
  zipped-count q f (x ∷ xs) = by (q (f x)) (zipped-count q f xs)
    where
      by : (b : Bool) → length (filter (λ p. q p.1) (zip xs (map f xs))) ≡ length (filter q (map f xs))
          → length (cond b ((x, f x) ∷ filter (λ p. q p.1) (zip xs (map f xs))) (filter (λ p. q p.1) (zip xs (map f xs)))) ≡ length (cond b (f x ∷ filter q (map f xs)) (filter q (map f xs)))
      by true e = ap suc e
      by false e = e

  pub mapped-count : (q : Y → Bool) (f : X → Y) (xs : List X) → length (filter q (map f xs)) ≡ length (filter (λ x. q (f x)) xs)
  mapped-count q f [] = refl
  mapped-count q f (x ∷ xs) = by (q (f x)) (mapped-count q f xs)
    where
      by : (b : Bool) → length (filter q (map f xs)) ≡ length (filter (λ x. q (f x)) xs)
          → length (cond b (f x ∷ filter q (map f xs)) (filter q (map f xs))) ≡ length (cond b (x ∷ filter (λ x. q (f x)) xs) (filter (λ x. q (f x)) xs))
      by true e = ap suc e
      by false e = e

module _ {X : Type 0} where
  pub all-every : (P : X → Type 0) → ((x : X) → P x) → (xs : List X) → All P xs
  all-every P h xs = λ k d l. h (get_or xs k d)

  pub any-here : (P : X → Type 0) (x : X) (xs : List X) → P x → Any P (x ∷ xs)
  any-here P x xs h = (0, x, omega arith, refl, h)

  pub any-later : (P : X → Type 0) (x : X) (xs : List X) → Any P xs → Any P (x ∷ xs)
  any-later P x xs a = (suc a.0, a.1, omega (arith, a.2), a.3, a.4)

  pub any-weaker : (P Q : X → Type 0) → ((x : X) → P x → Q x) → (xs : List X) → Any P xs → Any Q xs
  any-weaker P Q h xs a = (a.0, a.1, a.2, a.3, h a.1 a.4)

  -- of what is left out nothing passes that didn't before
  pub none-of-some : (p q : X → Bool) (xs : List X) → list_any p xs ≡ false → list_any p (filter q xs) ≡ false
  none-of-some p q [] h = refl
  none-of-some p q (x ∷ xs) h =
      let parts = or_parts (p x) (list_any p xs) h in
      by (q x) (none-of-some p q xs parts.1)
    where
      by : (b : Bool) → list_any p (filter q xs) ≡ false → list_any p (cond b (x ∷ filter q xs) (filter q xs)) ≡ false
      by true rest = (λ i. (or_parts (p x) (list_any p xs) h).0 i || rest i)
      by false rest = rest

  pub some-kept : (p : X → Bool) (xs : List X) → (filter p xs ≡ [] → ⊥) → list_any p xs ≡ true
  some-kept p [] h = absurd (h refl)
  some-kept p (x ∷ xs) h = by (p x) h (some-kept p xs)
    where
      by : (b : Bool) → (cond b (x ∷ filter p xs) (filter p xs) ≡ [] → ⊥) → ((filter p xs ≡ [] → ⊥) → list_any p xs ≡ true) → (b || list_any p xs) ≡ true
      by true h rest = refl
      by false h rest = rest h

  -- one that passes is counted behind its place
  pub counts-rise : (p : X → Bool) (xs : List X) (k j : ℕ) (d : X) → k < j → k < length xs → p (get_or xs k d) ≡ true → length (filter p (take k xs)) < length (filter p (take j xs))
  counts-rise p [] k j d h l e = absurd (omega arith)
  counts-rise p (x ∷ xs) k zero d h l e = absurd (omega arith)
  counts-rise p (x ∷ xs) zero (suc j) d h l e = by (p x) e
    where
      by : (b : Bool) → b ≡ true → 0 < length (cond b (x ∷ filter p (take j xs)) (filter p (take j xs)))
      by true e = omega arith
      by false e = absurd (true≢false (sym e))
  counts-rise p (x ∷ xs) (suc k) (suc j) d h l e = by (p x) (counts-rise p xs k j d (omega arith) (omega arith) e)
    where
      by : (b : Bool) → length (filter p (take k xs)) < length (filter p (take j xs))
          → length (cond b (x ∷ filter p (take k xs)) (filter p (take k xs))) < length (cond b (x ∷ filter p (take j xs)) (filter p (take j xs)))
      by true rest = omega arith
      by false rest = rest

  pub enumerated-at : (a : ℕ) (xs : List X) (i : ℕ) → slice_get (enumerate_from a xs) i ≡ option_map (λ x. (a + i, x)) (slice_get xs i)
  enumerated-at a [] i = refl
  enumerated-at a (x ∷ xs) zero = ap (λ n. Some (n, x)) (omega arith)
  enumerated-at a (x ∷ xs) (suc i) = enumerated-at (a + 1) xs i ∙ ap (λ n. option_map (λ y. (n, y)) (slice_get xs i)) (omega arith)

-- a member that passes is among those that are kept
pub record KeptAt {X : Type 0} (p : X → Bool) (xs : List X) (x : X) : Type 0 where
  pub place : ℕ
  pub there : slice_get (filter p xs) place ≡ Some x

pub kept-at : {X : Type 0} (p : X → Bool) (xs : List X) (k : ℕ) (x : X) → slice_get xs k ≡ Some x → p x ≡ true → KeptAt p xs x
kept-at p [] k x h e = absurd (none-some x h)
kept-at p (y ∷ ys) zero x h e =
    record { place = 0; there = ap (λ b. slice_get (cond b (y ∷ filter p ys) (filter p ys)) 0) (ap p (same_Some y x h) ∙ e) ∙ h }
kept-at p (y ∷ ys) (suc k) x h e = from (kept-at p ys k x h e)
  where
    from : KeptAt p ys x → KeptAt p (y ∷ ys) x
    from rest = record { place = later (p y); there = on (p y) }
      where
        later : Bool → ℕ
        later true = suc rest.place
        later false = rest.place

        on : (c : Bool) → slice_get (cond c (y ∷ filter p ys) (filter p ys)) (later c) ≡ Some x
        on true = rest.there
        on false = rest.there

-- and one that was kept is a member
pub record MemberAt {X : Type 0} (xs : List X) (x : X) : Type 0 where
  pub place : ℕ
  pub there : slice_get xs place ≡ Some x

pub was-kept : {X : Type 0} (p : X → Bool) (xs : List X) (k : ℕ) (x : X) → slice_get (filter p xs) k ≡ Some x → MemberAt xs x
was-kept p [] k x h = absurd (none-some x h)
was-kept p (y ∷ ys) k x h = by (p y) k h (λ j e. was-kept p ys j x e)
  where
    next : MemberAt ys x → MemberAt (y ∷ ys) x
    next at = record { place = suc at.place; there = at.there }

    by : (b : Bool) (k : ℕ) → slice_get (cond b (y ∷ filter p ys) (filter p ys)) k ≡ Some x → ((j : ℕ) → slice_get (filter p ys) j ≡ Some x → MemberAt ys x) → MemberAt (y ∷ ys) x
    by true zero e rest = record { place = 0; there = e }
    by true (suc k) e rest = next (rest k e)
    by false k e rest = next (rest k e)

pub range-at : (a n i x : ℕ) → slice_get (range_with_len a n) i ≡ Some x → x ≡ a + i
range-at a zero i x h = absurd (none-some x h)
range-at a (suc n) zero x h = let e : a ≡ x = same_Some a x h in omega (arith, e)
range-at a (suc n) (suc i) x h = let e = range-at (a + 1) n i x h in omega (arith, e)
