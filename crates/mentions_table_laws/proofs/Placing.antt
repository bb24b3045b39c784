-- Places in lists of names and looks.
use Rattle.std.proofs.Common.{◌≡◌, ℕ, ◌+◌, ◌-◌, ◌<◌, ◌≤◌, zero, suc, Bool, true, false, cond, not, Some, None, Option, List, [], ◌∷◌, drop, get_or, length, map, take, refl, ap, sym, subst, ◌∙◌, arith, true≢false, length-drop}
use Rattle.std.specs.Prelude.{All, option_map, slice_get}
use Rattle.std.specs.List.{enumerate_from, position_or_len}
use Rattle.std.proofs.lemmas.List.{get_or-drop}
use Rattle.std.proofs.lemmas.Option.{get_or_from_slice_get, none-some, same_Some, slice_get-map, slice_get_within}
use Rattle.mentions_names.specs.Looks.{same_look}
use Rattle.mentions_names.specs.Telling.{first_difference, in_one_group}
use Rattle.mentions_names.specs.declared.look.Look.{Look}
use Rattle.mentions_names.proofs.Deciding.{looks_find}
use Rattle.mentions_table_laws.proofs.Listing.{enumerated-at}
use Rattle.std.proofs.lemmas.Bool.{eqb-true}

module _ {X : Type 0} where
  pub ends-there : (xs : List X) (i : ℕ) → slice_get xs i ≡ None → length xs ≤ i
  ends-there [] i e = omega arith
  ends-there (x ∷ xs) zero e = absurd (none-some x (sym e))
  ends-there (x ∷ xs) (suc i) e = let rest = ends-there xs i e in omega (arith, rest)

  pub among-first : (n : ℕ) (xs : List X) (i : ℕ) (y : X) → slice_get (take n xs) i ≡ Some y → slice_get xs i ≡ Some y
  among-first zero xs i y e = absurd (none-some y e)
  among-first (suc n) [] i y e = absurd (none-some y e)
  among-first (suc n) (x ∷ xs) zero y e = e
  among-first (suc n) (x ∷ xs) (suc i) y e = among-first n xs i y e

  pub position-within : (p : X → Bool) (xs : List X) → position_or_len p xs ≤ length xs
  position-within p [] = omega arith
  position-within p (x ∷ xs) = by (p x) (position-within p xs)
    where
      by : (b : Bool) → position_or_len p xs ≤ length xs → cond (not b) (1 + position_or_len p xs) 0 ≤ suc (length xs)
      by true h = omega arith
      by false h = omega (arith, h)

  pub before-position : (p : X → Bool) (xs : List X) (i : ℕ) (y : X) → slice_get xs i ≡ Some y → i < position_or_len p xs → p y ≡ false
  before-position p [] i y there h = absurd (none-some y there)
  before-position p (x ∷ xs) zero y there h = by (p x) refl h
    where
      by : (b : Bool) → p x ≡ b → 0 < cond (not b) (1 + position_or_len p xs) 0 → p y ≡ false
      by true e h = absurd (omega (arith, h))
      by false e h = ap p (sym (same_Some x y there)) ∙ e
  before-position p (x ∷ xs) (suc i) y there h = before-position p xs i y there (by (p x) h)
    where
      by : (b : Bool) → suc i < cond (not b) (1 + position_or_len p xs) 0 → i < position_or_len p xs
      by true h = absurd (omega (arith, h))
      by false h = omega (arith, h)

  pub behind-drop : (P : X → Type 0) (n : ℕ) (xs : List X) → All P (drop n xs) → (i : ℕ) (y : X) → n ≤ i → slice_get xs i ≡ Some y → P y
  behind-drop P n xs h i y l there =
      let within = slice_get_within xs i y there in
      let long = length-drop n xs in
      let at : get_or (drop n xs) (i - n) y ≡ y =
      get_or-drop n xs (i - n) y ∙ ap (λ k. get_or xs k y) (omega (arith, l)) ∙ get_or_from_slice_get xs i y y there in
      subst P at (h (i - n) y (omega (arith, long, within, l)))

  -- what is made of a member with its place
  pub record MadeAt {Y : Type 0} (f : ℕ × X → Y) (xs : List X) (i : ℕ) (y : Y) : Type 0 where
    pub member : X
    pub there : slice_get xs i ≡ Some member
    pub is_made : f (i, member) ≡ y

  pub made-at : {Y : Type 0} (f : ℕ × X → Y) (xs : List X) (i : ℕ) (y : Y) → slice_get (map f (enumerate_from 0 xs)) i ≡ Some y → MadeAt f xs i y
  made-at {Y = Y} f xs i y h = by (slice_get xs i) refl (sym (slice_get-map f (enumerate_from 0 xs) i ∙ ap (option_map f) (enumerated-at 0 xs i)) ∙ h)
    where
      zero-plus : (n : ℕ) → 0 + n ≡ n
      zero-plus n = omega arith

      by : (o : Option X) → slice_get xs i ≡ o → option_map f (option_map (λ x. (0 + i, x)) (slice_get xs i)) ≡ Some y → MadeAt f xs i y
      by None e g = absurd (none-some y (sym (ap (λ o. option_map f (option_map (λ x. (0 + i, x)) o)) e) ∙ g))
      by (Some x) e g = record {
        member = x;
        there = e;
        is_made = ap (λ n. f (n, x)) (sym (zero-plus i)) ∙ same_Some (f (0 + i, x)) y (sym (ap (λ o. option_map f (option_map (λ x. (0 + i, x)) o)) e) ∙ g);
      }

pub one-group : (g h : Option ℕ) → in_one_group g h ≡ true → g ≡ h
one-group None h e = absurd (true≢false (sym e))
one-group (Some g) None e = absurd (true≢false (sym e))
one-group (Some g) (Some h) e = ap Some (eqb-true g h e)

-- ---- first differences

look-symm : (r s : Look) → same_look r s ≡ same_look s r
look-symm r s = by (same_look r s) (same_look s r) refl refl
  where
    turned : (a b : Look) → same_look a b ≡ true → same_look b a ≡ true
    turned a b e = let same = looks_find.equal a b e in ap (same_look b) same ∙ looks_find.self b

    by : (b c : Bool) → same_look r s ≡ b → same_look s r ≡ c → b ≡ c
    by true true e f = refl
    by false false e f = refl
    by true false e f = absurd (true≢false (sym (turned r s e) ∙ f))
    by false true e f = absurd (true≢false (sym (turned s r f) ∙ e))

pub difference-symm : (rs ss : List Look) → first_difference rs ss ≡ first_difference ss rs
difference-symm [] [] = refl
difference-symm [] (s ∷ ss) = refl
difference-symm (r ∷ rs) [] = refl
difference-symm (r ∷ rs) (s ∷ ss) = λ i. cond (look-symm r s i) (option_map (λ n. n + 1) (difference-symm rs ss i)) (Some 0)

pub no-difference : (rs ss : List Look) → first_difference rs ss ≡ None → rs ≡ ss
no-difference [] [] e = refl
no-difference [] (s ∷ ss) e = absurd (none-some 0 (sym e))
no-difference (r ∷ rs) [] e = absurd (none-some 0 (sym e))
no-difference (r ∷ rs) (s ∷ ss) e = by (same_look r s) refl e (no-difference rs ss)
  where
    mapped : (o : Option ℕ) → option_map (λ n. n + 1) o ≡ None → o ≡ None
    mapped None e = refl
    mapped (Some n) e = absurd (none-some (n + 1) (sym e))

    by : (b : Bool) → same_look r s ≡ b → cond b (option_map (λ n. n + 1) (first_difference rs ss)) (Some 0) ≡ None → (first_difference rs ss ≡ None → rs ≡ ss) → r ∷ rs ≡ s ∷ ss
    by true same e rest = λ i. looks_find.equal r s same i ∷ rest (mapped (first_difference rs ss) e) i
    by false same e rest = absurd (none-some 0 (sym e))
