-- Lists that are found by texts, as one of them grows.
use Rattle.std.proofs.Common.{◌≡◌, ℕ, suc, ◌+◌, Bool, true, false, cond, not, ◌||◌, List, [], ◌∷◌, ◌++◌, length, map, get_or, refl, ap, sym, ◌∙◌, append-nil, arith}
use Rattle.std.specs.Prelude.{bytes_eq}
use Rattle.std.specs.List.{AllByRecursion, list_any, position_or_len}
use Rattle.std.proofs.Math.ListN.{set}
use Rattle.std.proofs.lemmas.Bool.{or_parts}
use Rattle.rounds_ambiguity.proofs.Distinct.{NoTwoEqual}
use Rattle.rounds_ambiguity.proofs.Seconds.{bytes_laws}

-- the place of a text
abbrev pub at : List ℕ → List (List ℕ) → ℕ
at t ts = position_or_len (bytes_eq t) ts

abbrev pub is_listed : List ℕ → List (List ℕ) → Bool
is_listed t ts = list_any (bytes_eq t) ts

one-plus : (n : ℕ) → 1 + n ≡ suc n
one-plus n = omega arith

pub at-append : (t : List ℕ) (ts us : List (List ℕ)) → is_listed t ts ≡ true → at t (ts ++ us) ≡ at t ts
at-append t [] us h = cc
at-append t (s ∷ ts) us h = by (bytes_eq t s) h (at-append t ts us)
  where
    by : (b : Bool) → (b || is_listed t ts) ≡ true → (is_listed t ts ≡ true → at t (ts ++ us) ≡ at t ts) → cond (not b) (1 + at t (ts ++ us)) 0 ≡ cond (not b) (1 + at t ts) 0
    by true h k = refl
    by false h k = ap (λ n. 1 + n) (k h)

pub at-new : (t : List ℕ) (ts : List (List ℕ)) → is_listed t ts ≡ false → at t (ts ++ t ∷ []) ≡ length ts
at-new t [] h = rw (bytes_laws.refl t) refl
at-new t (s ∷ ts) h =
    let n : (bytes_eq t s ≡ false) × (is_listed t ts ≡ false) = or_parts (bytes_eq t s) (is_listed t ts) h in
    ap (λ b. cond (not b) (1 + at t (ts ++ t ∷ [])) 0) n.0 ∙ ap (λ k. 1 + k) (at-new t ts n.1) ∙ one-plus (length ts)

module _ {A : Type 0} (f g : List ℕ → List A) (t : List ℕ) (p : A) (grows : (u : List ℕ) → g u ≡ f u ++ cond (bytes_eq u t) (p ∷ []) []) where
  stays : (u : List ℕ) → bytes_eq t u ≡ false → g u ≡ f u
  stays u h = grows u ∙ ap (λ b. f u ++ cond b (p ∷ []) []) (bytes_laws.symm u t ∙ h) ∙ append-nil (f u)

  pub unlisted : (ts : List (List ℕ)) → is_listed t ts ≡ false → map g ts ≡ map f ts
  unlisted [] h = refl
  unlisted (s ∷ ts) h =
      let n : (bytes_eq t s ≡ false) × (is_listed t ts ≡ false) = or_parts (bytes_eq t s) (is_listed t ts) h in
      λ i. stays s n.0 i ∷ unlisted ts n.1 i

  none-listed : (s : List ℕ) (ts : List (List ℕ)) → bytes_eq t s ≡ true → AllByRecursion (λ u. bytes_eq s u ≡ false) ts → is_listed t ts ≡ false
  none-listed s [] e h = refl
  none-listed s (u ∷ ts) e h =
      let apart : bytes_eq t u ≡ false = bytes_laws.congr t s u e ∙ h.0 in
      ap (λ b. b || is_listed t ts) apart ∙ none-listed s ts e h.1

  pub one-grows : (ts : List (List ℕ)) → is_listed t ts ≡ true → NoTwoEqual bytes_eq ts → set (map f ts) (at t ts) (get_or (map f ts) (at t ts) [] ++ p ∷ []) ≡ map g ts
  one-grows [] h once = cc
  one-grows (s ∷ ts) h once = by (bytes_eq t s) refl h (λ k. one-grows ts k once.1)
    where
      by : (b : Bool) → bytes_eq t s ≡ b → (b || is_listed t ts) ≡ true
          → (is_listed t ts ≡ true → set (map f ts) (at t ts) (get_or (map f ts) (at t ts) [] ++ p ∷ []) ≡ map g ts)
          → set (f s ∷ map f ts) (cond (not b) (1 + at t ts) 0) (get_or (f s ∷ map f ts) (cond (not b) (1 + at t ts) 0) [] ++ p ∷ []) ≡ g s ∷ map g ts
      by true e h k =
          let grown : f s ++ p ∷ [] ≡ g s = sym (grows s ∙ ap (λ b. f s ++ cond b (p ∷ []) []) (bytes_laws.symm s t ∙ e)) in
          λ i. grown i ∷ sym (unlisted ts (none-listed s ts e once.0)) i
      by false e h k =
          ap (λ n. set (f s ∷ map f ts) n (get_or (f s ∷ map f ts) n [] ++ p ∷ [])) (one-plus (at t ts))
          ∙ (λ i. sym (stays s e) i ∷ k h i)
