-- The second cites of their texts, as cites are added one by one.
use mathlib.Core.Bool.{or-false}
use Rattle.std.proofs.Common.{◌≡◌, ℕ, suc, ◌+◌, Bool, true, false, cond, ◌||◌, List, [], ◌∷◌, ◌++◌, length, map, filter, take, nat_eq, refl, ap, sym, subst, ◌∙◌, append-nil, append_assoc, arith}
use Rattle.std.specs.Prelude.{bytes_eq}
use Rattle.std.specs.Cmp.{IsEquivalence}
use Rattle.std.specs.Cmp.Lexicographic.{nat_list_eq_equiv}
use Rattle.std.specs.List.{AllByRecursion, enumerate_from, list_any}
use Rattle.std.proofs.Math.Seq.{take-append_seam}
use Rattle.std.proofs.lemmas.List.{length-append, map-append}
use Rattle.std.proofs.lemmas.List.Elements.{filter-append}
use Rattle.std.proofs.lemmas.Bool.Decides.{nat_tests}
use Rattle.std.proofs.lemmas.List.Folds.{list_any-append}
use Rattle.std.proofs.lemmas.Slice.Eq.{bytes_eq-Decides}
use Rattle.std.proofs.lemmas.Bool.{or_parts}
use Rattle.rounds_ambiguity.specs.Ambiguity.{class_of, is_second, seconds}
use Rattle.rounds_ambiguity.specs.ClassesSoFar.{texts}
use Rattle.rounds_ambiguity.specs.Members.{Member, shown_text}
use Rattle.rounds_ambiguity.proofs.Distinct.{NoTwoEqual}

pub bytes_laws : IsEquivalence bytes_eq
bytes_laws = nat_list_eq_equiv

two-not-one : (n : ℕ) → nat_eq (suc (suc n)) 1 ≡ true → ⊥
two-not-one n h = grind (arith, nat_tests)

all-push : (Q : List ℕ → Type 0) (ts : List (List ℕ)) (t : List ℕ) → AllByRecursion Q ts → Q t → AllByRecursion Q (ts ++ t ∷ [])
all-push Q [] t h q = (q, tt)
all-push Q (s ∷ ts) t h q = (h.0, all-push Q ts t h.1 q)

once-push : (ts : List (List ℕ)) (t : List ℕ) → NoTwoEqual bytes_eq ts → list_any (bytes_eq t) ts ≡ false → NoTwoEqual bytes_eq (ts ++ t ∷ [])
once-push [] t h none = (tt, tt)
once-push (s ∷ ts) t h none =
    let n : (bytes_eq t s ≡ false) × (list_any (bytes_eq t) ts ≡ false) = or_parts (bytes_eq t s) (list_any (bytes_eq t) ts) none in
    (all-push (λ u. bytes_eq s u ≡ false) ts t h.0 (bytes_laws.symm s t ∙ n.0), once-push ts t h.1 n.1)

module _ {E P : Type 0} where
  -- one of the cites has the text
  abbrev pub is_one : List (Member E P) → Bool
  is_one ms = nat_eq (length ms) 1

  -- those that are the second with their text, after others
  abbrev seconds_after : List (Member E P) → List (Member E P) → List (Member E P)
  seconds_after xs [] = []
  seconds_after xs (y ∷ ys) = cond (is_one (class_of xs (shown_text y))) (y ∷ seconds_after (xs ++ y ∷ []) ys) (seconds_after (xs ++ y ∷ []) ys)

  are-after : (xs ys all : List (Member E P)) → all ≡ xs ++ ys → map (λ p. p.1) (filter (is_second all) (enumerate_from (length xs) ys)) ≡ seconds_after xs ys
  are-after xs [] all e = refl
  are-after xs (y ∷ ys) all e =
      let before : take (length xs) all ≡ xs = ap (take (length xs)) e ∙ take-append_seam xs (y ∷ ys) in
      let more : all ≡ (xs ++ y ∷ []) ++ ys = e ∙ sym (append_assoc xs (y ∷ []) ys) in
      let rest : map (λ p. p.1) (filter (is_second all) (enumerate_from (length xs + 1) ys)) ≡ seconds_after (xs ++ y ∷ []) ys =
      subst (λ n. map (λ p. p.1) (filter (is_second all) (enumerate_from n ys)) ≡ seconds_after (xs ++ y ∷ []) ys) (length-append xs (y ∷ [])) (are-after (xs ++ y ∷ []) ys all more) in
      by (is_second all (length xs, y)) (is_one (class_of xs (shown_text y))) (ap (λ zs. is_one (class_of zs (shown_text y))) before) rest
    where
      by : (a b : Bool) → a ≡ b → map (λ p. p.1) (filter (is_second all) (enumerate_from (length xs + 1) ys)) ≡ seconds_after (xs ++ y ∷ []) ys
          → map (λ p. p.1) (cond a ((length xs, y) ∷ filter (is_second all) (enumerate_from (length xs + 1) ys)) (filter (is_second all) (enumerate_from (length xs + 1) ys)))
          ≡ cond b (y ∷ seconds_after (xs ++ y ∷ []) ys) (seconds_after (xs ++ y ∷ []) ys)
      by true true q k = ap (λ t. y ∷ t) k
      by false false q k = k
      by true false q k = cc
      by false true q k = cc

  after-push : (xs ys : List (Member E P)) (z : Member E P) → seconds_after xs (ys ++ z ∷ []) ≡ seconds_after xs ys ++ cond (is_one (class_of (xs ++ ys) (shown_text z))) (z ∷ []) []
  after-push xs [] z = ap (λ zs. cond (is_one (class_of zs (shown_text z))) (z ∷ []) []) (sym (append-nil xs))
  after-push xs (y ∷ ys) z =
      by (is_one (class_of xs (shown_text y)))
      (after-push (xs ++ y ∷ []) ys z
      ∙ ap (λ zs. seconds_after (xs ++ y ∷ []) ys ++ cond (is_one (class_of zs (shown_text z))) (z ∷ []) []) (append_assoc xs (y ∷ []) ys))
    where
      by : (b : Bool)
          → seconds_after (xs ++ y ∷ []) (ys ++ z ∷ []) ≡ seconds_after (xs ++ y ∷ []) ys ++ cond (is_one (class_of (xs ++ (y ∷ ys)) (shown_text z))) (z ∷ []) []
          → cond b (y ∷ seconds_after (xs ++ y ∷ []) (ys ++ z ∷ [])) (seconds_after (xs ++ y ∷ []) (ys ++ z ∷ []))
          ≡ cond b (y ∷ seconds_after (xs ++ y ∷ []) ys) (seconds_after (xs ++ y ∷ []) ys) ++ cond (is_one (class_of (xs ++ (y ∷ ys)) (shown_text z))) (z ∷ []) []
      by true k = ap (λ t. y ∷ t) k
      by false k = k

  -- one more cite
  pub seconds-push : (xs : List (Member E P)) (y : Member E P) → seconds (xs ++ y ∷ []) ≡ seconds xs ++ cond (is_one (class_of xs (shown_text y))) (y ∷ []) []
  seconds-push xs y =
      are-after [] (xs ++ y ∷ []) (xs ++ y ∷ []) refl ∙ after-push [] xs y
      ∙ ap (λ zs. zs ++ cond (is_one (class_of xs (shown_text y))) (y ∷ []) []) (sym (are-after [] xs xs refl))

  pub class-push : (xs : List (Member E P)) (y : Member E P) (t : List ℕ) → class_of (xs ++ y ∷ []) t ≡ class_of xs t ++ cond (bytes_eq t (shown_text y)) (y ∷ []) []
  class-push xs y t = filter-append (λ m. bytes_eq t (shown_text m)) xs (y ∷ [])

  pub texts-push : (xs : List (Member E P)) (y : Member E P) → texts (xs ++ y ∷ []) ≡ texts xs ++ cond (is_one (class_of xs (shown_text y))) (shown_text y ∷ []) []
  texts-push xs y =
      ap (map shown_text) (seconds-push xs y) ∙ map-append shown_text (seconds xs) (cond (is_one (class_of xs (shown_text y))) (y ∷ []) [])
      ∙ ap (λ ts. texts xs ++ ts) (by (is_one (class_of xs (shown_text y))))
    where
      by : (b : Bool) → map shown_text (cond b (y ∷ []) []) ≡ cond b (shown_text y ∷ []) []
      by true = refl
      by false = refl

  -- two or more
  abbrev pub are_two : List (Member E P) → Bool
  are_two [] = false
  are_two (m ∷ []) = false
  are_two (m ∷ n ∷ ms) = true

  -- the texts of the groups are those that two or more cites have, each once
  pub record AreTexts (xs : List (Member E P)) : Type 0 where
    pub listed : (t : List ℕ) → list_any (bytes_eq t) (texts xs) ≡ are_two (class_of xs t)
    pub once : NoTwoEqual bytes_eq (texts xs)

  two-or-one : (ms : List (Member E P)) (y : Member E P) → (are_two ms || (cond (is_one ms) true false || false)) ≡ are_two (ms ++ y ∷ [])
  two-or-one [] y = refl
  two-or-one (a ∷ []) y = refl
  two-or-one (a ∷ b ∷ ms) y = refl

  pub one-not-two : (ms : List (Member E P)) → is_one ms ≡ true → are_two ms ≡ false
  one-not-two [] h = refl
  one-not-two (a ∷ []) h = refl
  one-not-two (a ∷ b ∷ ms) h = absurd (two-not-one (length ms) h)

  pub two-not-alone : (a b : Member E P) (ms : List (Member E P)) → is_one (a ∷ b ∷ ms) ≡ false
  two-not-alone a b ms = by (is_one (a ∷ b ∷ ms)) refl
    where
      by : (c : Bool) → is_one (a ∷ b ∷ ms) ≡ c → c ≡ false
      by false h = refl
      by true h = absurd (two-not-one (length ms) h)

  texts-more : (xs : List (Member E P)) (y : Member E P) → AreTexts xs → AreTexts (xs ++ y ∷ [])
  texts-more xs y h = record { listed = listed; once = subst (NoTwoEqual bytes_eq) (sym (texts-push xs y)) (once (is_one (class_of xs (shown_text y))) refl) }
    where
      listed : (u : List ℕ) → list_any (bytes_eq u) (texts (xs ++ y ∷ [])) ≡ are_two (class_of (xs ++ y ∷ []) u)
      listed u =
          ap (list_any (bytes_eq u)) (texts-push xs y) ∙ list_any-append (bytes_eq u) (texts xs) (cond (is_one (class_of xs (shown_text y))) (shown_text y ∷ []) [])
          ∙ ap (λ b. b || list_any (bytes_eq u) (cond (is_one (class_of xs (shown_text y))) (shown_text y ∷ []) [])) (h.listed u)
          ∙ by (bytes_eq u (shown_text y)) refl ∙ ap are_two (sym (class-push xs y u))
        where
          unlisted : (b : Bool) → bytes_eq u (shown_text y) ≡ false → list_any (bytes_eq u) (cond b (shown_text y ∷ []) []) ≡ false
          unlisted true e = rw e refl
          unlisted false e = refl

          listed-one : (b : Bool) → bytes_eq u (shown_text y) ≡ true → list_any (bytes_eq u) (cond b (shown_text y ∷ []) []) ≡ (cond b true false || false)
          listed-one true e = rw e refl
          listed-one false e = refl

          by : (b : Bool) → bytes_eq u (shown_text y) ≡ b
              → (are_two (class_of xs u) || list_any (bytes_eq u) (cond (is_one (class_of xs (shown_text y))) (shown_text y ∷ []) [])) ≡ are_two (class_of xs u ++ cond b (y ∷ []) [])
          by false e =
              ap (λ b. are_two (class_of xs u) || b) (unlisted (is_one (class_of xs (shown_text y))) e) ∙ or-false (are_two (class_of xs u))
              ∙ ap are_two (sym (append-nil (class_of xs u)))
          by true e =
              let same : shown_text y ≡ u = sym ((bytes_eq-Decides u (shown_text y)).0 e) in
              ap (λ b. are_two (class_of xs u) || b) (listed-one (is_one (class_of xs (shown_text y))) e)
              ∙ ap (λ v. are_two (class_of xs u) || (cond (is_one (class_of xs v)) true false || false)) same
              ∙ two-or-one (class_of xs u) y

      once : (b : Bool) → is_one (class_of xs (shown_text y)) ≡ b → NoTwoEqual bytes_eq (texts xs ++ cond b (shown_text y ∷ []) [])
      once false e = subst (NoTwoEqual bytes_eq) (sym (append-nil (texts xs))) h.once
      once true e = once-push (texts xs) (shown_text y) h.once (h.listed (shown_text y) ∙ one-not-two (class_of xs (shown_text y)) e)

  texts-all : (xs ys : List (Member E P)) → AreTexts xs → AreTexts (xs ++ ys)
  texts-all xs [] h = subst AreTexts (sym (append-nil xs)) h
  texts-all xs (y ∷ ys) h = subst AreTexts (append_assoc xs (y ∷ []) ys) (texts-all (xs ++ y ∷ []) ys (texts-more xs y h))

  pub are-texts : (xs : List (Member E P)) → AreTexts xs
  are-texts xs = texts-all [] xs (record { listed = λ t. refl; once = tt })
