-- First answers along lists that are joined, and where what is answered is known.
use Rattle.std.proofs.Common.{◌≡◌, ℕ, inl, inr, List, [], ◌∷◌, ◌++◌, Option, None, Some, option_map, option_and_then, option_to_list, map, subst, ap, sym, true≢false, ◌∙◌, refl}
use Rattle.std.specs.Option.{option_or}
use Rattle.std.specs.Fn.{Shared}
use Rattle.std.specs.Borrow.{Bor}
use Rattle.value_styles.specs.Style.{LocaleValue}
use Rattle.value_styles.specs.StyleView.{locale_view}
use Rattle.value_styles.specs.declared.locale.Locale.{Locale}
use Rattle.driver_lookup.specs.Lookup.{first_answer}
use Rattle.driver_styles.specs.Terms.{locale_of}
use Rattle.driver_lookup.specs.FirstAnswer.{Gives, FirstAnswer}

module _ {R : Type 0} (gives : LocaleValue → Option R → Type 0) where
  -- of one locale
  pub one_asked : (l : LocaleValue) (r : Option R) → gives l r → FirstAnswer gives (l ∷ []) r
  one_asked l None h = inr (h, refl)
  one_asked l (Some x) h = inl (refl, h)

  -- the first list answers
  pub answered_first : (xs ys : List LocaleValue) (x : R) → FirstAnswer gives xs (Some x) → FirstAnswer gives (xs ++ ys) (Some x)
  answered_first [] ys x h = cc
  answered_first (l ∷ ls) ys x (inl h) = inl h
  answered_first (l ∷ ls) ys x (inr h) = inr (h.0, answered_first ls ys x h.1)

  -- it doesn't, and the second list answers, or doesn't
  pub answered_then : (xs ys : List LocaleValue) (r : Option R) → FirstAnswer gives xs None → FirstAnswer gives ys r → FirstAnswer gives (xs ++ ys) r
  answered_then [] ys r h k = k
  answered_then (l ∷ ls) ys r (inl h) k = absurd (true≢false (sym h.0))
  answered_then (l ∷ ls) ys r (inr h) k = inr (h.0, answered_then ls ys r h.1 k)

  -- where each answer is known, seen as v, so is the first
  known_first : {V : Type 0} (v : R → V) (p : LocaleValue → Option V) (known : (l : LocaleValue) (r : Option R) → gives l r → option_map v r ≡ p l) (ls : List LocaleValue) (r : Option R) → FirstAnswer gives ls r → option_map v r ≡ first_answer p ls
  known_first v p known [] r h = ap (option_map v) h
  known_first v p known (l ∷ ls) None (inl h) = absurd (true≢false (sym h.0))
  known_first v p known (l ∷ ls) (Some x) (inl h) = ap (λ a. option_or a (first_answer p ls)) (known l (Some x) h.1)
  known_first v p known (l ∷ ls) r (inr h) = known_first v p known ls r h.1 ∙ ap (λ a. option_or a (first_answer p ls)) (known l None h.0)

  -- of the first locale of a language, where language and locales are known by equations
  pub asked_at : (a b : Option (List ℕ)) (ls ms : List Locale) (r : Option R) → a ≡ b → ls ≡ ms → FirstAnswer gives (option_to_list (locale_of a (map locale_view ls))) r → FirstAnswer gives (option_to_list (locale_of b (map locale_view ms))) r
  asked_at a b ls ms r p q h = subst (λ xs. FirstAnswer gives xs r) (λ i. option_to_list (locale_of (p i) (map locale_view (q i)))) h

  -- the same where the answer is seen as it is
  known_plainly : (p : LocaleValue → Option R) (known : (l : LocaleValue) (r : Option R) → gives l r → r ≡ p l) (ls : List LocaleValue) (r : Option R) → FirstAnswer gives ls r → r ≡ first_answer p ls
  known_plainly p known [] r h = h
  known_plainly p known (l ∷ ls) None (inl h) = absurd (true≢false (sym h.0))
  known_plainly p known (l ∷ ls) (Some x) (inl h) = ap (λ a. option_or a (first_answer p ls)) (known l (Some x) h.1)
  known_plainly p known (l ∷ ls) r (inr h) = known_plainly p known ls r h.1 ∙ ap (λ a. option_or a (first_answer p ls)) (known l None h.0)

module _ {F R : Type 0} (g : Shared F (Bor Locale × Unit {0}) (Option R)) (f : F) where
  -- what is known of each call of a closure is known of what it gives
  pub gives_known : {V : Type 0} (v : R → V) (p : LocaleValue → Option V) → ((x : Bor Locale) (r : Option R) → g.post f (x, tt) r → option_map v r ≡ p (locale_view x.now)) → (ls : List LocaleValue) (r : Option R) → FirstAnswer (Gives g f) ls r → option_map v r ≡ first_answer p ls
  gives_known v p known = known_first (Gives g f) v p (λ l r k. known k.2.shown r k.2.says.met ∙ ap p (ap locale_view k.2.shows ∙ k.1))

  pub gives_plainly : (p : LocaleValue → Option R) → ((x : Bor Locale) (r : Option R) → g.post f (x, tt) r → r ≡ p (locale_view x.now)) → (ls : List LocaleValue) (r : Option R) → FirstAnswer (Gives g f) ls r → r ≡ first_answer p ls
  gives_plainly p known = known_plainly (Gives g f) p (λ l r k. known k.2.shown r k.2.says.met ∙ ap p (ap locale_view k.2.shows ∙ k.1))

module _ {A R : Type 0} (f : A → Option R) where
  or_none : (o : Option R) → option_or o None ≡ o
  or_none None = refl
  or_none (Some x) = refl

  or-or : (a b c : Option R) → option_or a (option_or b c) ≡ option_or (option_or a b) c
  or-or None b c = refl
  or-or (Some x) b c = refl

  -- along lists that are joined, and of at most one
  pub answer-append : (xs ys : List A) → first_answer f (xs ++ ys) ≡ option_or (first_answer f xs) (first_answer f ys)
  answer-append [] ys = refl
  answer-append (x ∷ xs) ys = ap (option_or (f x)) (answer-append xs ys) ∙ or-or (f x) (first_answer f xs) (first_answer f ys)

  answer_one : (o : Option A) → first_answer f (option_to_list o) ≡ option_and_then f o
  answer_one None = refl
  answer_one (Some x) = or_none (f x)

  -- of at most three
  pub answer_three : (a b c : Option A) → first_answer f (option_to_list a ++ option_to_list b ++ option_to_list c) ≡ option_or (option_or (option_and_then f a) (option_and_then f b)) (option_and_then f c)
  answer_three a b c =
      answer-append (option_to_list a ++ option_to_list b) (option_to_list c)
      ∙ (λ i. option_or (answer-append (option_to_list a) (option_to_list b) i) (answer_one c i))
      ∙ (λ i. option_or (option_or (answer_one a i) (answer_one b i)) (option_and_then f c))
