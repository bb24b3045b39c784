-- A member is alone in its class exactly where the class has one member.
use Rattle.std.proofs.Common.{◌≡◌, ℕ, zero, suc, ◌+◌, ◌<◌, Bool, true, false, cond, not, ◌&&◌, Option, Some, List, [], ◌∷◌, filter, get_or, length, arith, refl, ap, sym, subst, ◌∙◌}
use Rattle.std.specs.Prelude.{nat_eq, slice_get}
use Rattle.std.specs.Cmp.{nat_eq_equiv}
use Rattle.std.specs.List.{AllByRecursion, count_by, list_all, zip}
use Rattle.std.proofs.lemmas.Bool.{eqb-false, eqb-true}
use Rattle.std.proofs.lemmas.List.Sums.{sum_by-cons}
use Rattle.std.proofs.lemmas.Map.Keys.{IsDistinct-head, IsDistinct-tail}
use Rattle.std.proofs.lemmas.Option.{slice_get_read}
use Rattle.value_styles.specs.declared.style.DisambiguationRule.{DisambiguationRule}
use Rattle.driver_passes.specs.Renders.{Place}
use Rattle.rounds_names.specs.Classes.{AreClasses, StandApart, alike_by, is_alone}
use Rattle.rounds_names.specs.Steps.{others, same_place}
use Rattle.rounds_names.specs.declared.named_cite.NamedCite.{NamedCite}
use Rattle.rounds_names.proofs.Alike.{alike-self}
use Rattle.rounds_names.proofs.Marking.{same-default, zip-at, zip-long}

same-test : (a b c d : ℕ) → (a ≡ b → c ≡ d) → (c ≡ d → a ≡ b) → nat_eq a b ≡ nat_eq c d
same-test a b c d to from = by (nat_eq a b) (nat_eq c d) refl refl
  where
    by : (x y : Bool) → nat_eq a b ≡ x → nat_eq c d ≡ y → x ≡ y
    by true true p q = refl
    by false false p q = refl
    by true false p q = absurd (eqb-false c d q (to (eqb-true a b p)))
    by false true p q = absurd (eqb-false a b p (from (eqb-true c d q)))

-- one more, by a test, and whether there is none
count-none : (e : Bool) (n : ℕ) (rest : Bool) → rest ≡ nat_eq n 0 → (not e && rest) ≡ nat_eq (cond e 1 0 + n) 0
count-none true n rest h = same-test 0 1 (1 + n) 0 (λ p. absurd (omega (arith, p))) (λ p. absurd (omega (arith, p)))
count-none false n rest h = h ∙ same-test n 0 (0 + n) 0 (λ p. omega (arith, p)) (λ p. omega (arith, p))

-- one more, by a test, and whether there is one, where there is one at least already
count-one : (e : Bool) (n : ℕ) (rest : Bool) → 0 < n → rest ≡ nat_eq n 1 → (not e && rest) ≡ nat_eq (cond e 1 0 + n) 1
count-one true n rest some h = same-test 0 1 (1 + n) 1 (λ p. absurd (omega (arith, p))) (λ p. absurd (omega (arith, p)))
count-one false n rest some h = h ∙ same-test n 1 (0 + n) 1 (λ p. omega (arith, p)) (λ p. omega (arith, p))

place-self : (p : Place) → same_place p p ≡ true
place-self p = λ i. nat_eq_equiv.refl p.0 i && nat_eq_equiv.refl p.1 i

place-symm : (p q : Place) → same_place p q ≡ same_place q p
place-symm p q = λ i. nat_eq_equiv.symm p.0 q.0 i && nat_eq_equiv.symm p.1 q.1 i

all-at : (Q : NamedCite → Type 0) (xs : List NamedCite) (k : ℕ) (x : NamedCite) → AllByRecursion Q xs → slice_get xs k ≡ Some x → Q x
all-at Q [] k x h e = cc
all-at Q (y ∷ ys) zero x h e = let same : y ≡ x = cc in subst Q same h.0
all-at Q (y ∷ ys) (suc k) x h e = all-at Q ys k x h.1 e

module _ (E : NamedCite → Bool) where
  count-cons : (y : NamedCite) (ys : List NamedCite) → count_by E (y ∷ ys) ≡ cond (E y) 1 0 + count_by E ys
  count-cons y ys = sum_by-cons (λ x. cond (E x) 1 0) y ys

  count-some : (xs : List NamedCite) (k : ℕ) (x : NamedCite) → slice_get xs k ≡ Some x → E x ≡ true → 0 < count_by E xs
  count-some [] k x e own = cc
  count-some (y ∷ ys) zero x e own =
      let same : y ≡ x = cc in
      let counted = count-cons y ys in
      let one : ◌≡◌ {A = ℕ} (cond (E y) 1 0) 1 = ap (λ b. cond b 1 0) (ap E same ∙ own) in
      omega (arith, counted, one)
  count-some (y ∷ ys) (suc k) x e own = let h = count-some ys k x e own in let counted = count-cons y ys in omega (arith, h, counted)

  -- of members that all stand elsewhere
  none-alike : (p : Place) (ys : List NamedCite) → AllByRecursion (λ z. same_place p z.place ≡ false) ys
      → list_all (λ y. not (E y)) (filter (λ y. not (same_place p y.place)) ys) ≡ nat_eq (count_by E ys) 0
  none-alike p [] h = refl
  none-alike p (y ∷ ys) h =
      ap (λ b. list_all (λ z. not (E z)) (cond (not b) (y ∷ filter (λ z. not (same_place p z.place)) ys) (filter (λ z. not (same_place p z.place)) ys))) h.0
      ∙ count-none (E y) (count_by E ys) (list_all (λ z. not (E z)) (filter (λ z. not (same_place p z.place)) ys)) (none-alike p ys h.1)
      ∙ ap (λ n. nat_eq n 0) (sym (count-cons y ys))

  first-alone : (x : NamedCite) (ys : List NamedCite) → AllByRecursion (λ z. same_place x.place z.place ≡ false) ys → E x ≡ true
      → list_all (λ y. not (E y)) (others (x ∷ ys) x) ≡ nat_eq (count_by E (x ∷ ys)) 1
  first-alone x ys h own =
      ap (λ b. list_all (λ z. not (E z)) (cond (not b) (x ∷ others ys x) (others ys x))) (place-self x.place)
      ∙ none-alike x.place ys h ∙ same-test (count_by E ys) 0 (1 + count_by E ys) 1 (λ p. omega (arith, p)) (λ p. omega (arith, p))
      ∙ ap (λ b. nat_eq (cond b 1 0 + count_by E ys) 1) (sym own) ∙ ap (λ n. nat_eq n 1) (sym (count-cons x ys))

  alone-counts : (xs : List NamedCite) (k : ℕ) (x : NamedCite) → StandApart xs → slice_get xs k ≡ Some x → E x ≡ true
      → list_all (λ y. not (E y)) (others xs x) ≡ nat_eq (count_by E xs) 1
  alone-counts [] k x apart e own = cc
  alone-counts (y ∷ ys) zero x apart e own =
      let same : y ≡ x = cc in
      let head : AllByRecursion (λ z. same_place y.place z.place ≡ false) ys = IsDistinct-head (λ a b. same_place a.place b.place) y ys apart in
      subst (λ z. list_all (λ w. not (E w)) (others (z ∷ ys) x) ≡ nat_eq (count_by E (z ∷ ys)) 1) (sym same)
      (first-alone x ys (subst (λ z. AllByRecursion (λ w. same_place z.place w.place ≡ false) ys) same head) own)
  alone-counts (y ∷ ys) (suc k) x apart e own =
      let head : AllByRecursion (λ z. same_place y.place z.place ≡ false) ys = IsDistinct-head (λ a b. same_place a.place b.place) y ys apart in
      let other : same_place x.place y.place ≡ false = place-symm x.place y.place ∙ all-at (λ z. same_place y.place z.place ≡ false) ys k x head e in
      ap (λ b. list_all (λ z. not (E z)) (cond (not b) (y ∷ others ys x) (others ys x))) other
      ∙ count-one (E y) (count_by E ys) (list_all (λ z. not (E z)) (others ys x)) (count-some ys k x e own)
      (alone-counts ys k x (IsDistinct-tail (λ a b. same_place a.place b.place) y ys apart) e own)
      ∙ ap (λ n. nat_eq n 1) (sym (count-cons y ys))

  -- as many have a number as pass the test that tells who has it
  counts-same : (xs : List NamedCite) (cs : List ℕ) (n : ℕ) → length cs ≡ length xs
      → ((b : ℕ) (q : NamedCite × ℕ) → slice_get (zip xs cs) b ≡ Some q → nat_eq n q.1 ≡ E q.0) → count_by (nat_eq n) cs ≡ count_by E xs
  counts-same [] [] n h tell = refl
  counts-same [] (c ∷ cs) n h tell = absurd (omega (arith, h))
  counts-same (x ∷ xs) [] n h tell = absurd (omega (arith, h))
  counts-same (x ∷ xs) (c ∷ cs) n h tell =
      let first = tell 0 (x, c) refl in
      let rest = counts-same xs cs n (omega (arith, h)) (λ b q e. tell (suc b) q e) in
      sum_by-cons (λ m. cond (nat_eq n m) 1 0) c cs ∙ (λ i. cond (first i) 1 0 + rest i) ∙ sym (count-cons x xs)

-- the size of a member's class tells whether the member is alone
pub alone-by-size : (rule : Option DisambiguationRule) (i k v : ℕ) (group : List NamedCite) (cs sizes : List ℕ) (x : NamedCite) → StandApart group → AreClasses rule group i cs
    → length sizes ≡ length cs → ((n : ℕ) → n < length cs → get_or sizes n 0 ≡ count_by (nat_eq n) cs) → k < length group → x ≡ get_or group k x
    → v ≡ get_or sizes (get_or cs k 0) v → nat_eq v 1 ≡ is_alone rule group i x
alone-by-size rule i k v group cs sizes x apart classes many counted within here size =
    let long = classes.long in
    let own : ℕ = get_or cs k 0 in
    let below : own < length group = classes.below k 0 (omega (arith, within, long)) in
    let at : slice_get (zip group cs) k ≡ Some (x, own) =
    slice_get_read (zip group cs) (length (zip group cs)) k (x, own) refl (zip-long group cs k within long)
    (zip-at group cs k x own within long here (same-default cs k 0 own (omega (arith, within, long)))) in
    ap (λ n. nat_eq n 1) (size ∙ same-default sizes own v 0 (omega (arith, below, long, many)) ∙ counted own (omega (arith, below, long))
    ∙ counts-same (alike_by rule i x) group cs own long (λ b q e. classes.same k b (x, own) q at e))
    ∙ sym (alone-counts (alike_by rule i x) group k x apart (slice_get_read group (length group) k x refl within here) (alike-self rule i x.persons))
