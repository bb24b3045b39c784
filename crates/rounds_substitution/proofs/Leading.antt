-- What two lists of names have in common.
use Rattle.std.proofs.Common.{◌≡◌, ℕ, ◌+◌, ◌≤◌, true, ◌&&◌, ◌==◌, cond, List, [], ◌∷◌, map, length, drop, Bor, refl, sym, ap, ◌∙◌, arith, inl, inr, true≢false}
use Rattle.std.specs.Bool.{one_answer}
use Rattle.std.specs.Cmp.{unsigned_Decides}
use Rattle.std.proofs.lemmas.Bool.{cases_Bool}
use Rattle.std.specs.List.{common_prefix_len}
use Rattle.std.specs.Cmp.Lexicographic.{pointwise}
use Rattle.std.proofs.lemmas.List.{drop_all, length-map}
use Rattle.value_trees.specs.SameElem.{same_elem}
use Rattle.value_trees.specs.declared.elem.Elem.{Elem}

none_right : (xs : List Elem) → common_prefix_len same_elem xs [] ≡ 0
none_right [] = refl
none_right (x ∷ xs) = refl

-- where one list is at its end
pub at_end : (bs cs : List (Bor Elem)) (n : ℕ) → length cs ≤ n → common_prefix_len same_elem (map (λ e. e.now) (drop n bs)) (map (λ e. e.now) (drop n cs)) ≡ 0
at_end bs cs n l = ap (λ ds. common_prefix_len same_elem (map (λ e. e.now) (drop n bs)) (map (λ e. e.now) ds)) (drop_all n cs l) ∙ none_right (map (λ e. e.now) (drop n bs))

-- lists that are equal, and lists as long that have all in common
full_from_equal : (xs ys : List Elem) → pointwise same_elem xs ys ≡ true → common_prefix_len same_elem xs ys ≡ length ys
full_from_equal [] [] e = refl
full_from_equal [] (y ∷ ys) e = absurd (true≢false (sym e))
full_from_equal (x ∷ xs) [] e = absurd (true≢false (sym e))
full_from_equal (x ∷ xs) (y ∷ ys) e = elim (cases_Bool (same_elem x y)) [
  | inl t ↦ ap (λ b. cond b (1 + common_prefix_len same_elem xs ys) 0) t
      ∙ omega (arith, full_from_equal xs ys (sym (ap (λ b. b && pointwise same_elem xs ys) t) ∙ e))
  | inr f ↦ absurd (true≢false (sym e ∙ ap (λ b. b && pointwise same_elem xs ys) f))
]

equal_from_full : (xs ys : List Elem) → length xs ≡ length ys → common_prefix_len same_elem xs ys ≡ length ys → pointwise same_elem xs ys ≡ true
equal_from_full [] [] l e = refl
equal_from_full [] (y ∷ ys) l e = absurd (omega (arith, l))
equal_from_full (x ∷ xs) [] l e = absurd (omega (arith, l))
equal_from_full (x ∷ xs) (y ∷ ys) l e = elim (cases_Bool (same_elem x y)) [
  | inl t ↦
      let p = sym (ap (λ b. cond b (1 + common_prefix_len same_elem xs ys) 0) t) ∙ e in
      ap (λ b. b && pointwise same_elem xs ys) t ∙ equal_from_full xs ys (omega (arith, l)) (omega (arith, p))
  | inr f ↦
      let p = sym (ap (λ b. cond b (1 + common_prefix_len same_elem xs ys) 0) f) ∙ e in
      absurd (omega (arith, p))
]

pub all_in_common : (bs cs : List (Bor Elem)) (xs ys : List Elem) (m n : ℕ) → map (λ e. e.now) bs ≡ xs → map (λ e. e.now) cs ≡ ys → length bs ≡ length cs → m ≡ common_prefix_len same_elem xs ys → n ≡ length cs → m == n ≡ pointwise same_elem xs ys
all_in_common bs cs xs ys m n p q l e f =
    let k = ap length (sym q) ∙ length-map cs (λ c. c.now) in
    let h = ap length (sym p) ∙ length-map bs (λ c. c.now) in
    one_answer (m == n) (pointwise same_elem xs ys) (unsigned_Decides m n) (
      λ t. e ∙ full_from_equal xs ys t ∙ k ∙ sym f,
      λ r. equal_from_full xs ys (h ∙ l ∙ sym k) (sym e ∙ r ∙ f ∙ sym k),
    )
