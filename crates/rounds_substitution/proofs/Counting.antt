-- Names replaced until there are so many: the children that stay, and those that are written.
use Rattle.std.proofs.Common.{◌≡◌, ℕ, zero, suc, ◌+◌, ◌<◌, ◌≤◌, ◌≢◌, List, [], ◌∷◌, ◌++◌, map, take, drop, length, get_or, take_all, refl, sym, ap, ap₂, ◌∙◌, arith, append_assoc, subst, inl, inr}
use Rattle.std.proofs.Math.ListN.{set}
use Rattle.std.proofs.lemmas.Bool.{cases_lt}
use Rattle.std.proofs.lemmas.List.{get_or-set_other, get_or-set_same, drop_more, take_more, drop_all, map-append, append-nil}
use Rattle.value_trees.specs.Child.{Child}
use Rattle.value_trees.specs.ChildView.{child_view}
use Rattle.value_trees.specs.declared.elem.ElemChild.{ElemChild}
use Rattle.rounds_substitution.specs.Rewriting.{up_to_names}
use Rattle.rounds_substitution.proofs.Replacing.{up_to_none}

-- one more child that was changed
pub changed_more : (f : Child → Child) (xs ys : List ElemChild) (i : ℕ) (w : ElemChild) → ((k : ℕ) (d : ElemChild) → k < i → child_view (get_or xs k d) ≡ f (child_view (get_or ys k d)))
    → i < length xs → ((d : ElemChild) → child_view w ≡ f (child_view (get_or ys i d)))
    → (k : ℕ) (d : ElemChild) → k < i + 1 → child_view (get_or (set xs i w) k d) ≡ f (child_view (get_or ys k d))
changed_more f xs ys i w v l r k d h = elim (cases_lt k i) [
  | inl lt ↦ let ne : k ≢ i = omega arith in rw get_or-set_other (v k d lt)
  | inr ge ↦
      let e : i ≡ k = omega arith in
      subst (λ m. child_view (get_or (set xs i w) m d) ≡ f (child_view (get_or ys m d))) e (ap child_view (get_or-set_same xs i w d l) ∙ r d)
]

-- one child on
pub counted_next : (ys : List ElemChild) (i : ℕ) (y : ElemChild) (m n : ℕ) (whole : List Child) → i < length ys → y ≡ get_or ys i y
    → whole ≡ map child_view (take i ys) ++ up_to_names m (map child_view (drop i ys))
    → up_to_names m (child_view y ∷ map child_view (drop (i + 1) ys)) ≡ child_view y ∷ up_to_names n (map child_view (drop (i + 1) ys))
    → whole ≡ map child_view (take (i + 1) ys) ++ up_to_names n (map child_view (drop (i + 1) ys))
counted_next ys i y m n whole l e w s =
    let rest = map child_view (drop (i + 1) ys) in
    let here = ap (map child_view) (drop_more ys i y l ∙ ap (λ x. x ∷ drop (i + 1) ys) (sym e)) in
    let next = ap (map child_view) (take_more ys i y l ∙ ap (λ x. take i ys ++ x ∷ []) (sym e)) ∙ map-append child_view (take i ys) (y ∷ []) in
    w ∙ ap (λ cs. map child_view (take i ys) ++ up_to_names m cs) here ∙ ap (λ cs. map child_view (take i ys) ++ cs) s
    ∙ sym (ap (λ cs. cs ++ up_to_names n rest) next ∙ append_assoc (map child_view (take i ys)) (child_view y ∷ []) (up_to_names n rest))

-- the children before an index, changed one by one
before_changed : (f : Child → Child) (xs ys : List ElemChild) (i : ℕ) → length xs ≡ length ys → i ≤ length ys → ((k : ℕ) (d : ElemChild) → k < i → child_view (get_or xs k d) ≡ f (child_view (get_or ys k d))) → map child_view (take i xs) ≡ map f (map child_view (take i ys))
before_changed f xs ys zero e l h = refl
before_changed f [] [] (suc i) e l h = refl
before_changed f (x ∷ xs) (y ∷ ys) (suc i) e l h = ap₂ (λ c cs. c ∷ cs) (h 0 x (omega arith)) (before_changed f xs ys i (omega (arith, e)) (omega (arith, l)) (λ k d m. h (suc k) d (omega (arith, m))))
before_changed f [] (y ∷ ys) (suc i) e l h = absurd (omega (arith, e))
before_changed f (x ∷ xs) [] (suc i) e l h = absurd (omega (arith, e))

-- where there are enough, the others are dropped
pub cut_off : (f : Child → Child) (xs ys : List ElemChild) (i m : ℕ) (whole : List Child) → length xs ≡ length ys → i ≤ length ys
    → ((k : ℕ) (d : ElemChild) → k < i → child_view (get_or xs k d) ≡ f (child_view (get_or ys k d)))
    → whole ≡ map child_view (take i ys) ++ up_to_names m (map child_view (drop i ys)) → m ≡ 0
    → map child_view (take i xs) ≡ map f whole
cut_off f xs ys i m whole e l h w z =
    before_changed f xs ys i e l h
    ∙ ap (map f) (sym (w ∙ ap (λ k. map child_view (take i ys) ++ up_to_names k (map child_view (drop i ys))) z ∙ append-nil (map child_view (take i ys))))

-- where there aren't, all stay
pub at_last : (f : Child → Child) (xs ys : List ElemChild) (i m : ℕ) (whole : List Child) → length xs ≡ length ys → i ≡ length ys
    → ((k : ℕ) (d : ElemChild) → k < i → child_view (get_or xs k d) ≡ f (child_view (get_or ys k d)))
    → whole ≡ map child_view (take i ys) ++ up_to_names m (map child_view (drop i ys))
    → map child_view xs ≡ map f whole
at_last f xs ys i m whole e l h w =
    ap (map child_view) (sym (take_all i xs (omega arith))) ∙ before_changed f xs ys i e (omega arith) h
    ∙ ap (map f) (sym (w ∙ ap (λ ds. map child_view (take i ys) ++ up_to_names m (map child_view ds)) (drop_all i ys (omega arith))
    ∙ ap (λ cs. map child_view (take i ys) ++ cs) (up_to_none m) ∙ append-nil (map child_view (take i ys))))
