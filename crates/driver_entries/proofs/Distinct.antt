-- `distinct` as the code makes it, member by member.
use mathlib.Core.Bool.{or-false, or-true}
use Rattle.std.proofs.Common.{◌≡◌, Bool, true, false, cond, not, ◌||◌, Some, List, [], ◌∷◌, ◌++◌, filter, refl, ap, ◌∙◌, sym, append-nil, append_assoc}
use Rattle.std.specs.Cmp.{IsEquivalence}
use Rattle.std.proofs.lemmas.List.Elements.{filter-append, filter_agree}
use Rattle.std.proofs.lemmas.List.Sums.{fold_push, fold-append}
use Rattle.driver_entries.specs.Entries.{distinct, bibliography_order, is_in, with_new, with_all_new}

or_assoc : (a b c : Bool) → (a || (b || c)) ≡ ((a || b) || c)
or_assoc true b c = refl
or_assoc false b c = refl

module _ {E : Type 0} (eq : E → E → Bool) where
  abbrev pub others : E → List E → List E
  others x xs = filter (λ z. not (eq x z)) xs

  module _ (laws : IsEquivalence eq) where
    -- leaving out what equals x leaves what equals y, where x and y aren't equal
    pub is_in-others : (x y : E) (xs : List E) → eq y x ≡ false → is_in eq y (others x xs) ≡ is_in eq y xs
    is_in-others x y [] ne = refl
    is_in-others x y (z ∷ zs) ne = by (eq x z) refl (is_in-others x y zs ne)
      where
        by : (b : Bool) → eq x z ≡ b → is_in eq y (others x zs) ≡ is_in eq y zs
            → is_in eq y (cond (not b) (z ∷ others x zs) (others x zs)) ≡ (eq y z || is_in eq y zs)
        by false e same = ap (λ b. eq y z || b) same
        by true e same =
            let apart : eq y z ≡ false = laws.symm y z ∙ sym (laws.congr x z y e) ∙ laws.symm x y ∙ ne in
            rw apart same

    keeps_one : (x y : E) (b : Bool) → eq x y ≡ b → others x (y ∷ []) ≡ cond b [] (y ∷ [])
    keeps_one x y true e = rw e
    keeps_one x y false e = rw e

    drops_equal : (a : Bool) (ds : List E) (x y : E) → eq x y ≡ true → others x (cond a ds (ds ++ y ∷ [])) ≡ others x ds
    drops_equal true ds x y e = refl
    drops_equal false ds x y e = filter-append _ ds (y ∷ []) ∙ ap (λ t. others x ds ++ t) (keeps_one x y true e) ∙ append-nil (others x ds)

    keeps_other : (a : Bool) (ds : List E) (x y : E) → eq x y ≡ false → (x ∷ others x (cond a ds (ds ++ y ∷ []))) ≡ cond a (x ∷ others x ds) ((x ∷ others x ds) ++ y ∷ [])
    keeps_other true ds x y e = refl
    keeps_other false ds x y e = ap (λ t. x ∷ t) (filter-append _ ds (y ∷ []) ∙ ap (λ t. others x ds ++ t) (keeps_one x y false e))

    pub distinct-push : (xs : List E) (y : E) → distinct eq (xs ++ y ∷ []) ≡ with_new eq (distinct eq xs) y
    distinct-push [] y = refl
    distinct-push (x ∷ xs) y = ap (λ t. x ∷ others x t) (distinct-push xs y) ∙ by (eq y x) refl
      where
        by : (b : Bool) → eq y x ≡ b → (x ∷ others x (with_new eq (distinct eq xs) y)) ≡ with_new eq (x ∷ others x (distinct eq xs)) y
        by true e =
            rw e (ap (λ t. x ∷ t) (drops_equal (is_in eq y (distinct eq xs)) (distinct eq xs) x y (laws.symm x y ∙ e)))
        by false e =
            rw (e, is_in-others x y (distinct eq xs) e) (keeps_other (is_in eq y (distinct eq xs)) (distinct eq xs) x y (laws.symm x y ∙ e))

    distinct-more : (xs ys : List E) → with_all_new eq (distinct eq xs) ys ≡ distinct eq (xs ++ ys)
    distinct-more xs [] = ap (λ t. distinct eq t) (sym (append-nil xs))
    distinct-more xs (y ∷ ys) =
        ap (λ t. with_all_new eq t ys) (sym (distinct-push xs y)) ∙ distinct-more (xs ++ y ∷ []) ys ∙ ap (λ t. distinct eq t) (append_assoc xs (y ∷ []) ys)

    pub all_new_is_distinct : (xs : List E) → with_all_new eq [] xs ≡ distinct eq xs
    all_new_is_distinct xs = distinct-more [] xs

    -- equal entries are in the same lists
    pub is_in-equal : (y d : E) (xs : List E) → eq y d ≡ true → is_in eq y xs ≡ is_in eq d xs
    is_in-equal y d [] e = refl
    is_in-equal y d (x ∷ xs) e = rw (laws.congr y d x e, is_in-equal y d xs e) refl

    pub is_in-append : (y : E) (xs zs : List E) → is_in eq y (xs ++ zs) ≡ (is_in eq y xs || is_in eq y zs)
    is_in-append y [] zs = refl
    is_in-append y (x ∷ xs) zs = rw (is_in-append y xs zs) (or_assoc (eq y x) (is_in eq y xs) (is_in eq y zs))

    is_in-with_new : (y d : E) (xs : List E) → is_in eq y (with_new eq xs d) ≡ (is_in eq y xs || eq y d)
    is_in-with_new y d xs = by (is_in eq d xs) (eq y d) refl refl
      where
        by : (a b : Bool) → is_in eq d xs ≡ a → eq y d ≡ b → is_in eq y (cond a xs (xs ++ d ∷ [])) ≡ (is_in eq y xs || b)
        by false b p q = is_in-append y xs (d ∷ []) ∙ ap (λ t. is_in eq y xs || t) (or-false (eq y d) ∙ q)
        by true false p q = sym (or-false (is_in eq y xs))
        by true true p q = rw (is_in-equal y d xs q ∙ p) refl

    is_in-all_new : (y : E) (xs ds : List E) → is_in eq y (with_all_new eq xs ds) ≡ (is_in eq y xs || is_in eq y ds)
    is_in-all_new y xs [] = sym (or-false (is_in eq y xs))
    is_in-all_new y xs (d ∷ ds) =
        is_in-all_new y (with_new eq xs d) ds ∙ ap (λ t. t || is_in eq y ds) (is_in-with_new y d xs) ∙ sym (or_assoc (is_in eq y xs) (eq y d) (is_in eq y ds))

    pub is_in-distinct : (y : E) (xs : List E) → is_in eq y (distinct eq xs) ≡ is_in eq y xs
    is_in-distinct y xs = ap (λ t. is_in eq y t) (sym (all_new_is_distinct xs)) ∙ is_in-all_new y [] xs

    all_new-with_new : (zs ds : List E) (y : E) → with_all_new eq zs (with_new eq ds y) ≡ with_new eq (with_all_new eq zs ds) y
    all_new-with_new zs ds y = by (is_in eq y ds) refl
      where
        by : (a : Bool) → is_in eq y ds ≡ a → with_all_new eq zs (cond a ds (ds ++ y ∷ [])) ≡ with_new eq (with_all_new eq zs ds) y
        by false p = fold_push (with_new eq) zs ds y
        by true p = rw (is_in-all_new y zs ds, p, or-true (is_in eq y zs)) refl

    pub all_new-all_new : (zs ds xs : List E) → with_all_new eq zs (with_all_new eq ds xs) ≡ with_all_new eq (with_all_new eq zs ds) xs
    all_new-all_new zs ds [] = refl
    all_new-all_new zs ds (x ∷ xs) =
        all_new-all_new zs (with_new eq ds x) xs ∙ ap (λ t. with_all_new eq t xs) (all_new-with_new zs ds x)

    -- the bibliography's entries, as the code gathers them
    pub bib_made : (order xs : List E)
        → with_all_new eq (with_all_new eq [] (filter (λ e. is_in eq e (distinct eq xs)) order)) (distinct eq xs) ≡ bibliography_order eq (Some order) xs
    bib_made order xs =
        let kept = filter (λ e. is_in eq e xs) order in
        ap (λ t. with_all_new eq (with_all_new eq [] t) (distinct eq xs)) (filter_agree _ _ (λ e. is_in-distinct e xs) order)
        ∙ ap (λ t. with_all_new eq (with_all_new eq [] kept) t) (sym (all_new_is_distinct xs))
        ∙ all_new-all_new (with_all_new eq [] kept) [] xs
        ∙ sym (fold-append (with_new eq) [] kept xs)
        ∙ all_new_is_distinct (kept ++ xs)
