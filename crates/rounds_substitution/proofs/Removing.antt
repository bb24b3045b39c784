-- Names taken out: inside each child, and then among the children.
use Rattle.std.proofs.Common.{◌≡◌, ℕ, suc, ◌<◌, Bool, true, false, not, cond, List, [], ◌∷◌, map, length, get_or, refl, ap, ap₂, ◌∙◌, arith}
use Rattle.std.specs.List.{filter}
use Rattle.value_trees.specs.Child.{Child, text, elem, markup, link, transparent}
use Rattle.value_trees.specs.ChildView.{child_view}
use Rattle.value_trees.specs.declared.elem.ElemChild.{ElemChild}
use Rattle.rounds_substitution.specs.Rewriting.{child_is_name, child_without_names, without_names}

-- children that were changed one by one
pub all_changed : (f : Child → Child) (xs ys : List ElemChild) → length xs ≡ length ys → ((k : ℕ) (d : ElemChild) → k < length ys → child_view (get_or xs k d) ≡ f (child_view (get_or ys k d))) → map child_view xs ≡ map f (map child_view ys)
all_changed f [] [] e h = refl
all_changed f (x ∷ xs) (y ∷ ys) e h = ap₂ (λ c cs. c ∷ cs) (h 0 x (omega arith)) (all_changed f xs ys (omega (arith, e)) (λ k d l. h (suc k) d (omega (arith, l))))
all_changed f [] (y ∷ ys) e h = absurd (omega (arith, e))
all_changed f (x ∷ xs) [] e h = absurd (omega (arith, e))

-- a filter of children, as contracts see them
cond-map : (b : Bool) (x : ElemChild) (xs : List ElemChild) → map child_view (cond b (x ∷ xs) xs) ≡ cond b (child_view x ∷ map child_view xs) (map child_view xs)
cond-map true x xs = refl
cond-map false x xs = refl

pub filter-view : (p : Child → Bool) (xs : List ElemChild) → map child_view (filter (λ x. p (child_view x)) xs) ≡ filter p (map child_view xs)
filter-view p [] = refl
filter-view p (x ∷ xs) = cond-map (p (child_view x)) x (filter (λ y. p (child_view y)) xs) ∙ ap (λ cs. cond (p (child_view x)) (child_view x ∷ cs) cs) (filter-view p xs)

-- a child is a name before and after those inside it are taken out
is_name-without : (c : Child) → child_is_name (child_without_names c) ≡ child_is_name c
is_name-without (text f) = refl
is_name-without (elem ks d m) = refl
is_name-without (markup s) = refl
is_name-without (link f s) = refl
is_name-without (transparent i f) = refl

cond-not : {X : Type 0} (b : Bool) (x y : X) → cond (not b) x y ≡ cond b y x
cond-not true x y = refl
cond-not false x y = refl

-- those inside each child, and then those among the children
pub filter-without : (cs : List Child) → filter (λ c. not (child_is_name c)) (map child_without_names cs) ≡ without_names cs
filter-without [] = refl
filter-without (c ∷ cs) =
    ap (λ b. cond (not b) (child_without_names c ∷ filter (λ d. not (child_is_name d)) (map child_without_names cs)) (filter (λ d. not (child_is_name d)) (map child_without_names cs))) (is_name-without c)
    ∙ ap (λ ds. cond (not (child_is_name c)) (child_without_names c ∷ ds) ds) (filter-without cs)
    ∙ cond-not (child_is_name c) _ _
