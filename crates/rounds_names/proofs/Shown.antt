-- The persons that a tree shows, child after child.
use Rattle.std.proofs.Common.{◌≡◌, ℕ, ◌+◌, ◌<◌, List, [], ◌∷◌, ◌++◌, append_assoc, ap, get_or, length, map, refl, sym, take, ◌∙◌}
use Rattle.std.specs.List.{flat_map}
use Rattle.std.proofs.lemmas.Grind.{flat_map-append}
use Rattle.std.proofs.lemmas.List.{append-nil, map-append, take_more}
use Rattle.value_trees.specs.Child.{Child}
use Rattle.value_trees.specs.ChildView.{child_view}
use Rattle.value_trees.specs.Elements.{child_elements, elements}
use Rattle.value_trees.specs.declared.elem.Elem.{Elem}
use Rattle.value_trees.specs.declared.elem.ElemChild.{ElemChild}
use Rattle.value_sources.specs.declared.entry.Person.{Person}
use Rattle.rounds_names.specs.Persons.{named_by, persons}

elements-append : (xs ys : List Child) → elements (xs ++ ys) ≡ elements xs ++ elements ys
elements-append [] ys = refl
elements-append (x ∷ xs) ys = ap (λ t. child_elements x ++ t) (elements-append xs ys) ∙ sym (append_assoc (child_elements x) (elements xs) (elements ys))

-- the persons that a child shows
abbrev pub shown : Child → List Person
shown c = flat_map (λ e. named_by e.meta) (child_elements c)

-- those of one child more
pub persons-next : (xs : List ElemChild) (i : ℕ) (x : ElemChild) → i < length xs → x ≡ get_or xs i x
    → persons (map child_view (take (i + 1) xs)) ≡ persons (map child_view (take i xs)) ++ shown (child_view x)
persons-next xs i x h e =
    let before = map child_view (take i xs) in
    let next : map child_view (take (i + 1) xs) ≡ before ++ child_view x ∷ [] =
    ap (map child_view) (take_more xs i x h ∙ ap (λ y. take i xs ++ y ∷ []) (sym e)) ∙ map-append child_view (take i xs) (x ∷ []) in
    ap persons next
    ∙ ap (flat_map (λ (d : Elem). named_by d.meta)) (elements-append before (child_view x ∷ []) ∙ ap (λ t. elements before ++ t) (append-nil (child_elements (child_view x))))
    ∙ flat_map-append (λ d. named_by d.meta) (elements before) (child_elements (child_view x))

-- what was found, with those of one child more
pub persons-more : (xs : List ElemChild) (i : ℕ) (x : ElemChild) (old : List Person) {found more : List Person} → i < length xs → x ≡ get_or xs i x
    → more ≡ found ++ shown (child_view x) → found ≡ old ++ persons (map child_view (take i xs))
    → more ≡ old ++ persons (map child_view (take (i + 1) xs))
persons-more xs i x old h e m f =
    m ∙ ap (λ l. l ++ shown (child_view x)) f ∙ append_assoc old (persons (map child_view (take i xs))) (shown (child_view x))
    ∙ ap (λ l. old ++ l) (sym (persons-next xs i x h e))
