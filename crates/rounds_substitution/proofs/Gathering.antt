-- The names that a child is or holds.
use Rattle.std.proofs.Common.{◌≡◌, true, List, [], ◌∷◌, ◌++◌, map, Bor, sym, ap, ◌∙◌}
use Rattle.std.proofs.lemmas.List.{map-append}
use Rattle.value_trees.specs.ChildView.{child_view}
use Rattle.value_trees.specs.declared.elem.Elem.{Elem}
use Rattle.value_trees.specs.declared.elem.ElemChild.{ElemChild}
use Rattle.value_trees.specs.declared.elem.ElemChild.TheVariants as v
use Rattle.value_trees.proofs.Trees.{elem_back}
use Rattle.rounds_substitution.specs.Names.{is_name, child_names}

-- a name is the one that a child is
own_name : (e : Elem) → is_name e ≡ true → child_names (child_view (v.Elem e)) ≡ e ∷ []
own_name e t = rw (elem_back e, t)

pub name_added : (bs cs : List (Bor Elem)) (b : Bor Elem) (c : ElemChild) → cs ≡ bs ++ b ∷ [] → c ≡ v.Elem b.now → is_name b.now ≡ true → map (λ e. e.now) cs ≡ map (λ e. e.now) bs ++ child_names (child_view c)
name_added bs cs b c e i t =
    ap (map (λ e. e.now)) e ∙ map-append (λ e. e.now) bs (b ∷ [])
    ∙ ap (λ es. map (λ e. e.now) bs ++ es) (sym (ap (λ x. child_names (child_view x)) i ∙ own_name b.now t))
