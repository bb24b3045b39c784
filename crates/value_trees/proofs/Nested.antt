-- The children of a child that is an element.
use Rattle.std.proofs.Common.{◌≡◌, ℕ, ◌<◌, List, ◌∷◌, Option, None, Some, get_or, true, refl, ap, ◌∙◌, arith}
use Rattle.std.specs.Option.{option_map_or}
use Rattle.std.proofs.Math.ListN.{set}
use Rattle.std.proofs.lemmas.List.{set-get_or}
use Rattle.value_trees.specs.Child.{Child, text, elem, markup, link, transparent, kids_of-list_of}
use Rattle.value_trees.specs.ChildView.{child_view, child_nodes, kids_nodes, nodes}
use Rattle.value_trees.specs.Nested.{child_is_elem, inner, put_inner, with_children}
use Rattle.value_trees.specs.declared.elem.ElemChild.{ElemChild}
use Rattle.value_trees.specs.declared.elem.ElemChild.TheVariants as v

pub with_children-view : (x : ElemChild) (w : List Child) → child_view (with_children x w) ≡ put_inner (child_view x) w
with_children-view (v.Text f) w = refl
with_children-view (v.Elem e) w = refl
with_children-view (v.Markup s) w = refl
with_children-view (v.Link f s) w = refl
with_children-view (v.Transparent i f) w = refl

-- put back as they were
pub put_inner-same : (c : Child) → put_inner c (inner c) ≡ c
put_inner-same (text f) = refl
put_inner-same (elem ks d m) = ap (λ ls. elem ls d m) (kids_of-list_of ks)
put_inner-same (markup s) = refl
put_inner-same (link f s) = refl
put_inner-same (transparent i f) = refl

-- they have fewer nodes than the element
pub inner_falls : (c : Child) → child_is_elem c ≡ true → nodes (inner c) < child_nodes c
inner_falls (elem ks d m) e = omega (arith, ap kids_nodes (kids_of-list_of ks))
inner_falls _ e = cc

-- a child put back where it stood
pub set_same : (xs : List ElemChild) (n : ℕ) (x : ElemChild) → x ≡ get_or xs n x → set xs n x ≡ xs
set_same xs n x e = ap (set xs n) e ∙ set-get_or xs n x

-- a child before a list that may be written
pub one_before : (c : Child) (cs : List Child) (f : Child → List Child) (o : Option Child) → option_map_or (λ d. c ∷ f d) o (c ∷ cs) ≡ c ∷ option_map_or f o cs
one_before c cs f None = refl
one_before c cs f (Some d) = refl
