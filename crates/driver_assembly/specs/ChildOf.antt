-- A child as a tree stores it.
use Rattle.std.specs.Prelude.{◌≡◌, refl}
use Rattle.std.proofs.Common.{ap}
use Rattle.value_trees.specs.Child.{Child, text, elem, markup, link, transparent, list_of, list_of-kids_of}
use Rattle.value_trees.specs.ChildView.{child_view}
use Rattle.value_trees.specs.declared.elem.ElemChild.{ElemChild}
use Rattle.value_trees.specs.declared.elem.ElemChild.TheVariants as v

abbrev pub child_of : Child → ElemChild
child_of (text f) = v.Text f
child_of (elem ks d m) = v.Elem (record { children = list_of ks; display = d; meta = m })
child_of (markup s) = v.Markup s
child_of (link f s) = v.Link f s
child_of (transparent i f) = v.Transparent i f

-- it is the child that is seen as this
pub child_of-view : (c : ElemChild) → child_of (child_view c) ≡ c
child_of-view (v.Text f) = refl
child_of-view (v.Elem e) =
    ap (λ cs. v.Elem (record e { children = cs })) (list_of-kids_of e.children)
child_of-view (v.Markup s) = refl
child_of-view (v.Link f s) = refl
child_of-view (v.Transparent i f) = refl
