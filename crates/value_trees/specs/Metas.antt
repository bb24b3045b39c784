-- Tests on what an element stands for.
use Rattle.std.specs.Prelude.{Bool, false, None, Some, is_some}
use Rattle.value_trees.specs.Child.{Child, text, elem, markup, link, transparent}
use Rattle.value_trees.specs.declared.elem.Elem.{Elem}
use Rattle.value_trees.specs.declared.elem.ElemMeta.{ElemMeta}
use Rattle.value_trees.specs.contracts.elem.ElemMetaPartialEq.TheImpl as meta_eq

-- whether two metas are equal, by their derived test
abbrev pub same_meta : ElemMeta → ElemMeta → Bool
same_meta = (meta_eq.ghosts).eq

-- the element has a meta that is equal to m
abbrev pub has_meta : ElemMeta → Elem → Bool
has_meta m e = elim e.meta [ None ↦ false | Some n ↦ same_meta n m ]

-- the child is an element that has a meta, whichever it is
abbrev pub child_has_any_meta : Child → Bool
child_has_any_meta (text f) = false
child_has_any_meta (elem ks d m) = is_some m
child_has_any_meta (markup s) = false
child_has_any_meta (link f s) = false
child_has_any_meta (transparent i f) = false
