-- What the calls of a tree answer.
use Rattle.std.specs.Prelude.{ℕ, Bool, true, false, cond, ◌||◌, List, [], ◌∷◌, ◌++◌, Option, None, Some}
use Rattle.std.specs.Option.{option_or}
use Rattle.value_sources.specs.declared.formatting.Display.{Display}
use Rattle.value_trees.specs.declared.elem.ElemMeta.{ElemMeta}
use Rattle.value_trees.specs.Child.{Child, text, elem, markup, link, transparent, Kids, no_kids, kid, kids_of, list_of}
use Rattle.value_sources.specs.declared.formatting.Formatted.{Formatted}
use Rattle.value_trees.specs.declared.elem.Elem.{Elem}
use Rattle.value_trees.specs.declared.elem.ElemMeta.TheVariants as meta
use Rattle.value_lists.specs.Content.{text_has_content}

-- the text in preorder
abbrev mutual
  pub child_plain : Child → List ℕ
  child_plain (text f) = f.text
  child_plain (elem ks d m) = kids_plain ks
  child_plain (markup s) = s
  child_plain (link f s) = f.text
  child_plain (transparent i f) = []

  pub kids_plain : Kids → List ℕ
  kids_plain no_kids = []
  kids_plain (kid c ks) = child_plain c ++ kids_plain ks

abbrev pub plain : List Child → List ℕ
plain cs = kids_plain (kids_of cs)

-- the element that a child is, seen as `src/` has it
abbrev pub elem_of : Kids → Option Display → Option ElemMeta → Elem
elem_of ks d m = record { children = list_of ks; display = d; meta = m }

-- the first element in preorder that satisfies p
abbrev mutual
  pub child_find : (Elem → Bool) → Child → Option Elem
  child_find p (text f) = None
  child_find p (elem ks d m) = cond (p (elem_of ks d m)) (Some (elem_of ks d m)) (kids_find p ks)
  child_find p (markup s) = None
  child_find p (link f s) = None
  child_find p (transparent i f) = None

  pub kids_find : (Elem → Bool) → Kids → Option Elem
  kids_find p no_kids = None
  kids_find p (kid c ks) = option_or (child_find p c) (kids_find p ks)

abbrev pub find_elem : (Elem → Bool) → List Child → Option Elem
find_elem p cs = kids_find p (kids_of cs)

-- the last child's text, or that of the last child's last child, and so on
abbrev mutual
  pub child_last_text : Child → Option Formatted
  child_last_text (text f) = Some f
  child_last_text (elem ks d m) = kids_last_text ks
  child_last_text (markup s) = None
  child_last_text (link f s) = None
  child_last_text (transparent i f) = None

  pub kids_last_text : Kids → Option Formatted
  kids_last_text no_kids = None
  kids_last_text (kid c ks) = elim ks [ no_kids ↦ child_last_text c | kid _ _ ↦ kids_last_text ks ]

abbrev pub last_text : List Child → Option Formatted
last_text cs = kids_last_text (kids_of cs)

abbrev pub is_names : ElemMeta → Bool
is_names (meta.Names bs) = true
is_names _ = false

-- an element's meta is Names
abbrev pub has_names : Elem → Bool
has_names e = elim e.meta [ None ↦ false | Some m ↦ is_names m ]

abbrev pub no_children : List Child → Bool
no_children [] = true
no_children (c ∷ cs) = false

-- something beside white space
abbrev mutual
  pub child_has_content : Child → Bool
  child_has_content (text f) = text_has_content f.text
  child_has_content (elem ks d m) = kids_have_content ks
  child_has_content (markup s) = true
  child_has_content (link f s) = true
  child_has_content (transparent i f) = true

  pub kids_have_content : Kids → Bool
  kids_have_content no_kids = false
  kids_have_content (kid c ks) = child_has_content c || kids_have_content ks

abbrev pub has_content : List Child → Bool
has_content cs = kids_have_content (kids_of cs)
