-- A tree as a list of tokens, by which it is compared.
use Rattle.std.specs.Prelude.{ℕ, List, [], ◌∷◌, ◌++◌, Option}
use Rattle.value_sources.specs.declared.formatting.Display.{Display}
use Rattle.value_sources.specs.declared.formatting.Formatted.{Formatted}
use Rattle.value_sources.specs.declared.formatting.Formatting.{Formatting}
use Rattle.value_trees.specs.Child as tree
use Rattle.value_trees.specs.Child.{Child, Kids, no_kids, kid, kids_of}
use Rattle.value_trees.specs.declared.elem.Elem.{Elem}
use Rattle.value_trees.specs.declared.elem.ElemMeta.{ElemMeta}

-- a child without children, or where an element begins or ends
pub data TokenValue : Type 0 where
  text : Formatted → TokenValue
  markup : List ℕ → TokenValue
  link : Formatted → List ℕ → TokenValue
  transparent : ℕ → Formatting → TokenValue
  begin : Option Display → Option ElemMeta → TokenValue
  end : TokenValue

-- the tokens of a tree from left to right
abbrev mutual
  pub child_tokens : Child → List TokenValue
  child_tokens (tree.text f) = text f ∷ []
  child_tokens (tree.elem ks d m) = begin d m ∷ (kids_tokens ks ++ end ∷ [])
  child_tokens (tree.markup s) = markup s ∷ []
  child_tokens (tree.link f s) = link f s ∷ []
  child_tokens (tree.transparent i f) = transparent i f ∷ []

  pub kids_tokens : Kids → List TokenValue
  kids_tokens no_kids = []
  kids_tokens (kid c ks) = child_tokens c ++ kids_tokens ks

abbrev pub tree_tokens : List Child → List TokenValue
tree_tokens cs = kids_tokens (kids_of cs)

abbrev pub elem_tokens : Elem → List TokenValue
elem_tokens e = child_tokens (tree.elem (kids_of e.children) e.display e.meta)
