-- How a citation is put together from the trees of its cites.
use Rattle.std.specs.Prelude.{ℕ, Bool, false, List, [], ◌∷◌, ◌++◌, Option, Some, None, if◌then◌else◌, nat_eq}
use Rattle.std.specs.List.{flat_map, ends_with}
use Rattle.value_trees.specs.Child.{Child, text}
use Rattle.value_sources.specs.Formatting.{normal, applied}
use Rattle.value_styles.specs.Style.{LayoutValue}
use Rattle.value_trees.specs.Tree.{last_text}
use Rattle.value_trees.specs.Simplify.{simplified}
use Rattle.value_sources.specs.declared.formatting.Formatted.{Formatted}
use Rattle.value_sources.specs.declared.formatting.Formatting.{Formatting}

-- the tree of a cite that is shown, and the delimiter that stands before it where it isn't the
-- first
pub record Shown : Type 0 where
  pub delimiter : Option (List ℕ)
  pub tree : List Child

-- the formatting that a layout's own texts have
abbrev pub layout_formatting : LayoutValue → Formatting
layout_formatting layout = applied layout.formatting normal

-- a text as a child of a tree; none for the empty text or where there is no text
abbrev pub text_child : Formatting → Option (List ℕ) → List Child
text_child f None = []
text_child f (Some []) = []
text_child f (Some (b ∷ bs)) = text (record { text = b ∷ bs; formatting = f }) ∷ []

-- a cite behind its delimiter
abbrev pub behind_delimiter : Formatting → Shown → List Child
behind_delimiter f c = text_child f c.delimiter ++ c.tree

-- cites one after another, each but the first behind its delimiter
abbrev pub joined_cites : Formatting → List Shown → List Child
joined_cites f [] = []
joined_cites f (c ∷ cs) = c.tree ++ flat_map (behind_delimiter f) cs

-- the text ends with the suffix
abbrev pub text_ends_with : List ℕ → Option Formatted → Bool
text_ends_with suffix last = elim last [ None ↦ false | Some f ↦ ends_with nat_eq f.text suffix ]

-- the suffix behind a tree, unless its last text ends with it
abbrev pub with_layout_suffix : Formatting → Option (List ℕ) → List Child → List Child
with_layout_suffix f None cs = cs
with_layout_suffix f (Some suffix) cs = if text_ends_with suffix (last_text cs) then cs
    else cs ++ text_child f (Some suffix)

-- cites joined, and between the layout's prefix and suffix where it encloses them
abbrev pub enclosed_cites : Bool → LayoutValue → List Shown → List Child
enclosed_cites encloses layout cites =
    let f = layout_formatting layout in
    if encloses then with_layout_suffix f layout.suffix
    (text_child f layout.prefix ++ joined_cites f cites)
    else joined_cites f cites

-- the tree of a citation from its shown cites: nothing where there is none
abbrev pub assembled : Bool → LayoutValue → List Shown → List Child
assembled encloses layout [] = []
assembled encloses layout (c ∷ cs) = simplified (enclosed_cites encloses layout (c ∷ cs))
