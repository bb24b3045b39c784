-- The form of a tree.
use Rattle.std.specs.Prelude.{◌≡◌, ℕ, zero, suc, List, [], ◌∷◌, ◌++◌, Option, Some, None, option_map, is_some, codes, if◌then◌else◌}
use Rattle.serde_json.specs.Data.{Data, depth}
use Rattle.serde_json.specs.Find.{get, as_str}
use Rattle.value_trees.specs.Child.{Child, text, elem, markup, link, transparent, kids_of}
use Rattle.value_sources.specs.declared.formatting.FontStyle.{FontStyle}
use Rattle.value_sources.specs.declared.formatting.FontVariant.{FontVariant}
use Rattle.value_sources.specs.declared.formatting.FontWeight.{FontWeight}
use Rattle.value_sources.specs.declared.formatting.TextDecoration.{TextDecoration}
use Rattle.value_sources.specs.declared.formatting.VerticalAlign.{VerticalAlign}
use Rattle.value_sources.specs.declared.formatting.Formatted.{Formatted}
use Rattle.value_sources.specs.declared.formatting.Formatting.{Formatting}
use Rattle.document_values.specs.Words.{◌>>=◌, object_with, required, optional, where_present, items_of_key, list_form, whole}
use Rattle.document_values.specs.Names.{one_of}
use Rattle.document_values.specs.Tables.{NameTable, displays, font_variants, text_decorations, vertical_aligns}
use Rattle.document_tasks.specs.MetaForm.{meta_form}

-- how letters slant
abbrev pub font_styles : NameTable FontStyle
font_styles = (codes "normal", FontStyle.Normal) ∷ (codes "italic", FontStyle.Italic) ∷ []

-- how heavy letters are
abbrev pub font_weights : NameTable FontWeight
font_weights = (codes "normal", FontWeight.Normal) ∷ (codes "bold", FontWeight.Bold) ∷ []

-- the formatting of an object, which says how letters slant and how heavy they are; the rest is
-- usual where the object doesn't say it
unfoldable pub full_formatting_form : Data → Option Formatting
full_formatting_form o = do
  slant ← required (one_of font_styles) (codes "font_style") o
  weight ← required (one_of font_weights) (codes "font_weight") o
  variant ← optional FontVariant.Normal (one_of font_variants) (codes "font_variant") o
  decoration ← optional TextDecoration.None (one_of text_decorations) (codes "text_decoration") o
  align ← optional VerticalAlign.None (one_of vertical_aligns) (codes "vertical_align") o
  Some (record {
    font_style = slant;
    font_variant = variant;
    font_weight = weight;
    text_decoration = decoration;
    vertical_align = align;
  })

abbrev pub formatting_keys : List (List ℕ)
formatting_keys = codes "font_style" ∷ codes "font_weight" ∷ codes "font_variant"
    ∷ codes "text_decoration"
    ∷ codes "vertical_align" ∷ []

-- a text, or where there is a url, a link
abbrev pub text_or_link : Formatted → Option (List ℕ) → Child
text_or_link f None = text f
text_or_link f (Some url) = link f url

unfoldable pub text_child_form : Data → Option Child
text_child_form d = do
  o ← object_with (formatting_keys ++ codes "text" ∷ codes "url" ∷ []) d
  formatting ← full_formatting_form o
  s ← required as_str (codes "text") o
  url ← where_present as_str (codes "url") o
  Some (text_or_link (record { text = s; formatting = formatting }) url)

-- a text in markup of its own
unfoldable pub markup_form : Data → Option Child
markup_form d = do
  o ← object_with (codes "markup" ∷ []) d
  option_map markup (required as_str (codes "markup") o)

-- a place for a cite
unfoldable pub cite_mark_form : Data → Option Child
cite_mark_form d = do
  o ← object_with (formatting_keys ++ codes "cite" ∷ []) d
  formatting ← full_formatting_form o
  cite ← required whole (codes "cite") o
  Some (transparent cite formatting)

-- ---- nodes in which nodes of the form `inner` stand

abbrev pub element_keys : List (List ℕ)
element_keys = codes "children" ∷ codes "display" ∷ codes "meta" ∷ []

-- an element
unfoldable pub elem_form : (Data → Option Child) → Data → Option Child
elem_form inner d = do
  o ← object_with element_keys d
  children ← items_of_key inner (codes "children") o
  display ← where_present (one_of displays) (codes "display") o
  meta ← where_present meta_form (codes "meta") o
  Some (elem (kids_of children) display meta)

-- a node, of the kind that its keys say
abbrev pub node_over : (Data → Option Child) → Data → Option Child
node_over inner d =
    if is_some (get (codes "children") d) then elem_form inner d else
    (if is_some (get (codes "markup") d) then markup_form d else
    (if is_some (get (codes "cite") d) then cite_mark_form d else text_child_form d))

-- a node in which nodes nest less than n deep
abbrev pub node_within : ℕ → Data → Option Child
node_within zero d = None
node_within (suc n) d = node_over (node_within n) d

-- a node, however deep nodes nest in it: no deeper than the value itself
unfoldable pub node_form : Data → Option Child
node_form d = node_within (suc (depth d)) d

-- nodes are made of nodes: no bound on their nesting matters
abbrev pub NodesNest : Type 0
NodesNest = (d : Data) → node_form d ≡ node_over node_form d

-- a tree: a list of nodes
abbrev pub tree_form : Data → Option (List Child)
tree_form = list_form node_form
