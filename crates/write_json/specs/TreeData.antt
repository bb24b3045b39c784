-- The JSON of a tree.
use Rattle.std.specs.Prelude.{ℕ, List, codes, Option, Some, None, option_map}
use Rattle.serde_json.specs.Data.{Data, string, number, unsigned, array, object, Items, no_items, item, Members, no_members, member}
use Rattle.value_trees.specs.Child.{Child, text, elem, markup, link, transparent, Kids, no_kids, kid, kids_of}
use Rattle.value_sources.specs.declared.formatting.FontStyle.{FontStyle}
use Rattle.value_sources.specs.declared.formatting.FontStyle.TheVariants as style
use Rattle.value_sources.specs.declared.formatting.FontVariant.{FontVariant}
use Rattle.value_sources.specs.declared.formatting.FontVariant.TheVariants as variant
use Rattle.value_sources.specs.declared.formatting.FontWeight.{FontWeight}
use Rattle.value_sources.specs.declared.formatting.FontWeight.TheVariants as weight
use Rattle.value_sources.specs.declared.formatting.TextDecoration.{TextDecoration}
use Rattle.value_sources.specs.declared.formatting.TextDecoration.TheVariants as decoration
use Rattle.value_sources.specs.declared.formatting.VerticalAlign.{VerticalAlign}
use Rattle.value_sources.specs.declared.formatting.VerticalAlign.TheVariants as height
use Rattle.value_sources.specs.declared.formatting.Display.{Display}
use Rattle.value_sources.specs.declared.formatting.Display.TheVariants as shown
use Rattle.value_sources.specs.declared.formatting.Formatting.{Formatting}
use Rattle.value_trees.specs.declared.elem.ElemMeta.{ElemMeta}
use Rattle.write_json.specs.Members.{member_if}
use Rattle.write_json.specs.MetaData.{meta_data}

abbrev pub style_name : FontStyle → List ℕ
style_name style.Normal = codes "normal"
style_name style.Italic = codes "italic"

abbrev pub weight_name : FontWeight → List ℕ
weight_name weight.Normal = codes "normal"
weight_name weight.Bold = codes "bold"

-- of the next three, none where it is the usual one
abbrev pub variant_name : FontVariant → Option (List ℕ)
variant_name variant.Normal = None
variant_name variant.SmallCaps = Some (codes "small-caps")

abbrev pub decoration_name : TextDecoration → Option (List ℕ)
decoration_name decoration.None = None
decoration_name decoration.Underline = Some (codes "underline")

abbrev pub vertical_name : VerticalAlign → Option (List ℕ)
vertical_name height.None = None
vertical_name height.Baseline = Some (codes "baseline")
vertical_name height.Superscript = Some (codes "sup")
vertical_name height.Subscript = Some (codes "sub")

abbrev pub display_name : Display → List ℕ
display_name shown.Block = codes "block"
display_name shown.LeftMargin = codes "left-margin"
display_name shown.RightInline = codes "right-inline"
display_name shown.Indent = codes "indent"

-- the members of a formatting, and then these
abbrev pub with_formatting : Formatting → Members → Members
with_formatting f ms = member (codes "font_style") (string (style_name f.font_style))
    (member (codes "font_weight") (string (weight_name f.font_weight))
    (member_if (codes "font_variant") (option_map string (variant_name f.font_variant))
    (member_if (codes "text_decoration") (option_map string (decoration_name f.text_decoration))
    (member_if (codes "vertical_align") (option_map string (vertical_name f.vertical_align)) ms))))

-- an element whose children are these
abbrev pub element_data : Data → Option Display → Option ElemMeta → Data
element_data children d m = object (member (codes "children") children
    (member_if (codes "display") (option_map (λ x. string (display_name x)) d)
    (member_if (codes "meta") (option_map meta_data m) no_members)))

abbrev mutual
  pub child_data : Child → Data
  child_data (text f) = object
      (with_formatting f.formatting (member (codes "text") (string f.text) no_members))
  child_data (elem ks d m) = element_data (array (kids_data ks)) d m
  child_data (markup s) = object (member (codes "markup") (string s) no_members)
  child_data (link f url) = object
      (with_formatting f.formatting
      (member (codes "text") (string f.text) (member (codes "url") (string url) no_members)))
  child_data (transparent i f) =
      object (member (codes "cite") (number (unsigned i)) (with_formatting f no_members))

  pub kids_data : Kids → Items
  kids_data no_kids = no_items
  kids_data (kid c ks) = item (child_data c) (kids_data ks)

abbrev pub children_data : List Child → Data
children_data cs = array (kids_data (kids_of cs))
