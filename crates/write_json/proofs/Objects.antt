-- The texts of objects, part by part.
use Rattle.std.proofs.Common.{◌≡◌, ℕ, List, ◌++◌, codes, Bool, true, false, Option, None, Some, option_map, map, refl, ap, ◌∙◌, append_assoc}
use Rattle.std.specs.Fmt.{decimal}
use Rattle.json.specs.Print.{escape_byte, quoted}
use Rattle.serde_json.specs.Data.{Data, string, array, Members, member, no_members}
use Rattle.serde_json.specs.View.{items_of}
use Rattle.serde_json.specs.Written.{comma_if, compact_text, members_text}
use Rattle.value_trees.specs.declared.elem.ElemMeta.{ElemMeta}
use Rattle.value_trees.specs.declared.elem.ElemMeta.TheVariants as meta
use Rattle.value_sources.specs.declared.entry.Person.{Person}
use Rattle.value_sources.specs.declared.taxonomy.NameVariable.{NameVariable}
use Rattle.value_sources.specs.declared.formatting.Display.{Display}
use Rattle.value_sources.specs.declared.formatting.Formatted.{Formatted}
use Rattle.value_sources.specs.declared.formatting.Formatting.{Formatting}
use Rattle.value_trees.specs.Child as tree
use Rattle.write_json.specs.MetaData.{variable_name, person_data, names_data, name_data, meta_data}
use Rattle.write_json.specs.Members.{member_if}
use Rattle.write_json.specs.TreeData.{style_name, weight_name, variant_name, decoration_name, vertical_name, with_formatting, display_name, element_data, child_data}
use Rattle.write_json.specs.Pieces.{member_text, later_member, font_text, formatting_text}

pub names_text : (n : List Person × NameVariable) → compact_text (names_data n)
    ≡ codes "{\"persons\":" ++ (compact_text (array (items_of (map person_data n.0))) ++ (codes ",\"variable\":" ++ (compact_text (string (variable_name n.1)) ++ codes "}")))
unfolding escape_byte
names_text n = refl

pub name_text : (v : NameVariable) (place : ℕ)
    → compact_text (name_data v place) ≡ codes "{\"place\":" ++ (decimal place ++ (codes ",\"variable\":" ++ (compact_text (string (variable_name v)) ++ codes "}")))
unfolding escape_byte
name_text v place = refl

pub meta_names_text : (names : List (List Person × NameVariable))
    → compact_text (meta_data (meta.Names names)) ≡ codes "{\"names\":" ++ (compact_text (array (items_of (map names_data names))) ++ codes "}")
unfolding escape_byte
meta_names_text names = refl

pub meta_name_text : (v : NameVariable) (place : ℕ) → compact_text (meta_data (meta.Name v place)) ≡ codes "{\"name\":" ++ (compact_text (name_data v place) ++ codes "}")
unfolding escape_byte
meta_name_text v place = refl

pub meta_entry_text : (place : ℕ) → compact_text (meta_data (meta.Entry place)) ≡ codes "{\"entry\":" ++ (decimal place ++ codes "}")
unfolding escape_byte
meta_entry_text place = refl

-- a member that may be absent, after others
later_text : (k : List ℕ) (d : Option Data) (ms : Members) → members_text true (member_if k d ms) ≡ later_member k d ++ members_text true ms
later_text k None ms = refl
later_text k (Some d) ms = simp append_assoc

later_texts : (k l m : List ℕ) (x y z : Option Data) (ms : Members) → members_text true (member_if k x (member_if l y (member_if m z ms)))
    ≡ later_member k x ++ (later_member l y ++ (later_member m z ++ members_text true ms))
later_texts k l m x y z ms =
    later_text k x _ ∙ ap (λ s. later_member k x ++ s) (later_text l y _ ∙ ap (λ s. later_member l y ++ s) (later_text m z ms))

two_texts : (later : Bool) (k l : List ℕ) (a b : Data) (ms : Members) → members_text later (member k a (member l b ms))
    ≡ comma_if later ++ ((member_text k a ++ (codes "," ++ member_text l b)) ++ members_text true ms)
two_texts later k l a b ms = simp append_assoc

regrouped : (a b c d e f : List ℕ) → a ++ (b ++ (c ++ (d ++ (e ++ f)))) ≡ a ++ ((b ++ (c ++ (d ++ e))) ++ f)
regrouped a b c d e f = simp append_assoc

-- the members of a formatting, and what follows them
formatting_members_text : (later : Bool) (f : Formatting) (ms : Members) → members_text later (with_formatting f ms) ≡ comma_if later ++ (formatting_text f ++ members_text true ms)
unfolding formatting_text font_text
formatting_members_text later f ms =
    let slant = string (style_name f.font_style) in
    let weight = string (weight_name f.font_weight) in
    let variant = option_map string (variant_name f.font_variant) in
    let decoration = option_map string (decoration_name f.text_decoration) in
    let vertical = option_map string (vertical_name f.vertical_align) in
    let fonts = member_text (codes "font_style") slant ++ (codes "," ++ member_text (codes "font_weight") weight) in
    two_texts later (codes "font_style") (codes "font_weight") slant weight _
    ∙ ap (λ s. comma_if later ++ (fonts ++ s)) (later_texts (codes "font_variant") (codes "text_decoration") (codes "vertical_align") variant decoration vertical ms)
    ∙ regrouped (comma_if later) fonts (later_member (codes "font_variant") variant) (later_member (codes "text_decoration") decoration)
    (later_member (codes "vertical_align") vertical) (members_text true ms)

pub text_text : (f : Formatted) → compact_text (child_data (tree.text f)) ≡ codes "{" ++ (formatting_text f.formatting ++ (codes ",\"text\":" ++ (quoted f.text ++ codes "}")))
unfolding escape_byte
text_text f = rw (formatting_members_text false f.formatting (member (codes "text") (string f.text) no_members)) (simp append_assoc)

pub markup_text : (s : List ℕ) → compact_text (child_data (tree.markup s)) ≡ codes "{\"markup\":" ++ (quoted s ++ codes "}")
unfolding escape_byte
markup_text s = refl

pub link_text : (f : Formatted) (url : List ℕ) → compact_text (child_data (tree.link f url))
    ≡ codes "{" ++ (formatting_text f.formatting ++ (codes ",\"text\":" ++ (quoted f.text ++ (codes ",\"url\":" ++ (quoted url ++ codes "}")))))
unfolding escape_byte
link_text f url =
    rw (formatting_members_text false f.formatting (member (codes "text") (string f.text) (member (codes "url") (string url) no_members))) (simp append_assoc)

pub cite_text : (i : ℕ) (f : Formatting) → compact_text (child_data (tree.transparent i f)) ≡ codes "{\"cite\":" ++ (decimal i ++ (codes "," ++ (formatting_text f ++ codes "}")))
unfolding escape_byte
cite_text i f = rw (formatting_members_text true f no_members) refl

pub element_text : (children : Data) (d : Option Display) (m : Option ElemMeta) → compact_text (element_data children d m)
    ≡ codes "{\"children\":" ++ (compact_text children ++ (later_member (codes "display") (option_map (λ x. string (display_name x)) d) ++ (later_member (codes "meta") (option_map meta_data m) ++ codes "}")))
unfolding escape_byte
element_text children None None = refl
element_text children None (Some m) = simp append_assoc
element_text children (Some d) None = simp append_assoc
element_text children (Some d) (Some m) = simp append_assoc
