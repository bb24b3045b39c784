-- The texts of an answer's objects, part by part.
use Rattle.std.proofs.Common.{◌≡◌, ℕ, List, ◌++◌, codes, Option, None, Some, option_map, map, refl, sym, ap, ◌∙◌, append_assoc}
use Rattle.json.specs.Print.{escape_byte, quoted}
use Rattle.serde_json.specs.Data.{Data, array, object, member, no_members, boolean, number, unsigned, string}
use Rattle.serde_json.specs.Find.{of_integer}
use Rattle.serde_json.specs.View.{items_of}
use Rattle.serde_json.specs.Written.{compact_text}
use Rattle.value_trees.specs.Child.{Child}
use Rattle.value_trees.specs.ChildView.{child_view}
use Rattle.value_trees.specs.declared.elem.ElemChild.{ElemChild}
use Rattle.driver_assembly.specs.declared.rendered.BibliographyItem.{BibliographyItem}
use Rattle.driver_assembly.specs.declared.rendered.RenderedBibliography.{RenderedBibliography}
use Rattle.driver_assembly.specs.declared.rendered.RenderedCitation.{RenderedCitation}
use Rattle.write_json.specs.Members.{member_if}
use Rattle.write_json.specs.TreeData.{child_data, children_data}
use Rattle.write_json.specs.AnswerData.{align_name, item_data, bibliography_data, citation_data}
use Rattle.write_json.specs.Pieces.{later_member}
use Rattle.write_json.proofs.Closing.{joined_5, joined_6, joined_10}

item_text : (i : BibliographyItem) → compact_text (item_data i)
    ≡ codes "{\"content\":" ++ (compact_text (children_data i.content) ++ (later_member (codes "first_field") (option_map (λ c. child_data (child_view c)) i.first_field) ++ (codes ",\"key\":" ++ (quoted i.key ++ codes "}"))))
unfolding escape_byte
item_text i = parts i.content i.first_field i.key
  where
    parts : (cs : List Child) (f : Option ElemChild) (key : List ℕ) → compact_text (item_data (record { key = key; first_field = f; content = cs }))
        ≡ codes "{\"content\":" ++ (compact_text (children_data cs) ++ (later_member (codes "first_field") (option_map (λ c. child_data (child_view c)) f) ++ (codes ",\"key\":" ++ (quoted key ++ codes "}"))))
    parts cs None key = refl
    parts cs (Some f) key = simp append_assoc

-- after the text s
pub item_after : (s : List ℕ) (i : BibliographyItem)
    → (((((s ++ codes "{\"content\":") ++ compact_text (children_data i.content)) ++ later_member (codes "first_field") (option_map (λ c. child_data (child_view c)) i.first_field)) ++ codes ",\"key\":") ++ quoted i.key) ++ codes "}"
    ≡ s ++ compact_text (item_data i)
item_after s i =
    joined_6 s (codes "{\"content\":") (compact_text (children_data i.content)) (later_member (codes "first_field") (option_map (λ c. child_data (child_view c)) i.first_field)) (codes ",\"key\":") (quoted i.key) (codes "}")
    ∙ ap (λ t. s ++ t) (sym (item_text i))

pub citation_text : (c : RenderedCitation) → compact_text (citation_data c)
    ≡ codes "{\"content\":" ++ (compact_text (children_data c.citation) ++ (later_member (codes "note_number") (option_map (λ n. number (unsigned n)) c.note_number) ++ codes "}"))
unfolding escape_byte
citation_text c = parts c.citation c.note_number
  where
    parts : (cs : List Child) (n : Option ℕ) → compact_text (citation_data (record { note_number = n; citation = cs }))
        ≡ codes "{\"content\":" ++ (compact_text (children_data cs) ++ (later_member (codes "note_number") (option_map (λ m. number (unsigned m)) n) ++ codes "}"))
    parts cs None = refl
    parts cs (Some n) = simp append_assoc

-- the settings of a bibliography, and its items, as data
bibliography_parts : (entry line indent items : Data) (a : Option Data)
    → compact_text (object (member (codes "entry_spacing") entry (member (codes "hanging_indent") indent (member (codes "items") items (member (codes "line_spacing") line (member_if (codes "second_field_align") a no_members))))))
    ≡ codes "{\"entry_spacing\":" ++ (compact_text entry ++ (codes ",\"hanging_indent\":" ++ (compact_text indent ++ (codes ",\"items\":" ++ (compact_text items
    ++ (codes ",\"line_spacing\":" ++ (compact_text line ++ (later_member (codes "second_field_align") a ++ codes "}"))))))))
unfolding escape_byte
bibliography_parts entry line indent items None = refl
bibliography_parts entry line indent items (Some a) = simp append_assoc

bibliography_text : (b : RenderedBibliography) → compact_text (bibliography_data b)
    ≡ codes "{\"entry_spacing\":" ++ (compact_text (number (of_integer b.entry_spacing)) ++ (codes ",\"hanging_indent\":" ++ (compact_text (boolean b.hanging_indent)
    ++ (codes ",\"items\":" ++ (compact_text (array (items_of (map item_data b.items))) ++ (codes ",\"line_spacing\":" ++ (compact_text (number (of_integer (b.line_spacing).value))
    ++ (later_member (codes "second_field_align") (option_map (λ a. string (align_name a)) b.second_field_align) ++ codes "}"))))))))
bibliography_text b = bibliography_parts
    (number (of_integer b.entry_spacing)) (number (of_integer (b.line_spacing).value)) (boolean b.hanging_indent)
    (array (items_of (map item_data b.items))) (option_map (λ a. string (align_name a)) b.second_field_align)

-- after the text s
pub bibliography_after : (s : List ℕ) (b : RenderedBibliography)
    → (((((((((s ++ codes "{\"entry_spacing\":") ++ compact_text (number (of_integer b.entry_spacing))) ++ codes ",\"hanging_indent\":") ++ compact_text (boolean b.hanging_indent))
    ++ codes ",\"items\":") ++ compact_text (array (items_of (map item_data b.items)))) ++ codes ",\"line_spacing\":") ++ compact_text (number (of_integer (b.line_spacing).value)))
    ++ later_member (codes "second_field_align") (option_map (λ a. string (align_name a)) b.second_field_align)) ++ codes "}"
    ≡ s ++ compact_text (bibliography_data b)
bibliography_after s b =
    joined_10 s (codes "{\"entry_spacing\":") (compact_text (number (of_integer b.entry_spacing))) (codes ",\"hanging_indent\":") (compact_text (boolean b.hanging_indent))
    (codes ",\"items\":") (compact_text (array (items_of (map item_data b.items)))) (codes ",\"line_spacing\":") (compact_text (number (of_integer (b.line_spacing).value)))
    (later_member (codes "second_field_align") (option_map (λ a. string (align_name a)) b.second_field_align)) (codes "}")
    ∙ ap (λ t. s ++ t) (sym (bibliography_text b))

-- an answer with no bibliography, and one with a bibliography
pub bare_answer_text : (citations : Data) → compact_text (object (member (codes "citations") citations no_members)) ≡ codes "{\"citations\":" ++ (compact_text citations ++ codes "}")
unfolding escape_byte
bare_answer_text citations = refl

answer_text : (bibliography citations : Data) → compact_text (object (member (codes "bibliography") bibliography (member (codes "citations") citations no_members)))
    ≡ codes "{\"bibliography\":" ++ (compact_text bibliography ++ (codes ",\"citations\":" ++ (compact_text citations ++ codes "}")))
unfolding escape_byte
answer_text bibliography citations = refl

-- after the text s
pub answer_after : (s : List ℕ) (bibliography citations : Data)
    → ((((s ++ codes "{\"bibliography\":") ++ compact_text bibliography) ++ codes ",\"citations\":") ++ compact_text citations) ++ codes "}"
    ≡ s ++ compact_text (object (member (codes "bibliography") bibliography (member (codes "citations") citations no_members)))
answer_after s bibliography citations =
    joined_5 s (codes "{\"bibliography\":") (compact_text bibliography) (codes ",\"citations\":") (compact_text citations) (codes "}")
    ∙ ap (λ t. s ++ t) (sym (answer_text bibliography citations))
