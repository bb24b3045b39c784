-- The JSON of an answer.
use Rattle.std.specs.Prelude.{ℕ, List, map, codes, option_map}
use Rattle.serde_json.specs.Data.{Data, boolean, string, number, unsigned, array, object, no_members, member}
use Rattle.serde_json.specs.Find.{of_integer}
use Rattle.serde_json.specs.View.{items_of}
use Rattle.value_trees.specs.ChildView.{child_view}
use Rattle.value_styles.specs.declared.style.SecondFieldAlign.{SecondFieldAlign}
use Rattle.value_styles.specs.declared.style.SecondFieldAlign.TheVariants as align
use Rattle.driver_assembly.specs.declared.rendered.BibliographyItem.{BibliographyItem}
use Rattle.driver_assembly.specs.declared.rendered.Rendered.{Rendered}
use Rattle.driver_assembly.specs.declared.rendered.RenderedBibliography.{RenderedBibliography}
use Rattle.driver_assembly.specs.declared.rendered.RenderedCitation.{RenderedCitation}
use Rattle.write_json.specs.Members.{member_if}
use Rattle.write_json.specs.TreeData.{child_data, children_data}

abbrev pub align_name : SecondFieldAlign → List ℕ
align_name align.Flush = codes "flush"
align_name align.Margin = codes "margin"

abbrev pub item_data : BibliographyItem → Data
item_data i = object (member (codes "content") (children_data i.content)
    (member_if (codes "first_field") (option_map (λ c. child_data (child_view c)) i.first_field)
    (member (codes "key") (string i.key) no_members)))

abbrev pub bibliography_data : RenderedBibliography → Data
bibliography_data b = object (member (codes "entry_spacing") (number (of_integer b.entry_spacing))
    (member (codes "hanging_indent") (boolean b.hanging_indent)
    (member (codes "items") (array (items_of (map item_data b.items)))
    (member (codes "line_spacing") (number (of_integer (b.line_spacing).value))
    (member_if (codes "second_field_align")
    (option_map (λ a. string (align_name a)) b.second_field_align)
    no_members)))))

abbrev pub citation_data : RenderedCitation → Data
citation_data c = object (member (codes "content") (children_data c.citation)
    (member_if (codes "note_number") (option_map (λ n. number (unsigned n)) c.note_number)
    no_members))

abbrev pub answer_data : Rendered → Data
answer_data r = object
    (member_if (codes "bibliography") (option_map bibliography_data r.bibliography)
    (member (codes "citations") (array (items_of (map citation_data r.citations))) no_members))
