-- The texts that an answer is printed as.
use Rattle.std.specs.Prelude.{ℕ, List, [], ◌∷◌, ◌++◌, Option, Some, None}
use Rattle.std.specs.List.{flat_map}
use Rattle.value_trees.specs.ChildView.{child_view}
use Rattle.value_trees.specs.Tree.{plain, child_plain}
use Rattle.value_trees.specs.declared.elem.ElemChild.{ElemChild}
use Rattle.driver_assembly.specs.declared.rendered.BibliographyItem.{BibliographyItem}
use Rattle.driver_assembly.specs.declared.rendered.Rendered.{Rendered}
use Rattle.driver_assembly.specs.declared.rendered.RenderedBibliography.{RenderedBibliography}
use Rattle.driver_assembly.specs.declared.rendered.RenderedCitation.{RenderedCitation}
use Rattle.serde_json.specs.Written.{compact_text}
use Rattle.write_json.specs.AnswerData.{answer_data}

-- the byte of a line feed
abbrev pub line_feed : ℕ
line_feed = 10

-- the byte of a tab
abbrev pub tab : ℕ
tab = 9

-- a citation's text and a line feed
abbrev pub citation_line : RenderedCitation → List ℕ
citation_line c = plain c.citation ++ line_feed ∷ []

-- the text of a first field, if there is one
abbrev pub first_text : Option ElemChild → List ℕ
first_text None = []
first_text (Some c) = child_plain (child_view c)

-- an item's key, a tab, its text, and a line feed
abbrev pub item_line : BibliographyItem → List ℕ
item_line i = i.key ++ tab ∷ (first_text i.first_field ++ (plain i.content ++ line_feed ∷ []))

-- an empty line, and then the items
abbrev pub bibliography_lines : Option RenderedBibliography → List ℕ
bibliography_lines None = []
bibliography_lines (Some b) = line_feed ∷ flat_map item_line b.items

-- the citations, and then the bibliography, if there is one
abbrev pub print : Rendered → List ℕ
print r = flat_map citation_line r.citations ++ bibliography_lines r.bibliography

-- the answer as JSON
abbrev pub json_text : Rendered → List ℕ
json_text r = compact_text (answer_data r)
