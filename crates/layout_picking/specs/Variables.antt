-- What texts, numbers and dates give (CSL 1.0.2, text, number, date).
use Rattle.std.specs.Prelude.{ℕ, ℤ, ◌+◌, List, [], Bool, true, false, Option, Some, None, option_map, option_and_then, unwrap_or, is_some, codes}
use Rattle.std.specs.Bool.{if◌then◌else◌}
use Rattle.std.specs.List.{list_any}
use Rattle.value_sources.specs.declared.taxonomy.Variable.{Variable}
use Rattle.value_sources.specs.declared.taxonomy.DateVariable.{DateVariable}
use Rattle.value_sources.specs.declared.taxonomy.StandardVariable.TheVariants as standard
use Rattle.value_sources.specs.declared.taxonomy.NumberVariable.TheVariants as number
use Rattle.value_sources.specs.declared.taxonomy.Term.{Term}
use Rattle.value_sources.specs.declared.taxonomy.Term.TheVariants as term
use Rattle.value_sources.specs.declared.taxonomy.OtherTerm.{OtherTerm}
use Rattle.value_sources.specs.declared.taxonomy.TermForm.{TermForm}
use Rattle.value_sources.specs.declared.entry.Chunk.{Chunk}
use Rattle.value_sources.specs.declared.entry.ChunkKind.{ChunkKind}
use Rattle.value_sources.specs.declared.entry.ChunkedString.{ChunkedString}
use Rattle.value_sources.specs.declared.entry.Date.{Date}
use Rattle.value_trees.specs.declared.elem.ElemMeta.{ElemMeta}
use Rattle.value_trees.specs.declared.elem.ElemMeta.TheVariants as meta
use Rattle.value_sources.specs.contracts.taxonomy.VariablePartialEq.TheImpl as variable_eq
use Rattle.value_lists.specs.Content.{text_has_content}
use Rattle.value_styles.specs.Element.{Look}
use Rattle.layout_picking.specs.declared.notes.Form.{Form}
use Rattle.layout_picking.specs.declared.notes.Notes.{Notes}
use Rattle.driver_lookup.specs.declared.state.IdentifierUsage.{IdentifierUsage}
use Rattle.layout_picking.specs.Env.{ReadProperties, Env, suffix_of}
use Rattle.driver_lookup.specs.Years.{year_text}
use Rattle.driver_lookup.specs.States.{with_label, with_number}
use Rattle.layout_picking.specs.Suffix.{implicit_suffix}
use Rattle.layout_picking.specs.Pieces.{LeafValue, text_leaf, number_leaf, suffix_leaf, chunked_leaf, link_leaf, mark_leaf, Part, node_of, leaves_of, plain_node}
use Rattle.layout_picking.specs.Picked.{Picked, nothing, without_content, gives, called_with}

-- whether two variables are equal, by their derived test
abbrev pub same_variable : Variable → Variable → Bool
same_variable = (variable_eq.ghosts).eq

-- the forms that write values and terms
abbrev pub is_plain : Form → Bool
is_plain Form.Full = true
is_plain Form.SuppressAuthor = true
is_plain _ = false

-- the year suffix and the locator
abbrev pub is_kept : Variable → Bool
is_kept (Variable.Standard standard.YearSuffix) = true
is_kept (Variable.Number number.Locator) = true
is_kept _ = false

-- whether texts and numbers of this variable are written
abbrev pub writes : Form → Variable → Bool
writes Form.Full v = true
writes Form.SuppressAuthor v = true
writes (Form.VarOnly only) v = same_variable only v
writes Form.OnlyFirstDate v = is_kept v
writes Form.OnlyYearSuffix v = is_kept v

-- a text is a leaf where it isn't blank
abbrev pub text_leaves : Option (List ℕ) → Option LeafValue
text_leaves None = None
text_leaves (Some t) = if text_has_content t then Some (text_leaf t) else None

-- a piece of a text that isn't blank, or a formula
abbrev pub chunk_has_content : Chunk → Bool
chunk_has_content c = elim c.kind [ ChunkKind.Math ↦ true | _ ↦ text_has_content c.value ]

abbrev pub chunked_leaves : Option ChunkedString → Option LeafValue
chunked_leaves None = None
chunked_leaves (Some t) = if list_any chunk_has_content t.0 then Some (chunked_leaf t) else None

-- a locator of the caller's own is marked by the cite's place
abbrev pub marked_text : ℕ → Option (List ℕ) → Option LeafValue
marked_text i None = Some (mark_leaf i)
marked_text i (Some t) = text_leaves (Some t)

abbrev pub locator_leaf : ReadProperties → Option LeafValue
locator_leaf cite = option_and_then (λ l. marked_text cite.initial_idx l.text) cite.locator

-- what a variable's text or number gives; the printed number of a cite is one more
abbrev pub variable_leaf : Env → Variable → Option LeafValue
variable_leaf env (Variable.Standard standard.YearSuffix) =
    option_map suffix_leaf (suffix_of env.cite)
variable_leaf env (Variable.Standard standard.Url) =
    option_map link_leaf (env.answers.text standard.Url)
variable_leaf env (Variable.Standard standard.CitationLabel) = text_leaves env.answers.label
variable_leaf env (Variable.Standard v) = chunked_leaves (env.answers.text v)
variable_leaf env (Variable.Number number.CitationNumber) =
    Some (number_leaf (env.cite.citation_number + 1))
variable_leaf env (Variable.Number number.Locator) = locator_leaf env.cite
variable_leaf env (Variable.Number number.FirstReferenceNoteNumber) =
    option_map number_leaf env.cite.first_note_number
variable_leaf env (Variable.Number v) = text_leaves (env.answers.number v)
variable_leaf env _ = None

-- the suffix behind a label that the entry has
abbrev pub suffix_behind : Env → Variable → Notes → Option ℕ
suffix_behind env (Variable.Standard standard.CitationLabel) n = if is_some env.answers.label
    then implicit_suffix env.explicit_suffix env.cite n else None
suffix_behind env _ n = None

abbrev pub variable_meta : Variable → Option ElemMeta
variable_meta (Variable.Standard standard.CitationLabel) = Some meta.CitationLabel
variable_meta (Variable.Number number.CitationNumber) = Some meta.CitationNumber
variable_meta _ = None

-- behind a date or a label, which may give a part
abbrev pub dated : Bool → Notes → Notes
dated true n = record n { first_date = false }
dated false n = n

-- a label or a number that is reached in a form that writes it is noted, but in the bibliography
abbrev pub noted_use : Bool → Variable → Notes → Notes
noted_use in_bibliography (Variable.Standard standard.CitationLabel) n = if in_bibliography then n
    else record n { usage = with_label n.usage }
noted_use in_bibliography (Variable.Number number.CitationNumber) n = if in_bibliography then n
    else record n { usage = with_number n.usage }
noted_use in_bibliography _ n = n

-- what is noted behind a variable that is written, and may give a part
abbrev pub noted_behind : Bool → Variable → Bool → Notes → Notes
noted_behind in_bibliography (Variable.Standard standard.CitationLabel) given n =
    dated given (noted_use in_bibliography (Variable.Standard standard.CitationLabel) n)
noted_behind in_bibliography v given n = noted_use in_bibliography v n

-- in the bibliography the label stands for the number where only the label was used, and the
-- number for the label where only the number was
abbrev pub meant : Bool → IdentifierUsage → Variable → Variable
meant true IdentifierUsage.OnlyCitationNumber (Variable.Standard standard.CitationLabel) =
    Variable.Number number.CitationNumber
meant true IdentifierUsage.OnlyCitationLabel (Variable.Number number.CitationNumber) =
    Variable.Standard standard.CitationLabel
meant in_bibliography usage v = v

-- a text or a number of a variable
abbrev pub pick_variable : Env → Variable → Look → Bool → Bool → Notes → Picked
pick_variable env v look quotes strip n =
    if writes env.form v
    then (let ps = node_of (plain_node look quotes strip (variable_meta v))
    (leaves_of (variable_leaf env v) (suffix_behind env v n)) in
    record {
      parts = ps;
      called = called_with (gives ps);
      noted = noted_behind env.is_bibliography v (gives ps) n;
    })
    else without_content n

-- a text that names no variable
abbrev pub pick_words : Form → Option (List ℕ) → Look → Bool → Bool → Notes → Picked
pick_words form words look quotes strip n =
    if is_plain form
    then record (nothing n) {
      parts = node_of (plain_node look quotes strip None)
          (leaves_of (text_leaves words) None);
    }
    else nothing n

-- a term in its long form, or other words where no locale has it
abbrev pub words_for : (Term → TermForm → Bool → Option (List ℕ)) → OtherTerm → List ℕ → List ℕ
words_for found t words = unwrap_or (found (term.Other t) TermForm.Long false) words

-- a year, with the words for after Christ or before where it has them
abbrev pub year_leaf : (Term → TermForm → Bool → Option (List ℕ)) → ℤ → LeafValue
year_leaf found year =
    text_leaf (year_text year false (words_for found OtherTerm.Ad (codes " AD"))
    (words_for found OtherTerm.Bc (codes " BC")))

-- whether the year of a date is written
abbrev pub writes_year : Form → DateVariable → Notes → Bool
writes_year Form.Full v n = true
writes_year Form.SuppressAuthor v n = true
writes_year (Form.VarOnly only) v n = same_variable only (Variable.Date v)
writes_year Form.OnlyFirstDate v n = n.first_date
writes_year Form.OnlyYearSuffix v n = false

abbrev pub writes_suffix_alone : Form → Bool
writes_suffix_alone Form.OnlyYearSuffix = true
writes_suffix_alone _ = false

-- a date that the entry has: its year and the suffix behind it, or the suffix alone
abbrev pub date_leaves : Env → DateVariable → Option Date → Notes → List Part
date_leaves env v None n = []
date_leaves env v (Some d) n =
    if writes_year env.form v n
    then leaves_of (Some (year_leaf env.term d.year))
    (implicit_suffix env.explicit_suffix env.cite n)
    else (if writes_suffix_alone env.form
    then leaves_of None (implicit_suffix env.explicit_suffix env.cite n) else [])

abbrev pub pick_date : Env → DateVariable → Look → Bool → Bool → Notes → Picked
pick_date env v look quotes strip n =
    let ps = node_of (plain_node look quotes strip (Some meta.Date))
    (date_leaves env v (env.answers.date v) n) in
    record { parts = ps; called = called_with (gives ps); noted = dated (gives ps) n }
