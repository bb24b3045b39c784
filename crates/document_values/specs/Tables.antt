-- The names of the format, and the values that they stand for.
use Rattle.std.specs.Prelude.{◌≡◌, ℕ, List, [], ◌∷◌, codes, map}
use Rattle.value_styles.specs.declared.style.StyleCategory.{StyleCategory}
use Rattle.value_styles.specs.declared.style.CitationFormat.{CitationFormat}
use Rattle.value_styles.specs.declared.style.StyleClass.{StyleClass}
use Rattle.value_styles.specs.declared.style.DisambiguationRule.{DisambiguationRule}
use Rattle.value_styles.specs.declared.style.Collapse.{Collapse}
use Rattle.value_styles.specs.declared.style.SecondFieldAlign.{SecondFieldAlign}
use Rattle.value_styles.specs.declared.style.SubsequentAuthorSubstituteRule.{SubsequentAuthorSubstituteRule}
use Rattle.value_styles.specs.declared.element.NameAnd.{NameAnd}
use Rattle.value_styles.specs.declared.element.NameForm.{NameForm}
use Rattle.value_sources.specs.declared.formatting.Display.{Display}
use Rattle.value_sources.specs.declared.formatting.FontVariant.{FontVariant}
use Rattle.value_sources.specs.declared.formatting.TextDecoration.{TextDecoration}
use Rattle.value_sources.specs.declared.formatting.VerticalAlign.{VerticalAlign}
use Rattle.value_sources.specs.declared.taxonomy.NameVariable.{NameVariable}
use Rattle.value_sources.specs.declared.taxonomy.DateVariable.{DateVariable}
use Rattle.value_sources.specs.declared.taxonomy.StandardVariable.{StandardVariable}
use Rattle.value_sources.specs.declared.taxonomy.NumberVariable.{NumberVariable}
use Rattle.value_sources.specs.declared.taxonomy.Locator.{Locator}
use Rattle.value_sources.specs.declared.taxonomy.OtherTerm.{OtherTerm}
use Rattle.value_sources.specs.declared.taxonomy.TermForm.{TermForm}
use Rattle.value_styles.specs.declared.element.TestPosition.{TestPosition}
use Rattle.value_styles.specs.declared.element.ChooseMatch.{ChooseMatch}
use Rattle.driver_lookup.specs.declared.apart.Apart.{Apart}
use Rattle.driver_lookup.specs.declared.purpose.CitePurpose.{CitePurpose}

-- names and the values that they stand for
abbrev pub NameTable : Type 0 → Type 0
NameTable A = List (List ℕ × A)

-- the rows of a constant are those of the table
abbrev pub AreRowsOf : {A : Type 0} → NameTable A → List (record { now : List ℕ } × A) → Type 0
AreRowsOf table rows = map (λ row. (row.0.now, row.1)) rows ≡ table

-- the categories of styles
abbrev pub categories : NameTable StyleCategory
categories =
    (codes "author-date", StyleCategory.CitationFormat CitationFormat.AuthorDate) ∷
    (codes "author", StyleCategory.CitationFormat CitationFormat.Author) ∷
    (codes "numeric", StyleCategory.CitationFormat CitationFormat.Numeric) ∷
    (codes "label", StyleCategory.CitationFormat CitationFormat.Label) ∷
    (codes "note", StyleCategory.CitationFormat CitationFormat.Note) ∷
    []

-- the classes of styles
abbrev pub classes : NameTable StyleClass
classes =
    (codes "in-text", StyleClass.InText) ∷
    (codes "note", StyleClass.Note) ∷
    []

-- which names are made fuller
abbrev pub given_name_rules : NameTable DisambiguationRule
given_name_rules =
    (codes "all-names", DisambiguationRule.AllNames) ∷
    (codes "all-names-with-initials", DisambiguationRule.AllNamesWithInitials) ∷
    (codes "primary-name", DisambiguationRule.PrimaryName) ∷
    (codes "primary-name-with-initials", DisambiguationRule.PrimaryNameWithInitials) ∷
    (codes "by-cite", DisambiguationRule.ByCite) ∷
    []

-- the ways of collapsing
abbrev pub collapses : NameTable Collapse
collapses =
    (codes "citation-number", Collapse.CitationNumber) ∷
    (codes "year", Collapse.Year) ∷
    (codes "year-suffix", Collapse.YearSuffix) ∷
    (codes "year-suffix-ranged", Collapse.YearSuffixRanged) ∷
    []

-- where a second field is aligned
abbrev pub second_field_aligns : NameTable SecondFieldAlign
second_field_aligns =
    (codes "flush", SecondFieldAlign.Flush) ∷
    (codes "margin", SecondFieldAlign.Margin) ∷
    []

-- which repeated names are substituted
abbrev pub substitute_rules : NameTable SubsequentAuthorSubstituteRule
substitute_rules =
    (codes "complete-all", SubsequentAuthorSubstituteRule.CompleteAll) ∷
    (codes "complete-each", SubsequentAuthorSubstituteRule.CompleteEach) ∷
    (codes "partial-each", SubsequentAuthorSubstituteRule.PartialEach) ∷
    (codes "partial-first", SubsequentAuthorSubstituteRule.PartialFirst) ∷
    []

-- the words before a last name
abbrev pub name_ands : NameTable NameAnd
name_ands =
    (codes "text", NameAnd.Text) ∷
    (codes "symbol", NameAnd.Symbol) ∷
    []

-- how much of a name is written
abbrev pub name_forms : NameTable NameForm
name_forms =
    (codes "long", NameForm.Long) ∷
    (codes "short", NameForm.Short) ∷
    []

-- whether letters are small capitals
abbrev pub font_variants : NameTable FontVariant
font_variants = (codes "normal", FontVariant.Normal)
    ∷ (codes "small-caps", FontVariant.SmallCaps) ∷ []

-- whether a line stands under letters
abbrev pub text_decorations : NameTable TextDecoration
text_decorations = (codes "none", TextDecoration.None)
    ∷ (codes "underline", TextDecoration.Underline) ∷ []

-- where letters stand on their line
abbrev pub vertical_aligns : NameTable VerticalAlign
vertical_aligns =
    (codes "none", VerticalAlign.None) ∷
    (codes "baseline", VerticalAlign.Baseline) ∷
    (codes "sup", VerticalAlign.Superscript) ∷
    (codes "sub", VerticalAlign.Subscript) ∷
    []

-- how an element is set off
abbrev pub displays : NameTable Display
displays =
    (codes "block", Display.Block) ∷
    (codes "left-margin", Display.LeftMargin) ∷
    (codes "right-inline", Display.RightInline) ∷
    (codes "indent", Display.Indent) ∷
    []

-- the variables that hold persons
abbrev pub name_variables : NameTable NameVariable
name_variables =
    (codes "author", NameVariable.Author) ∷
    (codes "editor", NameVariable.Editor) ∷
    (codes "translator", NameVariable.Translator) ∷
    []

-- the variables that hold dates
abbrev pub date_variables : NameTable DateVariable
date_variables =
    (codes "issued", DateVariable.Issued) ∷
    (codes "accessed", DateVariable.Accessed) ∷
    (codes "available-date", DateVariable.AvailableDate) ∷
    (codes "event-date", DateVariable.EventDate) ∷
    (codes "submitted", DateVariable.Submitted) ∷
    (codes "original-date", DateVariable.OriginalDate) ∷
    []

-- the variables that hold texts
abbrev pub standard_variables : NameTable StandardVariable
standard_variables =
    (codes "title", StandardVariable.Title) ∷
    (codes "container-title", StandardVariable.ContainerTitle) ∷
    (codes "publisher", StandardVariable.Publisher) ∷
    (codes "publisher-place", StandardVariable.PublisherPlace) ∷
    (codes "note", StandardVariable.Note) ∷
    (codes "url", StandardVariable.Url) ∷
    (codes "doi", StandardVariable.Doi) ∷
    (codes "citation-label", StandardVariable.CitationLabel) ∷
    (codes "year-suffix", StandardVariable.YearSuffix) ∷
    []

-- the variables that hold numbers
abbrev pub number_variables : NameTable NumberVariable
number_variables =
    (codes "citation-number", NumberVariable.CitationNumber) ∷
    (codes "locator", NumberVariable.Locator) ∷
    (codes "first-reference-note-number", NumberVariable.FirstReferenceNoteNumber) ∷
    (codes "volume", NumberVariable.Volume) ∷
    (codes "issue", NumberVariable.Issue) ∷
    (codes "number", NumberVariable.Number) ∷
    (codes "edition", NumberVariable.Edition) ∷
    []

-- what locators count
abbrev pub locators : NameTable Locator
locators =
    (codes "book", Locator.Book) ∷
    (codes "chapter", Locator.Chapter) ∷
    (codes "custom", Locator.Custom) ∷
    (codes "figure", Locator.Figure) ∷
    (codes "line", Locator.Line) ∷
    (codes "note", Locator.Note) ∷
    (codes "page", Locator.Page) ∷
    (codes "paragraph", Locator.Paragraph) ∷
    (codes "part", Locator.Part) ∷
    (codes "section", Locator.Section) ∷
    (codes "supplement", Locator.Supplement) ∷
    (codes "verse", Locator.Verse) ∷
    (codes "volume", Locator.Volume) ∷
    []

-- the terms that are named after no variable and no locator
abbrev pub other_terms : NameTable OtherTerm
other_terms =
    (codes "ad", OtherTerm.Ad) ∷
    (codes "bc", OtherTerm.Bc) ∷
    (codes "no-date", OtherTerm.NoDate) ∷
    (codes "et-al", OtherTerm.EtAl) ∷
    (codes "and", OtherTerm.And) ∷
    (codes "ibid", OtherTerm.Ibid) ∷
    (codes "open-quote", OtherTerm.OpenQuote) ∷
    (codes "close-quote", OtherTerm.CloseQuote) ∷
    (codes "open-inner-quote", OtherTerm.OpenInnerQuote) ∷
    (codes "close-inner-quote", OtherTerm.CloseInnerQuote) ∷
    []

-- the forms of terms
abbrev pub term_forms : NameTable TermForm
term_forms =
    (codes "long", TermForm.Long) ∷
    (codes "short", TermForm.Short) ∷
    (codes "verb", TermForm.Verb) ∷
    (codes "verb-short", TermForm.VerbShort) ∷
    (codes "symbol", TermForm.Symbol) ∷
    []

-- the positions that a condition tests
abbrev pub positions : NameTable TestPosition
positions =
    (codes "first", TestPosition.First) ∷
    (codes "subsequent", TestPosition.Subsequent) ∷
    (codes "ibid", TestPosition.Ibid) ∷
    (codes "ibid-with-locator", TestPosition.IbidWithLocator) ∷
    (codes "near-note", TestPosition.NearNote) ∷
    []

-- how many conditions have to hold
abbrev pub matches : NameTable ChooseMatch
matches =
    (codes "any", ChooseMatch.Any) ∷
    (codes "all", ChooseMatch.All) ∷
    (codes "none", ChooseMatch.None) ∷
    []

-- what a cite is written for
abbrev pub purposes : NameTable CitePurpose
purposes =
    (codes "author", CitePurpose.Author) ∷
    (codes "year", CitePurpose.Year) ∷
    (codes "full", CitePurpose.Full) ∷
    (codes "prose", CitePurpose.Prose) ∷
    []

-- where a caller's own words stand around a cite
abbrev pub aparts : NameTable Apart
aparts =
    (codes "before", Apart.Before) ∷
    (codes "both", Apart.Both) ∷
    []
