-- In which steps a cite is written for a purpose.
use Rattle.std.specs.Prelude.{ℕ, ◌∷◌, ◌++◌, List, [], Bool, true, false, Option, None, Some, codes}
use Rattle.std.specs.Str.{chars}
use Rattle.std.specs.Bool.{if◌then◌else◌}
use Rattle.std.specs.List.{list_any}
use Rattle.std.specs.Char.{is_whitespace}
use Rattle.value_styles.specs.Style.{StyleValue, LayoutValue}
use Rattle.value_sources.specs.declared.formatting.StyleFormatting.{StyleFormatting}
use Rattle.value_styles.specs.declared.style.StyleCategory.{StyleCategory}
use Rattle.value_styles.specs.declared.style.StyleCategory.TheVariants as categories
use Rattle.value_styles.specs.declared.style.CitationFormat.{CitationFormat}
use Rattle.layout_picking.specs.declared.notes.Form.{Form}
use Rattle.layout_picking.specs.declared.notes.Notes.{Notes}
use Rattle.driver_lookup.specs.declared.purpose.CitePurpose.{CitePurpose}
use Rattle.driver_lookup.specs.declared.state.CollapseVerdict.{CollapseVerdict}
use Rattle.layout_picking.specs.Pieces.{Part}
use Rattle.layout_context.specs.Steps.{first_is}
use Rattle.csl_writing.specs.Subject.{Subject}
use Rattle.csl_writing.specs.Sections.{Section, citation_section, author_section, regular_section, full_section}

pub data PlanStep : Type 0 where
  -- parts in a formatting
  section_step : StyleFormatting → List Part → PlanStep
  -- a text
  text_step : List ℕ → PlanStep
  -- a space, where none stands before
  space_step : PlanStep

-- the steps, and what is noted behind them
pub record Plan : Type 0 where
  pub steps : List PlanStep
  pub noted : Notes

abbrev pub step_of : Section → PlanStep
step_of section = section_step section.formatting section.picked.parts

-- one section and nothing else
abbrev pub plan_of : Section → Plan
plan_of section = record { steps = step_of section ∷ []; noted = section.picked.noted }

abbrev pub text_steps : Option (List ℕ) → List PlanStep
text_steps None = []
text_steps (Some t) = text_step t ∷ []

-- the category of a style whose cites are labels or numbers
abbrev pub is_label_or_number : StyleCategory → Bool
is_label_or_number (categories.CitationFormat CitationFormat.Label) = true
is_label_or_number (categories.CitationFormat CitationFormat.Numeric) = true
is_label_or_number _ = false

abbrev pub has_labels : StyleValue → Bool
has_labels style = list_any is_label_or_number style.categories

-- a text that begins with white space
abbrev pub opens_with_space : Option (List ℕ) → Bool
opens_with_space None = false
opens_with_space (Some t) = first_is is_whitespace (chars t)

-- what stands between the author and the rest of a cite in a sentence
abbrev pub gap_steps : LayoutValue → List PlanStep
gap_steps layout = if opens_with_space layout.prefix then [] else space_step ∷ []

-- the rest of a cite in a sentence: a label or a number as it is written without a purpose, else
-- all but the author
abbrev pub rest_section : Subject → Option CollapseVerdict → Notes → Section
rest_section s verdict n =
    if has_labels s.source.style then regular_section s verdict n
    else citation_section s Form.SuppressAuthor n

-- what encloses the rest on one side: the layout's own affix, else the bracket, but where cites are
-- labels or numbers
abbrev pub enclosing : StyleValue → Option (List ℕ) → List ℕ → Option (List ℕ)
enclosing style (Some affix) bracket = Some affix
enclosing style None bracket = if has_labels style then None else Some bracket

-- a cite in a sentence: the author, then the rest, enclosed
abbrev pub prose_plan : Subject → Option CollapseVerdict → Notes → Plan
prose_plan s verdict n =
    let style = s.source.style in
    let layout = style.citation.layout in
    let author = author_section s n in
    let rest = rest_section s verdict author.picked.noted in
    record {
      steps = step_of author
          ∷ (gap_steps layout ++ text_steps (enclosing style layout.prefix (codes "("))
          ++ step_of rest ∷ text_steps (enclosing style layout.suffix (codes ")")));
      noted = rest.picked.noted;
    }

-- a cite by what it is written for
abbrev pub cite_plan : Subject → Option CitePurpose → Option CollapseVerdict → Notes → Plan
cite_plan s (Some CitePurpose.Author) verdict n = plan_of (author_section s n)
cite_plan s (Some CitePurpose.Prose) verdict n = prose_plan s verdict n
cite_plan s (Some CitePurpose.Full) verdict n = plan_of (full_section s verdict n)
cite_plan s (Some CitePurpose.Year) verdict n = plan_of (regular_section s verdict n)
cite_plan s None verdict n = plan_of (regular_section s verdict n)
