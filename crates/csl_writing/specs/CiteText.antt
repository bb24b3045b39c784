-- What is written of a cite by what it is written for, and of an item of the bibliography.
use Rattle.std.specs.Prelude.{◌∷◌, List, [], Bool, true, false, Option, None, Some, length, option_map, is_some, if◌then◌else◌}
use Rattle.value_sources.specs.Answers.{Answers}
use Rattle.value_trees.specs.Child.{Child}
use Rattle.value_styles.specs.Element.{Affix}
use Rattle.value_styles.specs.Style.{StyleValue, LayoutValue, BibliographyValue}
use Rattle.driver_writers.specs.declared.cite.Cite.{Cite}
use Rattle.layout_picking.specs.declared.notes.Form.{Form}
use Rattle.driver_lookup.specs.declared.purpose.CitePurpose.{CitePurpose}
use Rattle.driver_lookup.specs.declared.state.CollapseVerdict.{CollapseVerdict}
pub use Rattle.csl_writing.specs.DateText.{date_text}
use Rattle.csl_writing.specs.FirstField.{first_field_first}
use Rattle.driver_lookup.specs.Lookup.{Source, Lookup, lookup}
use Rattle.layout_picking.specs.Notes.{first_notes}
use Rattle.csl_writing.specs.Plans.{PlanStep, step_of, cite_plan}
use Rattle.driver_lookup.specs.Properties.{Properties}
use Rattle.csl_writing.specs.Sections.{item_section}
use Rattle.layout_context.specs.Steps.{term_text}
use Rattle.csl_writing.specs.StepsWritten.{steps_written, finished, tree_of}
use Rattle.csl_writing.specs.Subject.{Subject, subject}
use Rattle.layout_context.specs.Wording.{suffixed}
use Rattle.layout_context.specs.WritingState.{State, begun, prefixed}

-- the second fields of the bibliography are aligned
abbrev pub aligns_second_field : Option BibliographyValue → Bool
aligns_second_field None = false
aligns_second_field (Some bibliography) = is_some bibliography.second_field_align

-- a full cite has its first field in front, where the bibliography aligns second fields
abbrev pub arranged : StyleValue → Option CitePurpose → List Child → List Child
arranged style (Some CitePurpose.Full) cs = if aligns_second_field style.bibliography
    then first_field_first cs else cs
arranged style _ cs = cs

-- a cite: what is written of it, and what is noted on the way
abbrev pub rendered_cite : Subject → Option CitePurpose → Option CollapseVerdict → Cite
rendered_cite s purpose verdict =
    let plan = cite_plan s purpose verdict (first_notes s.cite.usage) in
    record {
      children = arranged s.source.style purpose (tree_of s.source plan.steps);
      checked_disambiguate = plan.noted.checked_disambiguate;
      first_name = plan.noted.first_name;
      identifier_usage = plan.noted.usage;
    }

-- steps between a prefix and a suffix; where they show nothing, nothing is written
abbrev pub enclosed : Lookup → Affix → List PlanStep → State → State
enclosed k affixes steps a =
    suffixed k affixes.suffix (length a.formats) (length (term_text affixes.prefix))
    (steps_written k steps (prefixed affixes.prefix a))

abbrev pub layout_affixes : LayoutValue → Affix
layout_affixes layout = record { prefix = layout.prefix; suffix = layout.suffix }

-- an item of a bibliography: its layout between the layout's affixes
abbrev pub rendered_item : Subject → BibliographyValue → List Child
rendered_item s bibliography =
    let section = item_section s bibliography Form.Full true (first_notes s.cite.usage) in
    finished (enclosed (lookup s.source) (layout_affixes bibliography.layout) (step_of section ∷ [])
    (begun s.source.style.options))

module _ {P : Type 0} where
  -- a cite of an entry in a style with its locales
  unfoldable pub cite : Source → Answers → Properties P → Option CitePurpose
      → Option CollapseVerdict → Cite
  cite source answers props = rendered_cite (subject source answers props)

  -- its tree
  unfoldable pub cite_text : Source → Answers → Properties P → Option CitePurpose
      → Option CollapseVerdict
      → List Child
  cite_text source answers props purpose verdict =
      (cite source answers props purpose verdict).children

  -- the entry's item of the bibliography, where the style has one
  unfoldable pub bibliography_text : Source → Answers → Properties P → Option (List Child)
  bibliography_text source answers props =
      option_map (rendered_item (subject source answers props)) source.style.bibliography
