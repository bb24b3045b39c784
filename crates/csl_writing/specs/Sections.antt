-- What of a layout is written for a cite.
use Rattle.std.specs.Prelude.{◌∷◌, List, [], Bool, true, false, Option, None, Some}
use Rattle.std.specs.Bool.{if◌then◌else◌}
use Rattle.value_styles.specs.Element.{Macro, names_element, Elements, no_elements, element}
use Rattle.value_styles.specs.PlainLook.{no_look, no_options, no_formatting}
use Rattle.value_styles.specs.Style.{BibliographyValue}
use Rattle.value_sources.specs.declared.formatting.StyleFormatting.{StyleFormatting}
use Rattle.value_sources.specs.declared.taxonomy.NameVariable.{NameVariable}
use Rattle.value_sources.specs.declared.taxonomy.Variable.{Variable}
use Rattle.layout_picking.specs.declared.notes.Form.{Form}
use Rattle.layout_picking.specs.declared.notes.Notes.{Notes}
use Rattle.driver_lookup.specs.declared.state.CollapseVerdict.{CollapseVerdict}
use Rattle.layout_picking.specs.Conditions.{is_repeated}
use Rattle.layout_picking.specs.Pick.{pick_layout}
use Rattle.layout_picking.specs.Names.{author_variable}
use Rattle.layout_picking.specs.Picked.{Picked, nothing}
use Rattle.layout_picking.specs.Pieces.{Part}
use Rattle.layout_picking.specs.Env.{Env}
use Rattle.csl_writing.specs.Subject.{Subject, env, as_different}

-- what is picked, and the formatting in which it is written
pub record Section : Type 0 where
  pub formatting : StyleFormatting
  pub picked : Picked

-- what such elements give under what a picking reads, in that formatting
abbrev pub picked_section : StyleFormatting → Env → List Macro → Elements → Notes → Section
picked_section f env macros es n = record { formatting = f; picked = pick_layout env macros es n }

abbrev pub no_section : Notes → Section
no_section n = record { formatting = no_formatting; picked = nothing n }

-- the citation's layout, under the citation's name options
abbrev pub citation_section : Subject → Form → Notes → Section
citation_section s form n =
    let citation = s.source.style.citation in
    picked_section citation.layout.formatting
    (env s citation.name_options form false) s.source.style.macros citation.layout.elements n

-- the same as if the cite repeated no other, where it repeats one
abbrev pub citation_anew : Subject → Form → Notes → Section
citation_anew s form n = if is_repeated s.cite.ibid then citation_section (as_different s) form n
    else no_section n

-- a bibliography's layout, under its name options
abbrev pub item_section : Subject → BibliographyValue → Form → Bool → Notes → Section
item_section s bibliography form is_bibliography n =
    let layout = bibliography.layout in
    picked_section layout.formatting
    (env s bibliography.name_options form is_bibliography) s.source.style.macros layout.elements n

-- the bibliography's layout in a citation, where the style has a bibliography
abbrev pub bibliography_section : Subject → Form → Notes → Section
bibliography_section s form n =
    elim s.source.style.bibliography
    [ None ↦ no_section n | Some bibliography ↦ item_section s bibliography form false n ]

-- a layout's elements: the author's names and nothing else
abbrev pub names_alone : Elements
names_alone = element (names_element (NameVariable.Author ∷ []) [] no_options no_look) no_elements

-- the author's names alone, under the citation's name options and in its formatting
abbrev pub names_section : Subject → Form → Notes → Section
names_section s form n =
    let citation = s.source.style.citation in
    picked_section citation.layout.formatting
    (env s citation.name_options form false) s.source.style.macros names_alone n

abbrev pub has_parts : List Part → Bool
has_parts [] = false
has_parts (p ∷ ps) = true

-- a section that gives a part, else another one
abbrev pub shown_or : Section → Section → Section
shown_or a b = if has_parts a.picked.parts then a else b

-- only what names the author; the editor, where the entry has editors and no author
abbrev pub author_form : Subject → Form
author_form s = Form.VarOnly (Variable.Name (author_variable s.answers))

-- what names the author, as the bibliography writes it, else the names alone
abbrev pub author_listed : Subject → Form → Notes → Section
author_listed s form n = shown_or (bibliography_section s form n) (names_section s form n)

-- the same, but first as the citation would write it where the cite repeated no other
abbrev pub author_anew : Subject → Form → Notes → Section
author_anew s form n = shown_or (citation_anew s form n) (author_listed s form n)

-- what names the author: as the citation writes it, else in these ways
abbrev pub author_section : Subject → Notes → Section
author_section s n = shown_or (citation_section s (author_form s) n)
    (author_anew s (author_form s) n)

-- the form of a cite that is collapsed
abbrev pub verdict_form : Option CollapseVerdict → Form
verdict_form None = Form.Full
verdict_form (Some CollapseVerdict.First) = Form.OnlyFirstDate
verdict_form (Some CollapseVerdict.YearSuffix) = Form.OnlyYearSuffix

-- the citation's layout as it is used without a purpose
abbrev pub regular_section : Subject → Option CollapseVerdict → Notes → Section
regular_section s verdict n = citation_section s (verdict_form verdict) n

-- a cite as the bibliography's layout writes it, without its affixes; as without a purpose where
-- there is no bibliography
abbrev pub full_section : Subject → Option CollapseVerdict → Notes → Section
full_section s verdict n =
    elim s.source.style.bibliography [
      | None ↦ regular_section s verdict n
      | Some bibliography ↦ item_section s bibliography Form.Full
          false n
    ]
