-- How a task names the values of enums.
use Rattle.std.specs.Prelude.{ℕ, List, [], ◌∷◌, Option, Some, None, codes}
use Rattle.value_sources.specs.declared.names.DisambiguatedNameForm.{DisambiguatedNameForm}
use Rattle.value_sources.specs.declared.taxonomy.Locator.{Locator}
use Rattle.driver_lookup.specs.declared.purpose.CitePurpose.{CitePurpose}
use Rattle.driver_lookup.specs.declared.state.CollapseVerdict.{CollapseVerdict}
use Rattle.driver_lookup.specs.declared.state.IbidState.{IbidState}
use Rattle.driver_lookup.specs.declared.state.IdentifierUsage.{IdentifierUsage}
use Rattle.document_values.specs.Tables.{NameTable}
use Rattle.document_tasks.specs.declared.task_names.TaskKind.{TaskKind}

-- the kinds of tasks
abbrev pub kinds : NameTable TaskKind
kinds = (codes "cite", TaskKind.Cite) ∷ (codes "item", TaskKind.Item)
    ∷ (codes "date", TaskKind.Date) ∷ []

-- how a cite repeats the one before it
abbrev pub ibid_states : NameTable IbidState
ibid_states = (codes "ibid", IbidState.Ibid)
    ∷ (codes "ibid-with-locator", IbidState.IbidWithLocator) ∷ []

-- which identifiers were written
abbrev pub usages : NameTable IdentifierUsage
usages =
    (codes "label", IdentifierUsage.OnlyCitationLabel) ∷
    (codes "number", IdentifierUsage.OnlyCitationNumber) ∷
    (codes "both", IdentifierUsage.Mixed) ∷
    []

-- how a cite is cut
abbrev pub verdicts : NameTable CollapseVerdict
verdicts = (codes "date", CollapseVerdict.First) ∷ (codes "suffix", CollapseVerdict.YearSuffix) ∷ []

-- how far a name is written
abbrev pub written_name_forms : NameTable DisambiguatedNameForm
written_name_forms =
    (codes "count", DisambiguatedNameForm.Count) ∷
    (codes "short", DisambiguatedNameForm.Short) ∷
    (codes "initials", DisambiguatedNameForm.LongInitialized) ∷
    (codes "full", DisambiguatedNameForm.LongFull) ∷
    []

-- ---- the names of values

abbrev pub repeats_name : IbidState → Option (List ℕ)
repeats_name IbidState.Different = None
repeats_name IbidState.IbidWithLocator = Some (codes "ibid-with-locator")
repeats_name IbidState.Ibid = Some (codes "ibid")

abbrev pub usage_name : IdentifierUsage → Option (List ℕ)
usage_name IdentifierUsage.None = None
usage_name IdentifierUsage.OnlyCitationLabel = Some (codes "label")
usage_name IdentifierUsage.OnlyCitationNumber = Some (codes "number")
usage_name IdentifierUsage.Mixed = Some (codes "both")

abbrev pub verdict_name : CollapseVerdict → List ℕ
verdict_name CollapseVerdict.First = codes "date"
verdict_name CollapseVerdict.YearSuffix = codes "suffix"

abbrev pub form_name : DisambiguatedNameForm → List ℕ
form_name DisambiguatedNameForm.Count = codes "count"
form_name DisambiguatedNameForm.Short = codes "short"
form_name DisambiguatedNameForm.LongInitialized = codes "initials"
form_name DisambiguatedNameForm.LongFull = codes "full"

abbrev pub purpose_name : CitePurpose → List ℕ
purpose_name CitePurpose.Author = codes "author"
purpose_name CitePurpose.Year = codes "year"
purpose_name CitePurpose.Full = codes "full"
purpose_name CitePurpose.Prose = codes "prose"

abbrev pub locator_name : Locator → List ℕ
locator_name Locator.Book = codes "book"
locator_name Locator.Chapter = codes "chapter"
locator_name Locator.Custom = codes "custom"
locator_name Locator.Figure = codes "figure"
locator_name Locator.Line = codes "line"
locator_name Locator.Note = codes "note"
locator_name Locator.Page = codes "page"
locator_name Locator.Paragraph = codes "paragraph"
locator_name Locator.Part = codes "part"
locator_name Locator.Section = codes "section"
locator_name Locator.Supplement = codes "supplement"
locator_name Locator.Verse = codes "verse"
locator_name Locator.Volume = codes "volume"
