-- The tests of a choice's branches (CSL 1.0.2, choose).
use Rattle.std.specs.Prelude.{List, [], ◌∷◌, Bool, true, false, not, ◌||◌, is_some}
use Rattle.std.specs.List.{list_any, list_all}
use Rattle.value_sources.specs.declared.taxonomy.Variable.{Variable}
use Rattle.value_sources.specs.declared.taxonomy.StandardVariable.TheVariants as standard
use Rattle.value_sources.specs.declared.taxonomy.NumberVariable.TheVariants as number
use Rattle.value_styles.specs.declared.element.Condition.{Condition}
use Rattle.value_styles.specs.declared.element.TestPosition.{TestPosition}
use Rattle.value_styles.specs.declared.element.ChooseMatch.{ChooseMatch}
use Rattle.value_sources.specs.declared.entry.Person.{Person}
use Rattle.layout_picking.specs.declared.notes.Notes.{Notes}
use Rattle.driver_lookup.specs.declared.state.IbidState.{IbidState}
use Rattle.layout_picking.specs.Env.{ReadProperties, Env, suffix_of}
use Rattle.driver_lookup.specs.Means.{is_chosen}

abbrev pub has_persons : List Person → Bool
has_persons [] = false
has_persons (p ∷ ps) = true

-- whether the cite has a variable: of its entry, or of its own properties
abbrev pub has_variable : Env → Variable → Bool
has_variable env (Variable.Name v) = has_persons (env.answers.names v)
has_variable env (Variable.Date v) = is_some (env.answers.date v)
has_variable env (Variable.Standard standard.CitationLabel) = is_some env.answers.label
has_variable env (Variable.Standard standard.YearSuffix) = is_some (suffix_of env.cite)
has_variable env (Variable.Standard v) = is_some (env.answers.text v)
has_variable env (Variable.Number number.CitationNumber) = true
has_variable env (Variable.Number number.Locator) = is_some env.cite.locator
has_variable env (Variable.Number number.FirstReferenceNoteNumber) =
    is_some env.cite.first_note_number
has_variable env (Variable.Number v) = is_some (env.answers.number v)

abbrev pub is_repeated : IbidState → Bool
is_repeated IbidState.Different = false
is_repeated _ = true

abbrev pub is_repeated_elsewhere : IbidState → Bool
is_repeated_elsewhere IbidState.IbidWithLocator = true
is_repeated_elsewhere _ = false

abbrev pub is_at : ReadProperties → TestPosition → Bool
is_at cite TestPosition.First = cite.is_first
is_at cite TestPosition.Subsequent = not cite.is_first
is_at cite TestPosition.Ibid = is_repeated cite.ibid
is_at cite TestPosition.IbidWithLocator = is_repeated_elsewhere cite.ibid
is_at cite TestPosition.NearNote = cite.is_near_note

abbrev pub holds : Env → Condition → Bool
holds env Condition.Disambiguate = is_chosen env.cite.state env.cite.means
holds env (Condition.Position p) = is_at env.cite p
holds env (Condition.Variable v) = has_variable env v

-- whether a branch's test holds
abbrev pub passes : Env → ChooseMatch → List Condition → Bool
passes env ChooseMatch.Any cs = list_any (holds env) cs
passes env ChooseMatch.All cs = list_all (holds env) cs
passes env ChooseMatch.None cs = not (list_any (holds env) cs)

abbrev pub is_disambiguate : Condition → Bool
is_disambiguate Condition.Disambiguate = true
is_disambiguate _ = false

-- what is noted behind the test of a branch: each of its conditions was tested
abbrev pub tested : List Condition → Notes → Notes
tested cs n = record n {
  checked_disambiguate = n.checked_disambiguate
      || list_any is_disambiguate cs;
}
