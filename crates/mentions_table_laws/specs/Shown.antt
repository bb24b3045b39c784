-- Names as they are shown, and that those which can tell mentions apart do.
use Rattle.std.specs.Prelude.{◌≡◌, ◌≢◌, All, AllPairs, Bool, true, List, None, Option, Some, drop, filter_map, if◌then◌else◌, map, unwrap_or, option_map}
use Rattle.std.specs.List.{list_any, zip}
use Rattle.value_sources.specs.Forms.{Forms}
use Rattle.value_sources.specs.declared.names.DisambiguatedNameForm.{DisambiguatedNameForm}
use Rattle.value_sources.specs.declared.names.NameDisambiguationProperties.{NameDisambiguationProperties}
use Rattle.mentions_names.specs.Forms.{only_counts, shown}
use Rattle.mentions_names.specs.Looks.{look}
use Rattle.mentions_names.specs.Persons.{own_forms}
use Rattle.mentions_names.specs.Reaches.{reach}
use Rattle.mentions_names.specs.Telling.{in_one_group}
use Rattle.mentions_names.specs.declared.look.Look.{Look}
use Rattle.mentions_names.specs.declared.mention.MentionedName.{MentionedName}
use Rattle.mentions_names.specs.declared.mention.NamedMention.{NamedMention}
use Rattle.mentions_groups.specs.declared.state.MentionState.{MentionState}
use Rattle.mentions_groups.specs.declared.written.Written.{Written}
use Rattle.mentions_tables.specs.Tables.{named}
use Rattle.mentions_tables.specs.declared.subject.Subject.{Subject}

-- a name in a form, if it is shown
abbrev pub shown_name : MentionedName × DisambiguatedNameForm → Option Look
shown_name p = if only_counts p.1 then None else Some (look p.1 p.0.person)

-- the forms of names in a state
abbrev pub forms_in : Forms → Option NameDisambiguationProperties → Forms
forms_in own names = unwrap_or (option_map (λ n. n.forms) names) own

-- names as these forms show them: those that are shown, and whether one is left out
abbrev pub shown_by : List MentionedName → Forms → List Look × Bool
shown_by names forms = (filter_map shown_name (zip names forms), list_any only_counts forms)

abbrev pub shown_names : List MentionedName → Option NameDisambiguationProperties → List Look × Bool
shown_names names state = shown_by names (forms_in (own_forms names) state)

-- its style leaves out none but the last names
abbrev pub ShowsLeading : Forms → Type 0
ShowsLeading own = All (λ f. only_counts f ≡ true) (drop (shown own) own)

module _ (mentions : List NamedMention) where
  -- two mentions of one group that occur, of which names can tell something else
  pub record NamesCanTell (m x : NamedMention) : Type 0 where
    pub one_group : in_one_group m.group x.group ≡ true
    pub apart : (reach mentions m).looks ≢ (reach mentions x).looks
    pub occurs : m.occurs ≡ true
    pub occurs_too : x.occurs ≡ true
    pub leading : ShowsLeading (own_forms m.names)
    pub leading_too : ShowsLeading (own_forms x.names)

module _ {M : Type 0} (write : M → MentionState → Written) (subjects : List (Subject M)) where
  -- a mention with its names as these are shown in a state
  abbrev pub names_as_shown : Subject M × MentionState → List Look × Bool
  names_as_shown p = shown_names (named write subjects p.0).names p.1.names

  -- names that can tell two mentions apart do
  abbrev pub NamesTell : List MentionState → Type 0
  NamesTell states = AllPairs (λ p q. NamesCanTell (map (named write subjects) subjects)
      (named write subjects p.0) (named write subjects q.0)
      → names_as_shown p ≢ names_as_shown q) (zip subjects states)
