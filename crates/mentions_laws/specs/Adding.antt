-- Names are added only as styles say: that of the mention which leads a group says what is added
-- for the group, and a mention's own style what is added by the document.
use Rattle.std.specs.Prelude.{◌≡◌, ℕ, All, Bool, true, false, List, Option, Some, map, slice_get}
use Rattle.std.specs.List.{zip}
use Rattle.std.specs.Option.{option_map_or}
use Rattle.value_sources.specs.declared.names.DisambiguatedNameForm.{DisambiguatedNameForm}
use Rattle.value_sources.specs.declared.names.NameDisambiguationProperties.{NameDisambiguationProperties}
use Rattle.mentions_names.specs.ByDocument.{document_form}
use Rattle.mentions_names.specs.Forms.{base, only_counts, written}
use Rattle.mentions_names.specs.Persons.{own_forms}
use Rattle.mentions_names.specs.Reaches.{first_member, is_by_cite}
use Rattle.mentions_names.specs.declared.mention.MentionedName.{MentionedName}
use Rattle.mentions_names.specs.declared.mention.NamedMention.{NamedMention}
use Rattle.mentions_groups.specs.declared.state.MentionState.{MentionState}
use Rattle.mentions_groups.specs.declared.written.Written.{Written}
use Rattle.mentions_tables.specs.Tables.{named}
use Rattle.mentions_tables.specs.declared.subject.Subject.{Subject}
use Rattle.mentions_table_laws.specs.Shown.{forms_in}

module _ (mentions : List NamedMention) (m : NamedMention) where
  -- the style of the mention that leads its group adds names; or given names cite by cite
  abbrev pub group_adds_names : Bool
  group_adds_names = option_map_or (λ f. f.adds_names) (first_member mentions m) false

  abbrev pub group_adds_given_names : Bool
  group_adds_given_names = option_map_or (λ f. is_by_cite f.rule) (first_member mentions m) false

  module _ (names : Option NameDisambiguationProperties) where
    -- the i-th of its names has this form
    pub record HasForm (i : ℕ) (name : MentionedName) (form : DisambiguatedNameForm) : Type 0 where
      pub is_name : slice_get m.names i ≡ Some name
      pub is_form : slice_get (forms_in (own_forms m.names) names) i ≡ Some form

    pub record AddsAsStylesSay : Type 0 where
      -- a name that its own style leaves out stays left out, if its group's adds no names
      pub no_names : group_adds_names ≡ false
          → (i : ℕ) (name : MentionedName) (form : DisambiguatedNameForm) → HasForm i name form
          → only_counts name.own ≡ true → only_counts form ≡ true
      -- one that is shown has the form that its own style writes, if its group's adds no given
      -- names cite by cite, and its own none in all cites of the document
      pub no_given_names : group_adds_given_names ≡ false
          → (i : ℕ) (name : MentionedName) (form : DisambiguatedNameForm) → HasForm i name form
          → document_form mentions m.rule i name ≡ DisambiguatedNameForm.Short
          → only_counts form ≡ false → form ≡ written (base (own_forms m.names)) name.own

-- of all mentions, in these states
abbrev pub NamesAreAsStylesSay : {M : Type 0} → (M → MentionState → Written) → List (Subject M)
    → List MentionState → Type 0
NamesAreAsStylesSay write subjects states = All
    (λ p. AddsAsStylesSay (map (named write subjects) subjects) (named write subjects p.0)
    p.1.names)
    (zip subjects states)
