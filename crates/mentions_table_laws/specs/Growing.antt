-- States grow from table to table.
use Rattle.std.specs.Prelude.{◌≡◌, ◌<◌, ◌≤◌, ⊤, All, Any, true, IfSome, List, None, Option, Some, map}
use Rattle.std.specs.List.{AllZip, zip}
use Rattle.value_sources.specs.Forms.{Forms}
use Rattle.value_sources.specs.Ordered.{extent}
use Rattle.value_sources.specs.declared.names.NameDisambiguationProperties.{NameDisambiguationProperties}
use Rattle.mentions_names.specs.Persons.{own_forms}
use Rattle.mentions_groups.specs.declared.state.MentionState.{MentionState}
use Rattle.mentions_groups.specs.declared.written.Written.{Written}
use Rattle.mentions_tables.specs.Asked.{untold}
use Rattle.mentions_tables.specs.Tables.{first_table}
use Rattle.mentions_tables.specs.declared.subject.Subject.{Subject}

-- these are as long, and each form stays or rises
abbrev pub FormsRise : Forms → Forms → Type 0
FormsRise = AllZip (λ before after. extent before ≤ extent after)

-- names stay or rise: none are below any
abbrev pub NamesRise : Option NameDisambiguationProperties → Option NameDisambiguationProperties
    → Type 0
NamesRise None after = ⊤
NamesRise (Some before) None = ⊥
NamesRise (Some before) (Some after) = FormsRise before.forms after.forms

-- each part of a state stays or rises
pub record StateRises (before after : MentionState) : Type 0 where
  pub names : NamesRise before.names after.names
  pub choice : before.chosen ≡ true → after.chosen ≡ true

-- forms as long as these, nowhere below them and somewhere above
pub record AreFuller (own forms : Forms) : Type 0 where
  pub nowhere_below : FormsRise own forms
  pub somewhere_above : Any (λ p. extent p.0 < extent p.1) (zip own forms)

module _ {M : Type 0} (write : M → MentionState → Written) (subjects : List (Subject M)) where
  -- the forms of its names are fuller than its style's own, if it has other ones
  abbrev pub HasFullerNames : Subject M × MentionState → Type 0
  HasFullerNames p = IfSome p.1.names
      (λ names. AreFuller (own_forms (write p.0.mention untold).names) names.forms)

  -- from the first table to that with names, and from there to the states in the end
  pub record StatesGrow (named states : List MentionState) : Type 0 where
    pub first_step : AllZip StateRises (first_table subjects) named
    pub second_step : AllZip StateRises named states
    -- choices change in the second step alone, names in the first
    pub choices_stay : map (λ s. s.chosen) named ≡ map (λ s. s.chosen) (first_table subjects)
    pub names_stay : map (λ s. s.names) states ≡ map (λ s. s.names) named
    pub fuller : All HasFullerNames (zip subjects states)
