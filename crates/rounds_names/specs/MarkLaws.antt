-- What each name mark is, whatever the group.
use Rattle.std.specs.Prelude.{◌≡◌, true, All, Contains, List, Some}
use Rattle.driver_lookup.specs.GoingOn.{GoesOnTo}
use Rattle.driver_lookup.specs.States.{may_get_names}
use Rattle.driver_lookup.specs.declared.state.DisambiguateState.{DisambiguateState}
use Rattle.driver_passes.specs.Places.{cite_at}
use Rattle.driver_passes.specs.Renders.{CiteRender, ItemRender, Place}
use Rattle.driver_passes.specs.Request.{Request}
use Rattle.rounds_names.specs.NameMarks.{name_marks}

module _ {E P : Type 0} where
  -- the mark stands at a place of the group, at a cite without a state or in a state of names,
  -- which goes on to the mark
  pub record IsNameMark (cites : List (CiteRender E P)) (group : List Place) (mark : Place
      × DisambiguateState) : Type 0 where
    pub in_group : Contains group mark.0
    pub cite : Request E P × ItemRender E P
    pub stands_there : cite_at cites mark.0 ≡ Some cite
    pub may_be_named : may_get_names cite.1.properties.speculative.disambiguation ≡ true
    pub goes_on : GoesOnTo cite.1.properties.speculative.disambiguation mark.1

  -- so is each name mark of a group
  abbrev pub NameMarksGoOn : List (CiteRender E P) → List Place → Type 0
  NameMarksGoOn cites group = All (IsNameMark cites group) (name_marks cites group)
