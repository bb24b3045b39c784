-- Choose marks: the cites of an ambiguous group for whose entries `disambiguate` is made to hold.
use Rattle.std.specs.Prelude.{Bool, not, ◌&&◌, List, [], map, filter, find, None, Some, if◌then◌else◌}
use Rattle.std.specs.List.{list_any}
use Rattle.driver_lookup.specs.States.{may_get_names}
use Rattle.driver_lookup.specs.declared.state.DisambiguateState.{DisambiguateState}
use Rattle.driver_lookup.specs.declared.state.DisambiguateState.TheVariants.{Choose}
use Rattle.driver_passes.specs.Renders.{Place}
use Rattle.rounds_ambiguity.specs.Members.{Member, entry_of, state_of}

module _ {E P : Type 0} where
  -- the cite tested `disambiguate` when it was rendered first
  abbrev pub asks : Member E P → Bool
  asks m = m.item.checked_disambiguate

  -- some cite that asks is in no state or in that of names
  abbrev pub may_be_chosen : List (Member E P) → Bool
  may_be_chosen cites = list_any (λ m. asks m && may_get_names (state_of m)) cites

  module _ (eq : E → E → Bool) where
    -- the cites that ask and cite another entry than the first that asks
    abbrev pub chosen : List (Member E P) → List (Member E P)
    chosen cites = elim (find asks cites) [
      | None ↦ []
      | Some first ↦ filter (λ m. asks m && not (eq (entry_of first) (entry_of m))) cites
    ]

    -- the marks of a group of cites, in their order
    abbrev pub choose_marks : List (Member E P) → List (Place × DisambiguateState)
    choose_marks cites = if may_be_chosen cites
        then map (λ m. (m.place, Choose)) (chosen cites) else []
