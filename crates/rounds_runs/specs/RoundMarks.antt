-- The marks of a round: states by which entries are disambiguated from now on, at the places of
-- cites.
use Rattle.std.specs.Prelude.{◌≡◌, Bool, true, false, List, [], ◌∷◌, ◌++◌, Option, Some, None, filter, fold, if◌then◌else◌, map}
use Rattle.std.specs.List.{flat_map, list_any}
use Rattle.std.specs.Option.{option_map_or}
use Rattle.std.specs.Ordering.{is_lt}
use Rattle.rounds_ambiguity.specs.Ambiguity.{ambiguous_groups}
use Rattle.rounds_ambiguity.specs.ChooseMarks.{choose_marks}
use Rattle.rounds_ambiguity.specs.Members.{entry_of, member_at, members, state_of}
use Rattle.rounds_ambiguity.specs.SuffixMarks.{shows_dates, year_suffix_marks}
use Rattle.value_sources.specs.Answers.{Answers}
use Rattle.driver_lookup.specs.States.{greater, state_cmp}
use Rattle.driver_lookup.specs.declared.state.DisambiguateState.{DisambiguateState}
use Rattle.rounds_names.specs.NameMarks.{name_marks}
use Rattle.driver_passes.specs.Renders.{CiteRender, Place}
use Rattle.rounds_runs.specs.declared.mode.RoundMode.{RoundMode}

-- a state, at the place of a cite of the entry that gets it
abbrev pub Mark : Type 0
Mark = Place × DisambiguateState

-- there is a member
abbrev pub has_any : {X : Type 0} → List X → Bool
has_any [] = false
has_any (x ∷ xs) = true

-- these, or the others where there are none
abbrev pub or_others : {X : Type 0} → List X → List X → List X
or_others xs ys = if has_any xs then xs else ys

-- the greatest of some states; none of none
abbrev pub greatest_state : List DisambiguateState → Option DisambiguateState
greatest_state [] = None
greatest_state (s ∷ ss) = Some (fold greater s ss)

-- the ways in which a group can be marked
pub record Ways : Type 0 where
  pub by_names : List Place → List Mark
  pub by_choice : List Place → List Mark
  pub by_suffix : List Place → List Mark

-- in none of these ways the group gets a mark
pub record CannotBeMarked (ways : Ways) (group : List Place) : Type 0 where
  pub not_by_names : ways.by_names group ≡ []
  pub not_by_choice : ways.by_choice group ≡ []
  pub not_by_suffix : ways.by_suffix group ≡ []

-- groups, each with the marks that it gets
abbrev pub MarkedGroups : Type 0
MarkedGroups = List (List Place × List Mark)

-- the marks of all of them
abbrev pub marks_of : MarkedGroups → List Mark
marks_of groups = flat_map (λ g. g.1) groups

module _ (by_names by_choice by_suffix : List Place → List Mark) where
  -- what a group gets that is tried in all ways: its marks by names; its choose marks where it has
  -- none by names; its suffixes where it has none of these either
  abbrev pub all_ways : List Place → List Mark
  all_ways group = or_others (by_names group) (or_others (by_choice group) (by_suffix group))

  -- in mode three: the first group that can be marked is the last that is tried in all ways, and
  -- those behind it get their marks by names alone
  abbrev pub by_three : List (List Place) → MarkedGroups
  by_three [] = []
  by_three (g ∷ gs) = if has_any (all_ways g) then (g, all_ways g) ∷ map (λ h. (h, by_names h)) gs
      else (g, []) ∷ by_three gs

  -- in mode full, behind groups with these marks: each group is tried in all ways, unless it waits
  abbrev pub by_full : (List Mark → List Place → Bool) → List Mark → List (List Place)
      → MarkedGroups
  by_full waits marks [] = []
  by_full waits marks (g ∷ gs) =
      let own = if waits marks g then [] else all_ways g in
      (g, own) ∷ by_full waits (marks ++ own) gs

-- a mark is greater than a state
abbrev pub raises : DisambiguateState → DisambiguateState → Bool
raises state mark = is_lt (state_cmp state mark)

module _ {E P : Type 0} (eq : E → E → Bool) (cites : List (CiteRender E P)) where
  abbrev pub by_choice : List Place → List Mark
  by_choice group = choose_marks eq (members cites group)

  abbrev pub by_suffix : Bool → List Place → List Mark
  by_suffix dated group = year_suffix_marks eq dated (members cites group)

  -- the cite at a place cites an entry equal to e
  abbrev pub cites_entry : E → Place → Bool
  cites_entry e place = option_map_or (λ m. eq e (entry_of m)) (member_at cites place) false

  -- some cite of the group cites an entry with a mark
  abbrev pub waits : List Mark → List Place → Bool
  waits marks group = list_any (λ c. list_any (λ m. cites_entry (entry_of c) m.0) marks)
      (members cites group)

module _ {E P : Type 0} (cites : List (CiteRender E P)) where
  -- the mark counts: it is greater than the state of the cite at its place
  abbrev pub counts : Mark → Bool
  counts m = option_map_or (λ c. raises (state_of c) m.1) (member_at cites m.0) false

  -- those of the marks that a group gets in some way which count
  abbrev pub counting : (List Place → List Mark) → List Place → List Mark
  counting way group = filter counts (way group)

module _ {E P : Type 0} (eq : E → E → Bool) (cites : List (CiteRender E P)) (dated : Bool) where
  -- the marks that a group gets in each way; in mode full those of them that count
  abbrev pub ways : RoundMode → Ways
  ways RoundMode.Three = record {
    by_names = name_marks cites;
    by_choice = by_choice eq cites;
    by_suffix = by_suffix eq cites dated;
  }
  ways RoundMode.Full = record {
    by_names = counting cites (name_marks cites);
    by_choice = counting cites (by_choice eq cites);
    by_suffix = counting cites (by_suffix eq cites dated);
  }

  -- the groups with the marks that they get in a round
  abbrev pub marked_groups : RoundMode → List (List Place) → MarkedGroups
  marked_groups RoundMode.Three groups =
      let w = ways RoundMode.Three in
      by_three w.by_names w.by_choice w.by_suffix groups
  marked_groups RoundMode.Full groups =
      let w = ways RoundMode.Full in
      by_full w.by_names w.by_choice w.by_suffix (waits eq cites) [] groups

module _ {E P : Type 0} (mode : RoundMode) (eq : E → E → Bool) (answers : E → Answers) where
  -- the ambiguous groups with their marks
  abbrev pub marks_by_group : List (CiteRender E P) → MarkedGroups
  marks_by_group cites =
      marked_groups eq cites (shows_dates answers cites) mode (ambiguous_groups eq cites)

  -- the marks of a round
  unfoldable pub round_marks : List (CiteRender E P) → List Mark
  round_marks cites = marks_of (marks_by_group cites)
