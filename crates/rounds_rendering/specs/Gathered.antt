-- For the code: marks gathered group by group, and put in by the places of entries.
use Rattle.std.specs.Prelude.{◌≡◌, ◌<◌, ◌||◌, ℕ, Bool, true, false, List, [], ◌++◌, Option, Some, None, filter, length, map, nat_eq, nat_lt, slice_get, slice_index_or, if◌then◌else◌}
use Rattle.std.specs.List.{enumerate_from, flat_map, list_any}
use Rattle.std.specs.Option.{option_and_then, option_map_or, option_or}
use Rattle.driver_lookup.specs.Properties.{Properties}
use Rattle.driver_lookup.specs.States.{greater}
use Rattle.driver_lookup.specs.declared.purpose.CitePurpose.{CitePurpose}
use Rattle.driver_lookup.specs.declared.state.DisambiguateState.{DisambiguateState}
use Rattle.rounds_names.specs.NameMarks.{name_marks}
use Rattle.driver_passes.specs.ByPlaces.{by_places}
use Rattle.driver_passes.specs.Renders.{CiteRender, ItemRender, Place}
use Rattle.driver_passes.specs.Request.{Request, source_of}
use Rattle.rounds_runs.specs.RoundMarks.{Mark, all_ways, by_choice, by_suffix, greatest_state, or_others, waits, ways}
use Rattle.rounds_runs.specs.Rounds.{tasks_with, with_any}
use Rattle.rounds_runs.specs.declared.mode.RoundMode.{RoundMode}
use Rattle.driver_writers.specs.Tasks.{CiteTaskValue, TaskValue}
use Rattle.driver_writers.specs.Writing.{Writing}

-- a round may follow so many that marked
abbrev pub has_round_left : RoundMode → ℕ → Bool
has_round_left RoundMode.Three marked = nat_lt marked 3
has_round_left RoundMode.Full marked = true

module _ {E P : Type 0} (eq : E → E → Bool) (dated : Bool) (cites : List (CiteRender E P)) where
  -- the marks of the groups so far, and those of one more
  abbrev pub with_group : List Mark → List Place → List Mark
  with_group marks group =
      or_others (or_others (marks ++ name_marks cites group) (by_choice eq cites group))
      (by_suffix eq cites dated group)

  -- the marks of a group that count, in the first way that gives any
  abbrev pub counting_ways : List Place → List Mark
  counting_ways =
      let w = ways eq cites dated RoundMode.Full in
      all_ways w.by_names w.by_choice w.by_suffix

  -- in mode full: the marks so far, and those of a group that doesn't wait
  abbrev pub with_counting : List Mark → List Place → List Mark
  with_counting marks group = marks
      ++ (if waits eq cites marks group then [] else counting_ways group)

-- the greater of a mark and the state before it
abbrev pub with_greater : Option DisambiguateState → DisambiguateState → Option DisambiguateState
with_greater None mark = Some mark
with_greater (Some before) mark = Some (greater before mark)

-- the place of the entry that is cited at a place, if a cite stands there
abbrev pub entry_place : List (List ℕ) → Place → Option ℕ
entry_place places at = option_and_then (λ row. slice_get row at.1) (slice_get places at.0)

-- a cite of the entry at p stands there
abbrev pub is_of : List (List ℕ) → ℕ → Place → Bool
is_of places p at = option_map_or (λ n. nat_eq n p) (entry_place places at) false

-- the entry at a place is marked, if there is one
abbrev pub is_marked : List Bool → Option ℕ → Bool
is_marked marked place = option_map_or (λ p. slice_index_or marked p false) place false

-- the greatest of the marks of the entry at p
abbrev pub greatest_at : List (List ℕ) → List Mark → ℕ → Option DisambiguateState
greatest_at places marks p =
    greatest_state (map (λ m. m.1) (filter (λ m. is_of places p m.0) marks))

-- a list of such states
pub record AreGreatest (places : List (List ℕ)) (marks : List Mark) (count : ℕ)
    (states : List (Option DisambiguateState)) : Type 0 where
  pub long : length states ≡ count
  pub at : (p : ℕ) → p < count → slice_index_or states p None ≡ greatest_at places marks p

-- of the entries by their places, those that were marked before are, and those of these marks
abbrev pub AreMarked : List (List ℕ) → List Mark → List Bool → List Bool → Type 0
AreMarked places marks old new =
    (p : ℕ) → p < length old → slice_index_or new p false
    ≡ (slice_index_or old p false || list_any (λ m. is_of places p m.0) marks)

-- states before those that were there
abbrev pub put_before : List (Option DisambiguateState) → List (Option DisambiguateState)
    → List (Option DisambiguateState)
put_before states = by_places (λ p. option_or (slice_index_or states p None))

-- the state that the entry of the k-th cite of a request has, by the places of their entries
abbrev pub state_at : List (Option DisambiguateState) → List ℕ → ℕ → Option DisambiguateState
state_at states places k = option_and_then (λ p. slice_index_or states p None) (slice_get places k)

module _ {E P : Type 0} where
  -- what is asked for where a cite is rendered to be compared: for its purpose and by these
  -- properties
  abbrev pub compared_task : Request E P → E → Properties P → Option CitePurpose → CiteTaskValue E P
  compared_task request entry properties purpose = record {
    source = source_of request;
    entry = entry;
    properties = properties;
    purpose = purpose;
    verdict = None;
    place = None;
  }

module _ {E P : Type 0} (states : List (Option DisambiguateState)) where
  -- what is asked for where the cites are rendered again whose entries have states
  abbrev pub request_tasks : Request E P → List ℕ → List (ItemRender E P) → List (TaskValue E P)
  request_tasks request places items =
      flat_map (λ p. tasks_with request (state_at states places p.0) p.1) (enumerate_from 0 items)

  abbrev pub document_tasks : List (List ℕ) → List (CiteRender E P) → List (TaskValue E P)
  document_tasks places cites = flat_map
      (λ p. request_tasks p.1.request (slice_index_or places p.0 []) p.1.items)
      (enumerate_from 0 cites)

  module _ (writing : Writing E P) where
    -- the k-th cite of a request, rendered again where its entry has a state
    abbrev pub cite_again : Request E P → List ℕ → ℕ → ItemRender E P → ItemRender E P
    cite_again request places k = with_any writing request (state_at states places k)

    abbrev pub request_again : List ℕ → CiteRender E P → CiteRender E P
    request_again places c = record c { items = by_places (cite_again c.request places) c.items }

    abbrev pub document_again : List (List ℕ) → List (CiteRender E P) → List (CiteRender E P)
    document_again places = by_places (λ r. request_again (slice_index_or places r []))
