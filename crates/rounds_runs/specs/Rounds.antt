-- The states of entries, and cites that are rendered again with them.
use Rattle.std.specs.Prelude.{Bool, List, [], ◌∷◌, map, filter, flat_map, Option, Some, None, unwrap_or}
use Rattle.std.specs.Option.{option_or}
use Rattle.driver_lookup.specs.Properties.{Properties}
use Rattle.driver_lookup.specs.declared.state.DisambiguateState.{DisambiguateState}
use Rattle.driver_passes.specs.Renders.{CiteRender, ItemRender}
use Rattle.driver_passes.specs.Request.{Request, source_of}
use Rattle.driver_writers.specs.Tasks.{CiteTaskValue, TaskValue, cite_task}
use Rattle.driver_writers.specs.Writing.{Writing}
use Rattle.rounds_runs.specs.RoundMarks.{Mark, cites_entry, greatest_state, round_marks}
use Rattle.rounds_runs.specs.declared.mode.RoundMode.{RoundMode}

-- by what means entries are disambiguated; for most there is none
abbrev pub StateTable : Type 0 → Type 0
StateTable E = E → Option DisambiguateState

abbrev pub no_states : {E : Type 0} → StateTable E
no_states e = None

-- by what means an entry with this state, or with none, is disambiguated
abbrev pub told_by : Option DisambiguateState → DisambiguateState
told_by state = unwrap_or state DisambiguateState.None

-- the table with marks: an entry that has one gets it, the others keep theirs
abbrev pub with_marks : {E : Type 0} → StateTable E → StateTable E → StateTable E
with_marks marks table e = option_or (marks e) (table e)

abbrev pub with_state : {P : Type 0} → DisambiguateState → Properties P → Properties P
with_state s p = record p { speculative = record p.speculative { disambiguation = s } }

module _ {E P : Type 0} where
  -- the entries that cites cite, in their order
  abbrev pub entries_cited : List (CiteRender E P) → List E
  entries_cited cites = flat_map (λ c. map (λ i. i.entry) c.items) cites

  -- the greatest of the marks of cites of e
  abbrev pub mark_of : (E → E → Bool) → List (CiteRender E P) → List Mark → StateTable E
  mark_of eq cites marks e =
      greatest_state (map (λ m. m.1) (filter (λ m. cites_entry eq cites e m.0) marks))

  -- what a round marks that begins with these cites
  abbrev pub marked_by : RoundMode → (E → E → Bool) → Writing E P → List (CiteRender E P)
      → StateTable E
  marked_by mode eq writing cites = mark_of eq cites (round_marks mode eq writing.answers cites)

  -- what is asked for where a cite is rendered again with this state of its entry; what else is
  -- known of it stays
  abbrev pub again_task : Request E P → DisambiguateState → ItemRender E P → CiteTaskValue E P
  again_task request s i = record {
    source = source_of request;
    entry = i.entry;
    properties = with_state s i.properties;
    purpose = i.purpose;
    verdict = None;
    place = None;
  }

  -- where there is a state
  abbrev pub tasks_with : Request E P → Option DisambiguateState → ItemRender E P
      → List (TaskValue E P)
  tasks_with request None i = []
  tasks_with request (Some s) i = cite_task (again_task request s i) ∷ []

  -- for the cites whose entries the table has states for
  abbrev pub again_tasks_of : StateTable E → CiteRender E P → List (TaskValue E P)
  again_tasks_of table c = flat_map (λ i. tasks_with c.request (table i.entry) i) c.items

  abbrev pub again_tasks : StateTable E → List (CiteRender E P) → List (TaskValue E P)
  again_tasks table cites = flat_map (again_tasks_of table) cites

  module _ (writing : Writing E P) where
    -- the cite rendered again
    abbrev pub rendered_again : Request E P → DisambiguateState → ItemRender E P → ItemRender E P
    rendered_again request s i = record i {
      properties = with_state s i.properties;
      rendered = (writing.cite (again_task request s i)).children;
    }

    -- rendered again where there is a state
    abbrev pub with_any : Request E P → Option DisambiguateState → ItemRender E P → ItemRender E P
    with_any request None i = i
    with_any request (Some s) i = rendered_again request s i

    abbrev pub request_at : StateTable E → CiteRender E P → CiteRender E P
    request_at table c = record
        c { items = map (λ i. with_any c.request (table i.entry) i) c.items }

    -- the cites whose entries the table has states for, rendered again with these; the others stay
    abbrev pub at_table : StateTable E → List (CiteRender E P) → List (CiteRender E P)
    at_table table = map (request_at table)
