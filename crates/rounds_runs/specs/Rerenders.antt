-- What the rounds render again, and the states that they give.
use Rattle.std.specs.Prelude.{◌≡◌, ℕ, ◌<◌, Bool, List, Option, None, filter, is_some, length, slice_index_or}
use Rattle.std.specs.List.{sum_by}
use Rattle.driver_entries.specs.Entries.{place}
use Rattle.driver_lookup.specs.declared.state.DisambiguateState.{DisambiguateState}
use Rattle.rounds_runs.specs.Rounds.{StateTable}

module _ {E : Type 0} where
  -- how many of these cited entries the table has states for
  abbrev pub marked_among : List E → StateTable E → ℕ
  marked_among cited table = length (filter (λ e. is_some (table e)) cited)

  -- how often cites of these entries are rendered again, where each of the tables marks once
  abbrev pub rerenders : List E → List (StateTable E) → ℕ
  rerenders cited = sum_by (marked_among cited)

  -- by the places of entries, the states that a table has for them
  pub record AreStatesOf (eq : E → E
      → Bool) (entries : List E) (table : StateTable E)
      (states : List (Option DisambiguateState)) : Type 0 where
    pub long : length states ≡ length entries
    pub at : (e : E) → place eq e entries < length entries
        → slice_index_or states (place eq e entries) None ≡ table e
