-- What holds after the rounds.
use Rattle.std.specs.Prelude.{◌≡◌, ℕ, ◌-◌, ◌^◌, Bool, false, List, Option, min}
use Rattle.driver_lookup.specs.declared.state.DisambiguateState.{DisambiguateState}
use Rattle.driver_passes.specs.Renders.{CiteRender}
use Rattle.rounds_runs.specs.Rerenders.{AreStatesOf}
use Rattle.rounds_runs.specs.RoundMarks.{has_any}
use Rattle.rounds_runs.specs.Tables.{disambiguated, last_states, marks_at, round_tasks, rounds}
use Rattle.rounds_runs.specs.declared.mode.RoundMode.{RoundMode}
use Rattle.driver_writers.specs.Desk.{Desk, after}
use Rattle.driver_writers.specs.Writing.{Writing}

-- so many rounds marked these first renders, and the entries have these states now; of the desk
-- what it was before and what it is behind
pub record AreAfterRounds {E P N : Type 0} (mode : RoundMode) (eq : E → E → Bool)
    (writing : Writing E P)
    (firsts : List (CiteRender E P)) (entries : List E) (before : Desk E P N)
    (now : List (CiteRender E P)) (states : List (Option DisambiguateState)) (marked : ℕ)
    (behind : Desk E P N) : Type 0 where
  pub cites : now ≡ disambiguated mode eq writing firsts
  pub states_are : AreStatesOf eq entries (last_states mode eq writing firsts) states
  pub marked_is : marked ≡ min (rounds mode eq writing firsts) (2 ^ 128 - 1)
  pub asked : behind ≡ after (round_tasks mode eq writing firsts) before
  -- in mode full they came to an end: at the last table nothing marks
  pub ended : mode ≡ RoundMode.Full
      → has_any (marks_at mode eq writing firsts (last_states mode eq writing firsts)) ≡ false
