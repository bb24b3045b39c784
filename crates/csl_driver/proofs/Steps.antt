-- The steps of an answer, as a writer is asked for them.
use Rattle.std.proofs.Common.{◌≡◌, ℕ, Bool, List, ◌++◌, Option, subst, ◌∙◌}
use Rattle.value_sources.specs.Answers.{Answers}
use Rattle.driver_lookup.specs.declared.state.DisambiguateState.{DisambiguateState}
use Rattle.driver_passes.specs.Renders.{CiteRender}
use Rattle.rounds_runs.specs.declared.mode.RoundMode.{RoundMode}
use Rattle.rounds_rendering.specs.AfterRounds.{AreAfterRounds}
use Rattle.driver_writers.specs.Desk.{Desk, after}
use Rattle.driver_writers.specs.Tasks.{TaskValue}
use Rattle.driver_writers.specs.Writing.{writing_of}
use Rattle.driver_writers.proofs.TasksDone.{after-then, writes-same}

module _ {E P N : Type 0} (answers : E → Answers) where
  -- what holds after the rounds, by what the writer wrote from the start
  pub rounds-same : (mode : RoundMode) (eq : E → E → Bool) (tasks : List (TaskValue E P)) (old begun : Desk E P N) → begun ≡ after tasks old
      → {firsts : List (CiteRender E P)} {entries : List E} {now : List (CiteRender E P)} {states : List (Option DisambiguateState)} {marked : ℕ} {behind : Desk E P N}
      → AreAfterRounds mode eq (writing_of answers begun.writer) firsts entries begun now states marked behind
      → AreAfterRounds mode eq (writing_of answers old.writer) firsts entries begun now states marked behind
  rounds-same mode eq tasks old begun e {firsts} {entries} {now} {states} {marked} {behind} h =
      subst (λ w. AreAfterRounds mode eq w firsts entries begun now states marked behind) (writes-same answers tasks old begun e) h

  module _ (first again listed last : List (TaskValue E P)) (start begun told written end : Desk E P N)
      (first_is : begun ≡ after first start) (again_is : told ≡ after again begun) (listed_is : written ≡ after listed told) (last_is : end ≡ after last written) where
    -- all that is asked for
    pub all-steps : end ≡ after (first ++ (again ++ (listed ++ last))) start
    all-steps =
        after-then first (again ++ (listed ++ last)) start begun end first_is
        (after-then again (listed ++ last) begun told end again_is (after-then listed last told written end listed_is last_is))

    -- the writer writes the same at each step
    pub same-told : writing_of answers told.writer ≡ writing_of answers start.writer
    same-told = writes-same answers again begun told again_is ∙ writes-same answers first start begun first_is

    pub same-written : writing_of answers written.writer ≡ writing_of answers start.writer
    same-written = writes-same answers listed told written listed_is ∙ same-told
