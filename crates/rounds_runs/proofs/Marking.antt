-- Each round that is counted marks, and in mode three there are three at most.
use Rattle.std.proofs.Common.{◌≡◌, ◌+◌, ◌-◌, ◌≤◌, Bool, true, List, length, ap, subst, arith}
use Rattle.std.specs.Prelude.{⊤}
use Rattle.std.specs.List.{AllAdjacentBelow}
use Rattle.driver_writers.specs.Writing.{Writing}
use Rattle.driver_passes.specs.Renders.{CiteRender}
use Rattle.rounds_runs.specs.Rounds.{StateTable, no_states}
use Rattle.rounds_runs.specs.RunLaws.{RoundsMark}
use Rattle.rounds_runs.specs.Tables.{most_rounds, tables}
use Rattle.rounds_runs.specs.declared.mode.RoundMode.{RoundMode}
use Rattle.rounds_runs.proofs.GoneOn.{are-steps, goes_on, next}
use Rattle.rounds_runs.proofs.Runs.{run-neighbours, run-within}

module _ {E P : Type 0} (mode : RoundMode) (eq : E → E → Bool) (writing : Writing E P) (firsts : List (CiteRender E P)) where
  abbrev goes : StateTable E → Bool
  goes = goes_on mode eq writing firsts

  abbrev after : StateTable E → StateTable E
  after = next mode eq writing firsts

  abbrev Marks : StateTable E → StateTable E → Type 0
  Marks t later = goes t ≡ true

  within : length (tables mode eq writing firsts) ≤ most_rounds mode eq firsts + 1
  within =
      subst (λ ts. length ts ≤ most_rounds mode eq firsts + 1) (are-steps mode eq writing firsts) (run-within goes after (most_rounds mode eq firsts) no_states)

  at-most : mode ≡ RoundMode.Three → length (tables mode eq writing firsts) - 1 ≤ 3
  at-most three =
      let most : most_rounds mode eq firsts ≡ 3 = ap (λ m. most_rounds m eq firsts) three in
      omega (arith, within, most)

  pub rounds-mark : RoundsMark mode eq writing firsts (tables mode eq writing firsts)
  rounds-mark = record {
    each_marks = subst (λ ts. AllAdjacentBelow Marks ts (length ts)) (are-steps mode eq writing firsts)
        (run-neighbours goes after (λ t. ⊤) (λ t i go. tt) Marks (λ t i go. go) (most_rounds mode eq firsts) no_states tt);
    three_at_most = at-most;
  }
