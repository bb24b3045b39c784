use Rattle.std.proofs.Common.{◌≡◌, drop}
use Rattle.std.specs.List.{list_any}
use Rattle.csl_driver.proofs.csl_account.any_is_chosen.Given as goal

abbrev pub invariant-loop-state : goal.invariant-loop-state
invariant-loop-state l = list_any (λ s. s.chosen) l.states ≡ list_any (λ s. s.chosen) (drop l.state-index l.states)
