use Rattle.std.proofs.Common.{◌≡◌, drop}
use Rattle.std.specs.List.{list_any}
use Rattle.mentions_table_laws.specs.TellingLaws.{has_names}
use Rattle.csl_driver.proofs.csl_account.any_has_names.Given as goal

abbrev pub invariant-loop-state : goal.invariant-loop-state
invariant-loop-state l = list_any has_names l.states ≡ list_any has_names (drop l.state-index l.states)
