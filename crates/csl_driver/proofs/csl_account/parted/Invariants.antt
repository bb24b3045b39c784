use Rattle.std.proofs.Common.{◌≡◌, true, false}
use Rattle.csl_driver.specs.CslAccount.{every_second}
use Rattle.csl_driver.proofs.CslAccounting.{next_taken}
use Rattle.csl_driver.proofs.csl_account.parted.Given as goal

abbrev pub invariant-loop-state : goal.invariant-loop-state
invariant-loop-state l = record {
  first : l.first.items ≡ every_second true l.yielded;
  later : l.later.items ≡ every_second false l.yielded;
  turn : l.is_first ≡ next_taken true l.yielded;
}
