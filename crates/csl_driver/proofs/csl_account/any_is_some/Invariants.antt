use Rattle.std.proofs.Common.{◌≡◌, drop}
use Rattle.std.specs.List.{list_any}
use Rattle.std.specs.Prelude.{is_some}
use Rattle.csl_driver.proofs.csl_account.any_is_some.Given as goal

abbrev pub invariant-loop-suffix : goal.invariant-loop-suffix
invariant-loop-suffix l = list_any is_some l.suffixes ≡ list_any is_some (drop l.suffix-index l.suffixes)
