use Rattle.std.proofs.Common.{◌≡◌, string_bytes, true}
use Rattle.std.specs.List.{list_all}
use Rattle.write_html.specs.Address.{is_of_value}
use Rattle.write_html.proofs.addresses.escaped.Given as goal

abbrev pub invariant-loop-c : goal.invariant-loop-c
invariant-loop-c l = list_all is_of_value (string_bytes l.value) ≡ true
