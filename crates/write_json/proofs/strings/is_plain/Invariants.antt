-- The bytes up to now stand for themselves.
use Rattle.std.proofs.Common.{◌≡◌, take}
use Rattle.json.specs.Print.{escape}
use Rattle.write_json.proofs.strings.is_plain.Given as goal

abbrev pub invariant-loop-byte : goal.invariant-loop-byte
invariant-loop-byte l = escape (take l.byte-index l.byte-items) ≡ take l.byte-index l.byte-items
