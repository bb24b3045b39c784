-- The characters of a key are escaped one after another.
use Rattle.std.proofs.Common.{◌≡◌, ◌++◌, length, drop, string_bytes}
use Rattle.std.specs.List.{flat_map}
use Rattle.std.specs.Str.{chars}
use Rattle.document_answer.specs.FaultText.{escaped}
use Rattle.document_answer.proofs.faults.push_key.Given as goal

-- what is written, and what the characters left will add, are the whole
abbrev pub invariant-loop-c : goal.invariant-loop-c
invariant-loop-c l = string_bytes l.text ++ flat_map escaped (drop (length l.yielded) (chars l.key)) ≡ string_bytes l.initial.text ++ flat_map escaped (chars l.key)
