use Rattle.std.proofs.Common.{◌≡◌, ◌++◌, length, drop, string_bytes}
use Rattle.std.specs.Str.{chars, encode_utf8_all}
use Rattle.value_sources.specs.Initials.{initials}
use Rattle.value_sources.proofs.GivenNames.{initials_left}
use Rattle.value_sources.proofs.initials.initials_of.Given as goal

abbrev pub invariant-loop-c : goal.invariant-loop-c
invariant-loop-c l =
    string_bytes l.initials ++ encode_utf8_all (initials_left l.part_begins (drop (length l.yielded) (chars l.name))) ≡ encode_utf8_all (initials (chars l.name))
