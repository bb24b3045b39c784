use Rattle.std.proofs.Common.{◌≡◌, ◌++◌, length, drop, encode_utf8}
use Rattle.std.specs.List.{flat_map}
use Rattle.std.specs.Str.{chars}
use Rattle.value_sources.specs.Initials.{initials}
use Rattle.value_sources.proofs.GivenNames.{initials_left}
use Rattle.layout_picking.proofs.name_text.ended_initials.Given as goal

abbrev pub invariant-loop-c : goal.invariant-loop-c
invariant-loop-c l =
    l.initials ++ flat_map (λ c. encode_utf8 c ++ l.end) (initials_left l.part_begins (drop (length l.yielded) (chars l.given))) ≡ flat_map (λ c. encode_utf8 c ++ l.end) (initials (chars l.given))
