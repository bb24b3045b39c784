use Rattle.std.proofs.Common.{◌≡◌, ◌+◌, ◌≤◌, take}
use Rattle.style_xml.specs.Newlines.{newline_count}
use Rattle.style_xml.proofs.error.place_in.Given as goal

abbrev pub invariant-loop-byte : goal.invariant-loop-byte
invariant-loop-byte l = record {
  line : l.place.line ≡ newline_count (take l.byte-index l.byte-items) + 1;
  column : l.place.column ≤ l.byte-index + 1;
}
