use denote.Shadow.{shadow}
use denote.Text.{Utf8}
use Rattle.std.proofs.Common.{length, ◌≤◌}
use Rattle.style_xml.proofs.text.value.Given as goal

abbrev pub invariant-pieces : goal.invariant-pieces
invariant-pieces l = record { within : length l.rest ≤ length l.fn.text; utf8 : shadow (Utf8 l.rest) }

abbrev pub decreases-pieces : goal.decreases-pieces
decreases-pieces l = length l.rest
