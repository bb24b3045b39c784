use denote.Shadow.{shadow}
use denote.Text.{Utf8}
use Rattle.std.proofs.Common.{length, ◌≤◌}
use Rattle.style_xml.proofs.text.push_section.Given as goal

abbrev pub invariant-lines : goal.invariant-lines
invariant-lines l = record { within : length l.rest ≤ length l.fn.inside; utf8 : shadow (Utf8 l.rest) }

abbrev pub decreases-lines : goal.decreases-lines
decreases-lines l = length l.rest
