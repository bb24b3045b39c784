use denote.Shadow.{shadow}
use denote.Text.{Utf8}
use Rattle.std.proofs.Common.{length, ◌≤◌}
use Rattle.style_xml.proofs.scan.skip_remarks.Given as goal

abbrev pub invariant-remarks : goal.invariant-remarks
invariant-remarks l = record { within : length l.rest ≤ length l.fn.text; utf8 : shadow (Utf8 l.rest) }

abbrev pub decreases-remarks : goal.decreases-remarks
decreases-remarks l = length l.rest
