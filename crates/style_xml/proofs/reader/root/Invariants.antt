use denote.Shadow.{shadow}
use denote.Text.{Utf8}
use Rattle.std.proofs.Common.{length, ◌≡◌, ◌≤◌}
use Rattle.style_xml.proofs.reader.root.Given as goal

abbrev pub invariant-markup : goal.invariant-markup
invariant-markup l = record {
  within : length l.rest ≤ length l.fn.text;
  source : l.nest.source ≡ l.fn.source;
  utf8 : shadow (Utf8 l.rest);
}

abbrev pub decreases-markup : goal.decreases-markup
decreases-markup l = length l.rest
