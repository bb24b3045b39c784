use Rattle.std.proofs.Common.{◌≡◌, string_bytes, vec_len}
use Rattle.write_html.specs.Text.{text_in}
use Rattle.write_html.proofs.markup.Markup.into_closed.Given as goal

abbrev pub invariant-loop-markup : goal.invariant-loop-markup
invariant-loop-markup l = text_in (string_bytes l.markup.text) ≡ text_in (string_bytes l.fn.self.text)

abbrev pub decreases-loop-markup : goal.decreases-loop-markup
decreases-loop-markup l = vec_len l.markup.tags
