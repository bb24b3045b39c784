use Rattle.std.proofs.Common.{◌≡◌, string_bytes}
use Rattle.write_html.specs.Text.{text_in}
use Rattle.write_html.proofs.markup.Markup.open_from.Given as goal

abbrev pub invariant-loop-tag : goal.invariant-loop-tag
invariant-loop-tag l = record {
  text : text_in (string_bytes l.self.text) ≡ text_in (string_bytes l.initial.self.text);
  takes_space : l.self.takes_space ≡ l.initial.self.takes_space;
}
