use Rattle.std.proofs.Common.{◌≡◌, string_bytes}
use Rattle.write_html.specs.Text.{text_in}
use Rattle.write_html.proofs.markup.Markup.close_from.Given as goal

abbrev pub invariant-loop : goal.invariant-loop
invariant-loop l = record {
  text : text_in (string_bytes l.self.text) ≡ text_in (string_bytes l.initial.self.text);
  takes_space : l.self.takes_space ≡ l.initial.self.takes_space;
}
