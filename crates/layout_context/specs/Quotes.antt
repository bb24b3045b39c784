-- The closing quotes of `src/` as plain data.
use Rattle.std.specs.Prelude.{option_map}
use Rattle.layout_context.specs.declared.text.ClosingQuotes as declared
use Rattle.layout_context.specs.Steps.{ClosingQuotes}

abbrev pub quotes_view : declared.ClosingQuotes → ClosingQuotes
quotes_view q = record {
  outer = option_map (λ s. s.now) q.outer;
  inner = option_map (λ s. s.now) q.inner;
}
