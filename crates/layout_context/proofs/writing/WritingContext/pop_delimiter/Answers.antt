-- A cut of the stack is a cut of what is seen of it.
use Rattle.std.proofs.Common.{map, option_map, ap, sym, ◌∙◌}
use Rattle.std.proofs.lemmas.List.{take-map}
use Rattle.layout_context.specs.WritingState.{state}
use Rattle.layout_context.proofs.writing.WritingContext.pop_delimiter.Goals as goal

pub returns : goal.returns
returns c =
    let a = c.args.self.now in
    ap (λ ds. record (state a) { delimiters = ds }) (ap (map (option_map (λ s. s.now))) c.cut.ensures ∙ sym (take-map _ _ _))
