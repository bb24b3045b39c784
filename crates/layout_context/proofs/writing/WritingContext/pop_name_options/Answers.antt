-- A cut of the stack is a cut of what is seen of it.
use Rattle.std.proofs.Common.{◌-◌, map, take, ap, sym, ◌∙◌}
use Rattle.std.proofs.lemmas.List.{take-map, length-map}
use Rattle.value_styles.specs.ElementView.{options_view}
use Rattle.layout_context.specs.WritingState.{state}
use Rattle.layout_context.proofs.writing.WritingContext.pop_name_options.Goals as goal

pub returns : goal.returns
returns c =
    let a = c.args.self.now in
    let seen = map (λ o. options_view o.now) in
    let height = c.len-height.ensures.len ∙ sym (length-map a.name_options (λ o. options_view o.now)) in
    ap (λ os. record (state a) { name_options = os })
    (ap seen c.cut.ensures ∙ sym (take-map (λ o. options_view o.now) _ a.name_options) ∙ ap (λ n. take (n - 1) (seen a.name_options)) height)
