-- A mark takes one byte.
use Rattle.std.proofs.Common.{sym, ap, ◌∙◌}
use Rattle.std.specs.List.{slice_get}
use Rattle.layout_context.proofs.TextSteps.{boundary_after_mark}
use Rattle.layout_context.proofs.text.opens_with_mark.Goals as goal

pub returns-in-Some-clause-cut : goal.returns-in-Some-clause-cut
returns-in-Some-clause-cut c =
    let first = c.in-Some.ensures.value ∙ ap (λ bs. slice_get bs 0) c.as_bytes.ensures.value in
    boundary_after_mark c.args.s.now c.in-Some.byte.now c.utf8.s (sym first) c.is_mark.result c.is_mark.ensures
