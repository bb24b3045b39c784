use Rattle.std.proofs.Common.{◌∙◌, sym}
use Rattle.layout_context.proofs.TextSteps.{take_of_trim, boundary_at_trim}
use Rattle.layout_context.proofs.text.trimmed_len.Goals as goal

pub returns-clause-cut : goal.returns-clause-cut
returns-clause-cut c = boundary_at_trim c.args.text.now c.trim_end.result.now c.utf8.text c.trim_end.utf8 c.trim_end.ensures.value

pub returns-clause-kept : goal.returns-clause-kept
returns-clause-kept c = sym (take_of_trim c.args.text.now c.trim_end.result.now c.trim_end.ensures.value) ∙ c.trim_end.ensures.trim
