use Rattle.std.proofs.Common.{rules}
use Rattle.document_answer.proofs.LimitSteps.{document-checked}
use Rattle.document_answer.proofs.limits.check_limits.Goals as goal

pub returns : goal.returns
returns c =
    let h = document-checked c.args.limits.now c.args.bytes.now c.in_ok-styles.styles.items c.check_styles.result in
    search (rules, h)
