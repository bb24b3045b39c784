-- The status of a refusal says what the check says.
use Rattle.std.proofs.Common.{◌∙◌}
use Rattle.document_answer.specs.Limited.{styles_in}
use Rattle.gamhilon_c.proofs.Limited.{refused}
use Rattle.gamhilon_c.proofs.gamhilon_check_limits.Goals as goal

pub returns-in-Err : goal.returns-in-Err
returns-in-Err c =
    refused (record { depth = c.args.depth; elements = c.args.elements }) (styles_in c.args.document.now) c.from.result c.in-Err.error
    c.in-Err.ensures (c.from.ensures ∙ c.status.ensures)
