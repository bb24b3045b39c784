-- What stands for a task stays; where nothing stands for it, it is put in.
use Rattle.std.proofs.lemmas.Result.{on_ok_weaker}
use Rattle.document_tasks.proofs.Tables.{added}
use Rattle.document_tasks.proofs.written.add.Goals as goal

pub returns : goal.returns
returns c = on_ok_weaker c.add.result (λ put. added c.args.table.now c.add.new.self (c.args.key, c.args.cite) put) c.add.ensures.added
