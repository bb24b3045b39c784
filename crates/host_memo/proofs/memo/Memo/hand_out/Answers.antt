use Rattle.std.proofs.lemmas.Result.{on_ok_weaker}
use Rattle.host_memo.specs.Memo.{agrees_before}
use Rattle.host_memo.specs.Written.{found}
use Rattle.host_memo.proofs.memo.Memo.hand_out.Goals as goal

pub returns-clause-agreed : goal.returns-clause-agreed
returns-clause-agreed g c =
    on_ok_weaker c.keep.result (λ grown way ok. agrees_before (found c.args.self.now.written) (found c.keep.new.self.written) way grown ok) c.keep.ensures.grown
