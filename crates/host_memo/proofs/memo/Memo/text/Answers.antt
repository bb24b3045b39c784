use Rattle.std.proofs.Math.Logic.{∥∥₁_map}
use Rattle.std.proofs.lemmas.List.Elements.{All-weaker}
use Rattle.host_memo.proofs.memo.Memo.text.Goals as goal

pub invariant_of-self : goal.invariant_of-self
invariant_of-self g c = record {
  allowed = ∥∥₁_map c.args.self.now.allowed (All-weaker _ _ (λ e may. c.write.ensures.stays e.0 e.1 may) c.args.self.now.written.entries);
}
