use Rattle.std.proofs.Common.{subst}
use Rattle.rounds_names.specs.ByName.{IsTold}
use Rattle.rounds_names.proofs.Holders.{grows-told}
use Rattle.rounds_names.proofs.by_name.add_holder.Goals as goal

pub returns-then-is_told : goal.returns-then-is_told
returns-then-is_told c =
    grows-told c.args.person.now c.args.place c.args.holders.now.items
    (subst (λ l. IsTold c.args.person.now c.args.place l) c.deref.ensures.value (c.is_told.ensures c.if-is_told.true))
