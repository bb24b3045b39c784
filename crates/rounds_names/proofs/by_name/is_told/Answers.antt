use Rattle.std.proofs.Common.{sym}
use Rattle.rounds_names.proofs.Holders.{told}
use Rattle.rounds_names.proofs.by_name.is_told.Goals as goal

pub returns-then-tells_without : goal.returns-then-tells_without
returns-then-tells_without c = λ e.
    told c.args.holders.now c.in-Some.first.now (sym c.in-Some.ensures.value) c.args.person.now c.args.place (c.tells_without.ensures c.if-tells_without.true)
    (c.tells_elsewhere.ensures e)
