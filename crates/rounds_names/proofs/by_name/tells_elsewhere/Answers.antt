use Rattle.std.proofs.Common.{sym, ◌∙◌}
use Rattle.rounds_names.proofs.Holders.{told-other, told-same}
use Rattle.rounds_names.proofs.by_name.tells_elsewhere.Goals as goal

pub returns-then-eq : goal.returns-then-eq
returns-then-eq c = λ e apart.
    told-same c.args.holders.now c.loop-holder.holder-index c.holder-item.result c.loop-holder-test.true c.holder-item.is c.args.elsewhere c.args.added.now
    (sym c.if-not-same_place.ensures) (sym c.eq.ensures ∙ e)

pub returns-else-eq : goal.returns-else-eq
returns-else-eq c = λ e apart.
    told-other c.args.holders.now c.loop-holder.holder-index c.holder-item.result c.loop-holder-test.true c.holder-item.is c.args.elsewhere c.args.added.now
    (sym c.if-not-same_place.ensures) (sym c.is_other_held.ensures ∙ e)
