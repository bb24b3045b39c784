use Rattle.value_styles.proofs.Rows.{rows_of, no_round}
use Rattle.value_styles.proofs.order.has_order.Goals as goal

pub returns : goal.returns
returns c = λ yes. no_round (rows_of c.args.rows.now) _ (c.leads_up.ensures yes)
