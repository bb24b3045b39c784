use Rattle.value_styles.proofs.Rows.{row_within}
use Rattle.value_styles.proofs.order.leads_up.Goals as goal

pub row_leads_up-requires : goal.row_leads_up-requires
row_leads_up-requires c =
    row_within c.args.rows.now c.loop-i.i _ c.index-rows-i.result _ c.requires.closed c.loop-i-test.true c.index-rows-i.is c.deref.ensures.value c.requires.length
