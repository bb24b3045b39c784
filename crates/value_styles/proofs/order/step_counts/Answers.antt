use Rattle.value_styles.proofs.Rows.{row_within}
use Rattle.value_styles.proofs.order.step_counts.Goals as goal

pub count_steps-requires : goal.count_steps-requires
count_steps-requires c =
    row_within c.args.rows.now c.loop-i.i _ c.index-rows-i.result _ c.requires c.loop-i-test.true c.index-rows-i.is c.deref.ensures.value c.loop-i.invariant
