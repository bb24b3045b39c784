-- One more was read.
use Rattle.value_styles.specs.StyleView.{term_view}
use Rattle.document_styles.specs.Locales.{term_form}
use Rattle.document_values.proofs.Progress.{Progress-pushed}
use Rattle.document_styles.proofs.locales.all_terms.Goals as goal

pub loop-place-preserved : goal.loop-place-preserved
loop-place-preserved c =
    Progress-pushed term_form term_view _ _ _ _ _ _ c.loop-place-test.true c.index-items-place.is c.in-Ok.ensures.read c.in_ok-push-in-Ok.ensures.items c.loop-place.invariant
