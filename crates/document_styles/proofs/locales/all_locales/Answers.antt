-- One more was read.
use Rattle.value_styles.specs.StyleView.{locale_view}
use Rattle.document_styles.specs.Locales.{locale_form}
use Rattle.document_values.proofs.Progress.{Progress-pushed}
use Rattle.document_styles.proofs.locales.all_locales.Goals as goal

pub loop-place-preserved : goal.loop-place-preserved
loop-place-preserved c =
    Progress-pushed locale_form locale_view _ _ _ _ _ _ c.loop-place-test.true c.index-items-place.is c.in-Ok.ensures.read c.in_ok-push-in-Ok.ensures.items c.loop-place.invariant
