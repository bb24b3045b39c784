-- Locales are read one after another.
use Rattle.std.proofs.Common.{map}
use Rattle.value_styles.specs.StyleView.{locale_view}
use Rattle.document_styles.specs.Locales.{locale_form}
use Rattle.document_values.proofs.Progress.{Progress}
use Rattle.document_styles.proofs.locales.all_locales.Given as goal

abbrev pub invariant-loop-place : goal.invariant-loop-place
invariant-loop-place l = Progress locale_form l.items l.place (map locale_view l.locales.items)
