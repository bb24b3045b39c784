-- Terms are read one after another.
use Rattle.std.proofs.Common.{map}
use Rattle.value_styles.specs.StyleView.{term_view}
use Rattle.document_styles.specs.Locales.{term_form}
use Rattle.document_values.proofs.Progress.{Progress}
use Rattle.document_styles.proofs.locales.all_terms.Given as goal

abbrev pub invariant-loop-place : goal.invariant-loop-place
invariant-loop-place l = Progress term_form l.items l.place (map term_view l.terms.items)
