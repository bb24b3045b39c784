-- Macros are read one after another.
use Rattle.value_styles.specs.ElementView.{macros_view}
use Rattle.document_styles.specs.Styles.{macro_form}
use Rattle.document_values.proofs.Progress.{Progress}
use Rattle.document_styles.proofs.styles.all_macros.Given as goal

abbrev pub invariant-loop-place : goal.invariant-loop-place
invariant-loop-place l = Progress macro_form l.items l.place (macros_view l.macros.items)
