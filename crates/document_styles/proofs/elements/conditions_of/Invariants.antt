-- Conditions are read one after another.
use Rattle.document_styles.specs.Elements.{condition_form}
use Rattle.document_values.proofs.Progress.{Progress}
use Rattle.document_styles.proofs.elements.conditions_of.Given as goal

abbrev pub invariant-loop-place : goal.invariant-loop-place
invariant-loop-place l = Progress condition_form l.items l.place l.conditions.items
