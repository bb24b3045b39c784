-- Names are read one after another.
use Rattle.document_values.proofs.Progress.{Progress}
use Rattle.document_tasks.specs.MetaForm.{names_meta_form}
use Rattle.document_tasks.proofs.metas.all_names.Given as goal

abbrev pub invariant-loop-place : goal.invariant-loop-place
invariant-loop-place l = Progress names_meta_form l.items l.place l.all.items
