-- The forms so far.
use Rattle.std.proofs.Common.{◌≡◌, map, take}
use Rattle.serde_json.specs.Data.{string}
use Rattle.serde_json.specs.View.{view}
use Rattle.document_tasks.specs.TaskNames.{form_name}
use Rattle.document_tasks.proofs.printing.forms_value.Given as goal

abbrev pub invariant-loop-form : goal.invariant-loop-form
invariant-loop-form l = map view l.items.items ≡ map (λ form. string (form_name form)) (take l.form-index l.forms)
