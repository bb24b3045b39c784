use Rattle.driver_assembly.proofs.Taken.{taken}
use Rattle.driver_assembly.proofs.bibliography.take_first_field.Goals as goal

pub returns-clause-field : goal.returns-clause-field
returns-clause-field c = taken c.remove_any_meta.result _ c.remove_any_meta.ensures.value
