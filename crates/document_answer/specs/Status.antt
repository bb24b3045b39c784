-- The errors of the program: the status that it ends with, and what comes of a part that isn't
-- read.
use Rattle.std.specs.Prelude.{ℕ}
use Rattle.csl_driver.specs.declared.error.DriverError.{DriverError}
use Rattle.csl_driver.specs.declared.error.DriverError.TheVariants as drivers
use Rattle.document_values.specs.declared.error.ReadError.{ReadError}
use Rattle.document_values.specs.declared.error.ReadError.TheVariants as parts
use Rattle.document_answer.specs.declared.error.RunError.{RunError}
use Rattle.document_answer.specs.declared.error.RunError.TheVariants as errors

-- 1 to 5; a run without an error ends with 0
abbrev pub status : RunError → ℕ
status errors.Output = 1
status errors.Document = 2
status (errors.MacroRing place i) = 3
status errors.NumberOverflow = 4
status errors.OutOfMemory = 5

-- what isn't of its form makes the whole no document
abbrev pub refusal : ReadError → RunError
refusal (parts.Document fault) = errors.Document
refusal parts.OutOfMemory = errors.OutOfMemory

-- what the driver refuses is refused for the same reason
abbrev pub refused : DriverError → RunError
refused (drivers.MacroRing place i) = errors.MacroRing place i
refused drivers.NumberOverflow = errors.NumberOverflow
refused (drivers.OutOfMemory e) = errors.OutOfMemory
