-- The statuses of a call.
use Rattle.std.specs.Prelude.{ℕ}
use Rattle.cite_inputs.specs.declared.error.CallError.{CallError}
use Rattle.cite_inputs.specs.declared.error.CallError.TheVariants as errors

-- those of documents, where these have them; an answer has the status 0
abbrev pub status : CallError → ℕ
status (errors.Fault fault) = 2
status (errors.LimitExceeded remark) = 10
status errors.TooManyItems = 4
status errors.OutOfMemory = 5
