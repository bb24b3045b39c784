-- The statuses of calls on a handle.
use Rattle.std.specs.Prelude.{ℕ}
use Rattle.cite_inputs.specs.Status.{status}
use Rattle.session_handle.specs.declared.error.SessionError.{SessionError}
use Rattle.session_handle.specs.declared.error.SessionError.TheVariants as errors

abbrev pub session_status : SessionError → ℕ
session_status errors.NotOpen = 11
session_status (errors.Call error) = status error
