-- What tells the fault of a document.
use Rattle.std.specs.Prelude.{◌≡◌, ℕ, List, [], Option, None, IsSome, Result, Ok, Err, ◌⊎◌, String, string_bytes}
use Rattle.std.specs.declared.alloc.Global.{Global}
use Rattle.serde_json.specs.Data.{Data}
use Rattle.document_values.specs.declared.fault.Fault.{Fault}
use Rattle.document_requests.specs.Faults.{IsFaultIn}
use Rattle.document_answer.specs.FaultText.{fault_text}
use Rattle.document_answer.specs.declared.error.RunError.{RunError}
use Rattle.document_answer.specs.declared.error.RunError.TheVariants as errors

-- there is no document of the form, and the text tells a fault of the value, or of the text that is
-- none
abbrev pub IsFaultText : {D : Type 0} → List ℕ → Option D → Option Data → Type 0
IsFaultText text read value =
    (read ≡ None) × ((f : Fault) × IsFaultIn f value × (text ≡ fault_text f))

-- the text is empty where there is a document, and else tells a fault; only memory can fail
abbrev pub TellsFault : {D : Type 0} → Result (String Global) RunError → Option D
    → Option Data → Type 0
TellsFault (Ok text) read value =
    (IsSome read × (string_bytes text ≡ [])) ⊎ IsFaultText (string_bytes text) read value
TellsFault (Err e) read value = e ≡ errors.OutOfMemory
