-- Where a document is wrong.
use Rattle.std.specs.Prelude.{◌≡◌, [], Option, Some, None, IsSome, Result, Ok, Err}
use Rattle.serde_json.specs.Data.{Data}
use Rattle.document_values.specs.Faults.{IsFaultOf}
use Rattle.document_values.specs.Reads.{Fails}
use Rattle.document_values.specs.declared.error.ReadError.{ReadError}
use Rattle.document_values.specs.declared.error.ReadError.TheVariants as errors
use Rattle.document_values.specs.declared.fault.Fault.{Fault}
use Rattle.document_values.specs.declared.fault.Found.{Found}
use Rattle.document_values.specs.declared.fault.Found.TheVariants as found

-- that is said of a text, and not of a value
abbrev pub IsOfText : Found → Type 0
IsOfText (found.NoJson line column) = Unit {0}
IsOfText (found.NoUtf8 byte) = Unit {0}
IsOfText _ = ⊥

-- the fault is one of a text as a whole
abbrev pub IsTextFault : Fault → Type 0
IsTextFault f = (f.path.items ≡ []) × IsOfText f.found

-- a refusal's fault is one of the text
abbrev pub IsTextError : ReadError → Type 0
IsTextError (errors.Document f) = IsTextFault f.value
IsTextError errors.OutOfMemory = Unit {0}

-- where the text is refused, the fault is one of the text
abbrev pub TextFaults : {X : Type 0} → Result X ReadError → Type 0
TextFaults (Ok x) = Unit {0}
TextFaults (Err e) = IsTextError e

-- the fault is one of the value, or of the text that is none
abbrev pub IsFaultIn : Fault → Option Data → Type 0
IsFaultIn f (Some d) = IsFaultOf f d
IsFaultIn f None = IsTextFault f

-- where the bytes are refused, the fault is one of them
abbrev pub FaultsIn : {X : Type 0} → Result X ReadError → Option Data → Type 0
FaultsIn (Ok x) value = Unit {0}
FaultsIn (Err (errors.Document f)) value = IsFaultIn f.value value
FaultsIn (Err errors.OutOfMemory) value = Unit {0}

-- what is read through is of the form, and what is refused is not
abbrev pub Judges : {X Y : Type 0} → Result X ReadError → Option Y → Type 0
Judges (Ok x) read = IsSome read
Judges (Err e) read = Fails e read
