-- What a reader of a part of the document returned.
use Rattle.std.specs.Prelude.{◌≡◌, Option, Some, None, Result, Ok, Err}
use Rattle.serde_json.specs.Data.{Data}
use Rattle.document_values.specs.Faults.{IsFaultOf}
use Rattle.document_values.specs.declared.error.ReadError.{ReadError}
use Rattle.document_values.specs.declared.error.ReadError.TheVariants as errors

-- only a part that isn't of the form is refused as a document
abbrev pub Fails : {Y : Type 0} → ReadError → Option Y → Type 0
Fails (errors.Document fault) read = read ≡ None
Fails errors.OutOfMemory read = Unit {0}

-- what was read, seen by view, is what the form gives
abbrev pub Reads : {X Y : Type 0} → (X → Y) → Result X ReadError → Option Y → Type 0
Reads view (Ok x) read = read ≡ Some (view x)
Reads view (Err e) read = Fails e read

-- a refusal's fault is one of the value
abbrev pub IsErrorOf : ReadError → Data → Type 0
IsErrorOf (errors.Document fault) d = IsFaultOf fault.value d
IsErrorOf errors.OutOfMemory d = Unit {0}

-- where the value is refused, the fault is one of the value
abbrev pub Faults : {X : Type 0} → Result X ReadError → Data → Type 0
Faults (Ok x) d = Unit {0}
Faults (Err e) d = IsErrorOf e d

-- the second is a refusal only where the first is
abbrev pub RefusesToo : ReadError → ReadError → Type 0
RefusesToo (errors.Document fault) e = Unit {0}
RefusesToo errors.OutOfMemory e = e ≡ errors.OutOfMemory
