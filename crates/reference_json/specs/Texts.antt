-- Why bytes are no references.
use Rattle.std.specs.Prelude.{◌≡◌, ℕ, List, Some, None}
use Rattle.std.specs.Str.{IsUtf8}
use Rattle.std.specs.Str.Lossy.{utf8_valid_len}
use Rattle.serde_json.specs.Data.{Data}
use Rattle.serde_json.specs.Read.{read}
use Rattle.reference_json.specs.declared.fault.ReferencesError.{ReferencesError}
use Rattle.reference_json.specs.declared.fault.ReferencesError.TheVariants as errors
use Rattle.reference_json.specs.Faults.{IsFaultOf}

-- the error tells what is wrong with the bytes: they are UTF-8 up to the byte that it names and no
-- further, or they are no JSON, or they are JSON of which it names a part that is there
abbrev pub IsErrorIn : ReferencesError → List ℕ → Type 0
IsErrorIn (errors.NoUtf8 byte) bytes = ¬ (IsUtf8 bytes) × (byte ≡ utf8_valid_len bytes)
IsErrorIn (errors.NoJson line column) bytes = read bytes ≡ None
IsErrorIn (errors.Fault fault) bytes = (whole : Data) × (read bytes ≡ Some whole)
    × IsFaultOf fault.value whole
IsErrorIn errors.OutOfMemory bytes = Unit {0}
