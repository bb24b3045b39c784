-- The texts that tell a fault.
use Rattle.std.specs.Prelude.{ℕ, List, [], ◌∷◌, ◌++◌, codes, string_bytes, ◌==◌, if◌then◌else◌}
use Rattle.std.specs.Fmt.{decimal}
use Rattle.std.specs.List.{flat_map}
use Rattle.std.specs.Char.{encode_utf8}
use Rattle.std.specs.Str.{chars}
use Prim.Native.Char.{code}
use Rattle.serde_json.specs.Data.{Data, string, object, no_members, member}
use Rattle.serde_json.specs.Written.{compact_text}
use Rattle.document_values.specs.declared.fault.Fault.{Fault}
use Rattle.document_values.specs.declared.fault.Found.{Found}
use Rattle.document_values.specs.declared.fault.Found.TheVariants as found
use Rattle.document_values.specs.declared.fault.Step.{Step}
use Rattle.document_values.specs.declared.fault.Step.TheVariants as steps
use Rattle.document_values.specs.declared.fault.Wanted.{Wanted}
use Rattle.document_values.specs.declared.fault.Wanted.TheVariants as wanted

-- ---- JSON Pointer (RFC 6901)

-- `~0` stands for `~`, and `~1` for `/`
abbrev pub escaped : ℕ → List ℕ
escaped c = if c == code "~" then codes "~0"
    else (if c == code "/" then codes "~1" else encode_utf8 c)

abbrev pub step_text : Step → List ℕ
step_text (steps.Key k) = codes "/" ++ flat_map escaped (chars (string_bytes k))
step_text (steps.Item i) = codes "/" ++ decimal i

-- the pointer of a way, whose last step is the outermost
abbrev pub pointer_text : List Step → List ℕ
pointer_text [] = []
pointer_text (s ∷ outer) = pointer_text outer ++ step_text s

-- ---- what was found, and what is asked for

abbrev pub found_text : Found → List ℕ
found_text found.Null = codes "null"
found_text found.Boolean = codes "a truth value"
found_text found.Number = codes "a number"
found_text found.Text = codes "a text"
found_text found.List = codes "a list"
found_text found.Object = codes "an object"
found_text (found.UnknownKey k) = codes "unknown key " ++ string_bytes k
found_text (found.MissingKey k) = codes "missing key " ++ string_bytes k
found_text (found.NoJson line column) =
    codes "no JSON from line " ++ decimal line ++ codes ", column " ++ decimal column
found_text (found.NoUtf8 byte) = codes "no UTF-8 from byte " ++ decimal byte

abbrev pub wanted_text : Wanted → List ℕ
wanted_text wanted.Utf8 = codes "UTF-8"
wanted_text wanted.Json = codes "JSON"
wanted_text wanted.Text = codes "a text"
wanted_text wanted.Truth = codes "true or false"
wanted_text wanted.List = codes "a list"
wanted_text wanted.Object = codes "an object"
wanted_text wanted.Whole = codes "a whole number from 0 to 18446744073709551615"
wanted_text wanted.Spacing = codes "a whole number from -32768 to 32767"
wanted_text wanted.LineSpacing = codes "a whole number from -32768 to 32767 that isn't 0"
wanted_text wanted.Year = codes "a whole number from -2147483648 to 2147483647"
wanted_text wanted.Variable = codes "the name of a variable"
wanted_text wanted.Term = codes "the name of a term"
wanted_text wanted.Kind = codes "one of text, number, date, names, group, choose"
wanted_text wanted.Condition = codes "disambiguate, a position, or an object that names a variable"
wanted_text wanted.Target = codes "exactly one of the keys value, variable, macro, term"
wanted_text wanted.Person = codes "a family name, or a family name and a given name"
wanted_text wanted.Locator = codes "what the locator counts, and its text"
wanted_text wanted.Style = codes "the name of a style that is there"
wanted_text wanted.Entry = codes "the key of an entry that is there"
wanted_text wanted.MissingKey = codes "this key"
wanted_text wanted.KeyOfCsl = codes "this key only where rounds is csl"
wanted_text (wanted.KeyOf keys) = codes "one of the keys " ++ string_bytes keys
wanted_text (wanted.NameOf names) = codes "one of " ++ string_bytes names

-- ---- the JSON of a fault

abbrev pub fault_data : Fault → Data
fault_data f = object (member (codes "found") (string (found_text f.found))
    (member (codes "pointer") (string (pointer_text f.path.items))
    (member (codes "wanted") (string (wanted_text f.wanted)) no_members)))

abbrev pub fault_text : Fault → List ℕ
fault_text f = compact_text (fault_data f)
