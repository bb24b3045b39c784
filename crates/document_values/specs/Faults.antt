-- Where a value is wrong.
use Rattle.std.specs.Prelude.{◌≡◌, ℕ, List, [], ◌∷◌, Bool, true, false, Option, Some, None, option_and_then, IsSome, string_bytes}
use Rattle.std.specs.Option.{option_map_or}
use Rattle.serde_json.specs.Data.{Data, null, boolean, number, string, array, object}
use Rattle.serde_json.specs.Find.{get, at, as_object}
use Rattle.document_values.specs.Words.{is_one_of, member_keys}
use Rattle.document_values.specs.declared.fault.Step.{Step}
use Rattle.document_values.specs.declared.fault.Step.TheVariants as steps
use Rattle.document_values.specs.declared.fault.Found.{Found}
use Rattle.document_values.specs.declared.fault.Found.TheVariants as found
use Rattle.document_values.specs.declared.fault.Fault.{Fault}

-- the part that a step leads to
abbrev pub into : Step → Data → Option Data
into (steps.Key k) d = get (string_bytes k) d
into (steps.Item i) d = at i d

-- the part that a way leads to, whose last step is the outermost
abbrev pub part_at : List Step → Data → Option Data
part_at [] d = Some d
part_at (s ∷ outer) d = option_and_then (into s) (part_at outer d)

-- what a value is found to be
abbrev pub kind : Data → Found
kind null = found.Null
kind (boolean b) = found.Boolean
kind (number n) = found.Number
kind (string s) = found.Text
kind (array ds) = found.List
kind (object ms) = found.Object

-- one of the object's keys
abbrev pub has_key : List ℕ → Data → Bool
has_key k d = option_map_or (λ ms. is_one_of (member_keys ms) k) (as_object d) false

-- this is what the value is, or what is with its keys; of a value nothing is said that is said of a
-- text
abbrev pub IsFound : Found → Data → Type 0
IsFound (found.UnknownKey k) d = has_key (string_bytes k) d ≡ true
IsFound (found.MissingKey k) d = IsSome (as_object d) × (get (string_bytes k) d ≡ None)
IsFound (found.NoJson line column) d = ⊥
IsFound (found.NoUtf8 byte) d = ⊥
IsFound f d = kind d ≡ f

-- there is a part, and this was found there
abbrev pub IsFoundThere : Found → Option Data → Type 0
IsFoundThere f None = ⊥
IsFoundThere f (Some d) = IsFound f d

-- the fault's way leads to a part of the value, and what the fault says was found is there
abbrev pub IsFaultOf : Fault → Data → Type 0
IsFaultOf f d = IsFoundThere f.found (part_at f.path.items d)
