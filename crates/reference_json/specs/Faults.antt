-- Where the JSON is wrong.
use Rattle.std.specs.Prelude.{◌≡◌, List, [], ◌∷◌, Option, Some, None, Result, Ok, Err, option_and_then, string_bytes, codes}
use Rattle.serde_json.specs.Data.{Data, null, boolean, number, string, array, object}
use Rattle.serde_json.specs.Find.{get, at}
use Rattle.reference_json.specs.declared.fault.Step.{Step}
use Rattle.reference_json.specs.declared.fault.Step.TheVariants as steps
use Rattle.reference_json.specs.declared.fault.Found.{Found}
use Rattle.reference_json.specs.declared.fault.Found.TheVariants as found
use Rattle.reference_json.specs.declared.fault.Fault.{Fault}
use Rattle.reference_json.specs.declared.fault.ReferencesError.{ReferencesError}
use Rattle.reference_json.specs.declared.fault.ReferencesError.TheVariants as errors
use Rattle.reference_json.specs.declared.place.Place.{Place, Whole, Member', Item'}

-- the part that a step leads to
abbrev pub into : Step → Data → Option Data
into (steps.Key k) d = get (string_bytes k) d
into (steps.Item i) d = at i d

-- the part that the steps lead to, one after another
abbrev pub part_at : List Step → Data → Option Data
part_at [] d = Some d
part_at (s ∷ rest) d = option_and_then (part_at rest) (into s d)

-- the part that a place is
abbrev pub at_place : Place → Data → Option Data
at_place Whole d = Some d
at_place (Member' p outer key) d = option_and_then (get key.now) (at_place outer d)
at_place (Item' p outer i) d = option_and_then (at i) (at_place outer d)

-- what a value is found to be
abbrev pub kind : Data → Found
kind null = found.Null
kind (boolean b) = found.Boolean
kind (number n) = found.Number
kind (string s) = found.Text
kind (array ds) = found.List
kind (object ms) = found.Object

-- this is what the value is, or what it lacks
abbrev pub IsFound : Found → Data → Type 0
IsFound found.MissingId d = (kind d ≡ found.Object) × (get (codes "id") d ≡ None)
IsFound f d = kind d ≡ f

-- there is a part, and this was found there
abbrev pub IsFoundThere : Found → Option Data → Type 0
IsFoundThere f None = ⊥
IsFoundThere f (Some d) = IsFound f d

-- the fault's pointer leads to a part of the JSON, and what the fault says was found is there
abbrev pub IsFaultOf : Fault → Data → Type 0
IsFaultOf fault whole = IsFoundThere fault.found (part_at fault.pointer.steps.items whole)

-- an error of reading the JSON is a fault of it, or one of memory
abbrev pub IsErrorOf : ReferencesError → Data → Type 0
IsErrorOf (errors.NoUtf8 byte) whole = ⊥
IsErrorOf (errors.NoJson line column) whole = ⊥
IsErrorOf (errors.Fault fault) whole = IsFaultOf fault.value whole
IsErrorOf errors.OutOfMemory whole = Unit {0}

-- where a part is refused, the error is one of each whole that has the part at its place
abbrev pub Faults : {X : Type 0} → Result X ReferencesError → Place → Data → Type 0
Faults (Ok x) place part = Unit {0}
Faults (Err e) place part = (whole : Data) → at_place place whole ≡ Some part → IsErrorOf e whole
