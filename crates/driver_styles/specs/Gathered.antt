-- For the code: names of macros, gathered without repetition.
use Rattle.std.specs.Prelude.{List, [], ◌∷◌, ◌++◌, Bool, true, false, is_some}
use Rattle.value_styles.specs.Element.{Name, Macro}
use Rattle.value_styles.specs.Calls.{Names}
use Rattle.value_styles.specs.Ring.{has_name, body_of}

-- with one more name, where it has a macro and isn't there yet
abbrev pub with_new_name : Bool → Bool → Name → Names → Names
with_new_name true false a names = names ++ a ∷ []
with_new_name _ _ a names = names

abbrev pub gather_new : List Macro → Name → Names → Names
gather_new macros a names = with_new_name (is_some (body_of a macros)) (has_name a names) a names

-- with each of these, one after the other
abbrev pub gather_each : List Macro → Names → Names → Names
gather_each macros [] names = names
gather_each macros (a ∷ more) names = gather_each macros more (gather_new macros a names)
