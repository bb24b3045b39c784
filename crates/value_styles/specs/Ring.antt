-- Which macros lie on a ring of calls.
use Rattle.std.specs.Prelude.{◌≡◌, ℕ, ◌<◌, List, [], ◌∷◌, map, take, slice_get, Bool, true, false, bytes_eq, Option, Some, None}
use Rattle.std.specs.Bool.{if◌then◌else◌}
use Rattle.std.specs.List.{filter_map, list_any}
use Rattle.value_styles.specs.Element.{Name, Elements, Macro}
use Rattle.value_styles.specs.Calls.{Names, calls_of_all}
use Rattle.value_sources.specs.Found.{first_at}
use Rattle.value_styles.specs.Places.{Places}

-- whether a name is among names
abbrev pub has_name : Name → Names → Bool
has_name name = list_any (λ other. bytes_eq other name)

-- the children of the first macro of a name
abbrev pub body_of : Name → List Macro → Option Elements
body_of name [] = None
body_of name (m ∷ ms) = if bytes_eq m.name name then Some m.children else body_of name ms

abbrev pub body_calls : Option Elements → Names
body_calls None = []
body_calls (Some elements) = calls_of_all elements

-- the names that the first macro of a name calls
abbrev pub macro_calls : List Macro → Name → Names
macro_calls macros name = body_calls (body_of name macros)

abbrev pub Calls : List Macro → Name → Name → Type 0
Calls macros a b = has_name b (macro_calls macros a) ≡ true

-- each name of the list a, between, b calls the next
abbrev pub IsWalk : List Macro → Name → Names → Name → Type 0
IsWalk macros a [] b = Calls macros a b
IsWalk macros a (c ∷ between) b = Calls macros a c × IsWalk macros c between b

-- a list of at least two names begins and ends with that name, and each calls the next
abbrev pub IsOnRing : List Macro → Name → Type 0
IsOnRing macros name = (between : Names) × IsWalk macros name between name

abbrev pub HasNoRing : List Macro → Type 0
HasNoRing macros = (name : Name) → IsOnRing macros name → ⊥

-- the macro at i is the first of its name, and lies on a ring
abbrev pub IsRingAt : List Macro → ℕ → Type 0
IsRingAt macros i =
    (m : Macro) × (slice_get macros i ≡ Some m)
    × (has_name m.name (map (λ m. m.name) (take i macros)) ≡ false) × IsOnRing macros m.name

-- the first place of such a macro, or none
abbrev pub IsFirstRing : List Macro → Option ℕ → Type 0
IsFirstRing macros None = (i : ℕ) → IsRingAt macros i → ⊥
IsFirstRing macros (Some i) = IsRingAt macros i × ((k : ℕ) → k < i → IsRingAt macros k → ⊥)

-- the place of the first macro of a name
abbrev pub place_of_macro : Name → List Macro → Option ℕ
place_of_macro name = first_at (λ m. bytes_eq m.name name)

-- the places of the macros of these names, without the names that have none
abbrev pub places_of : List Macro → Names → Places
places_of macros = filter_map (λ name. place_of_macro name macros)

-- for each macro the places of those that it calls
abbrev pub call_places : List Macro → List Places
call_places macros = map (λ m. places_of macros (calls_of_all m.children)) macros
