-- What a form shows of a person, and how much has to be shown.
use Rattle.std.specs.Prelude.{ℕ, Bool, true, false, not, ◌&&◌, ◌==◌, List, [], ◌∷◌, Option, None, Some, bytes_eq, filter, if◌then◌else◌, length}
use Rattle.std.specs.List.{list_any}
use Rattle.value_sources.specs.Initials.{given_initials}
use Rattle.value_sources.specs.declared.entry.Person.{Person}
use Rattle.value_sources.specs.declared.names.DisambiguatedNameForm.{DisambiguatedNameForm}
use Rattle.mentions_names.specs.contracts.look.LookPartialEq.TheImpl as look_eq
use Rattle.mentions_names.specs.declared.look.GivenShown.{GivenShown}
use Rattle.mentions_names.specs.declared.look.Look.{Look}

-- the given name of a person, if it has initials
abbrev pub given_name : Person → Option (List ℕ)
given_name p = if length (given_initials p.given_name) == 0 then None else p.given_name

-- what a form shows of it
abbrev pub given_shown : DisambiguatedNameForm → Option (List ℕ) → GivenShown
given_shown DisambiguatedNameForm.LongInitialized (Some given) =
    GivenShown.Initials (given_initials (Some given))
given_shown DisambiguatedNameForm.LongFull (Some given) = GivenShown.Full given
given_shown _ _ = GivenShown.Nothing

-- the look of a person in a form
abbrev pub look : DisambiguatedNameForm → Person → Look
look form p = record { name = p.name; given = given_shown form (given_name p) }

-- as what a person counts beside others
abbrev pub full_look : Person → Look
full_look = look DisambiguatedNameForm.LongFull

-- whether two looks are equal, by their derived test
abbrev pub same_look : Look → Look → Bool
same_look = (look_eq.ghosts).eq

abbrev pub has_given : Look → Bool
has_given r = elim r.given [
  | GivenShown.Nothing ↦ false
  | GivenShown.Initials _ ↦ true
  | GivenShown.Full _ ↦ true
]

-- the initials of a look in full; none where it has no given name
abbrev pub initials_of : GivenShown → List ℕ
initials_of GivenShown.Nothing = []
initials_of (GivenShown.Initials initials) = initials
initials_of (GivenShown.Full given) = given_initials (Some given)

-- another look with the same family name
abbrev pub is_namesake : Look → Look → Bool
is_namesake r s = bytes_eq r.name s.name && not (same_look r s)

abbrev pub same_initials : Look → Look → Bool
same_initials r s = bytes_eq (initials_of r.given) (initials_of s.given)

-- the form that one with a given name needs beside these, who have its family name
abbrev pub needed_beside : Look → List Look → DisambiguatedNameForm
needed_beside r [] = DisambiguatedNameForm.Short
needed_beside r (s ∷ ss) =
    if list_any (same_initials r) (s ∷ ss) then DisambiguatedNameForm.LongFull
    else DisambiguatedNameForm.LongInitialized

-- the form that a person needs among others, all of them by their looks in full
abbrev pub needed : Look → List Look → DisambiguatedNameForm
needed r among = if has_given r then needed_beside r (filter (is_namesake r) among)
    else DisambiguatedNameForm.Short
