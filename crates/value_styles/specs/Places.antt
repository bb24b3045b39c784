-- Places of a list that lead to places of it, and the rounds among them.
use Rattle.std.specs.Prelude.{◌≡◌, ℕ, ◌<◌, List, [], ◌∷◌, ◌++◌, length, Bool, true, false, ◌==◌}
use Rattle.std.specs.Prelude.{get_or}
use Rattle.std.specs.Bool.{if◌then◌else◌}
use Rattle.std.specs.List.{list_any}

abbrev pub Places : Type 0
Places = List ℕ

abbrev pub has_place : ℕ → Places → Bool
has_place i = list_any (λ j. j == i)

-- the places to which one place leads in a step
abbrev pub steps_from : List Places → ℕ → Places
steps_from rows i = get_or rows i []

-- each place of the list i, between, j leads to the next
abbrev pub IsPath : List Places → ℕ → Places → ℕ → Type 0
IsPath rows i [] j = has_place j (steps_from rows i) ≡ true
IsPath rows i (k ∷ between) j = (has_place k (steps_from rows i) ≡ true) × IsPath rows k between j

-- a place from which steps lead back to it
abbrev pub IsOnRound : List Places → ℕ → Type 0
IsOnRound rows i = (between : Places) × IsPath rows i between i

-- each place of the list is below a bound
abbrev pub IsWithin : ℕ → Places → Type 0
IsWithin n places = (i : ℕ) → has_place i places ≡ true → i < n

-- no row leads out of the list
abbrev pub IsClosed : List Places → Type 0
IsClosed rows = (i : ℕ) → IsWithin (length rows) (steps_from rows i)

-- exactly the places that were found are marked
abbrev pub IsMarked : List Bool → Places → Type 0
IsMarked marks found = (i : ℕ) → i < length marks → get_or marks i false ≡ has_place i found

-- the places found, with one more where it is new
abbrev pub add_new : ℕ → Places → Places
add_new i found = if has_place i found then found else found ++ i ∷ []

abbrev pub add_each : Places → Places → Places
add_each [] found = found
add_each (i ∷ rest) found = add_each rest (add_new i found)

-- each step leads to a place of higher rank
abbrev pub LeadsUp : List Places → List ℕ → Type 0
LeadsUp rows ranks = (i : ℕ) (j : ℕ) → has_place j (steps_from rows i) ≡ true
    → get_or ranks i 0 < get_or ranks j 0
