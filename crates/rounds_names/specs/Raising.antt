-- How far a given name is written to tell a person apart from persons of other cites.
use Rattle.std.specs.Prelude.{ℕ, zero, suc, Bool, not, ◌&&◌, List, [], ◌∷◌, Option, None, Some, bytes_eq, filter, if◌then◌else◌, option_map, slice_get, slice_set, unwrap_or}
use Rattle.std.specs.List.{flat_map, list_any}
use Rattle.value_sources.specs.Forms.{Forms}
use Rattle.value_sources.specs.Initials.{given_initials}
use Rattle.value_sources.specs.declared.entry.Person.{Person}
use Rattle.value_sources.specs.declared.names.DisambiguatedNameForm.{DisambiguatedNameForm}
use Rattle.rounds_names.specs.Persons.{same_person}
use Rattle.rounds_names.specs.Steps.{others}
use Rattle.rounds_names.specs.declared.named_cite.NamedCite.{NamedCite}

-- another person with the family name of p
abbrev pub is_namesake : Person → Person → Bool
is_namesake p q = bytes_eq p.name q.name && not (same_person p q)

abbrev pub same_initials : Person → Person → Bool
same_initials p q = bytes_eq (given_initials p.given_name) (given_initials q.given_name)

-- the form of p among its namesakes: full where one has its initials, else with initials; as it was
-- where there is none
abbrev pub fuller : Person → List Person → DisambiguatedNameForm → DisambiguatedNameForm
fuller p [] form = form
fuller p (q ∷ qs) form = if list_any (same_initials p) (q ∷ qs) then DisambiguatedNameForm.LongFull
    else DisambiguatedNameForm.LongInitialized

-- the form of p raised among persons; what only counts, and what is full, stays
abbrev pub raised : Person → List Person → DisambiguatedNameForm → DisambiguatedNameForm
raised p qs DisambiguatedNameForm.Count = DisambiguatedNameForm.Count
raised p qs DisambiguatedNameForm.LongFull = DisambiguatedNameForm.LongFull
raised p qs form = fuller p (filter (is_namesake p) qs) form

-- the form at a place, that of this person, raised; nothing where there is no person or no form
abbrev pub raised_at : ℕ → Option Person → List Person → Forms → Forms
raised_at place None qs forms = forms
raised_at place (Some p) qs forms =
    unwrap_or (option_map (λ form. slice_set forms place (raised p qs form))
    (slice_get forms place)) forms

-- name i of a member, counted from one, raised among all persons of the other members; nothing
-- where it has no such person or no such form
abbrev pub raise : List NamedCite → NamedCite → ℕ → Forms → Forms
raise group x zero forms = forms
raise group x (suc place) forms =
    raised_at place (slice_get x.persons place) (flat_map (λ y. y.persons) (others group x)) forms
