-- The person at a place of a variable.
use Rattle.std.proofs.Common.{◌≡◌, ℕ, ◌+◌, ◌<◌, true, Some, cond, Option, List, ◌∷◌, drop, length, get_or, ap, sym, ◌∙◌}
use Rattle.std.specs.Prelude.{find, slice_get}
use Rattle.std.specs.Option.{option_and_then}
use Rattle.std.proofs.lemmas.List.{drop_more}
use Rattle.value_sources.specs.PlainEntry.{same_name_variable}
use Rattle.value_sources.specs.declared.entry.Person.{Person}
use Rattle.value_sources.specs.declared.taxonomy.NameVariable.{NameVariable}
use Rattle.mentions_groups.specs.Shown.{person_at}

-- the variable at k is the one that is looked for
pub found-at : (vs : List (List Person × NameVariable)) (k : ℕ) (pair : List Person × NameVariable) (v : NameVariable) (place : ℕ) (r : Option Person) → k < length vs → pair ≡ get_or vs k pair
    → same_name_variable pair.1 v ≡ true → r ≡ slice_get pair.0 place → person_at (drop k vs) v place ≡ person_at vs v place → r ≡ person_at vs v place
found-at vs k pair v place r within here same got so_far =
    got
    ∙ sym (ap (λ l. person_at l v place) (drop_more vs k pair within)
    ∙ (λ i. person_at (sym here i ∷ drop (k + 1) vs) v place)
    ∙ ap (λ b. option_and_then (λ p. slice_get p.0 place) (cond b (Some pair) (find (λ p. same_name_variable p.1 v) (drop (k + 1) vs)))) same)
    ∙ so_far
