-- Cites as they were rendered first, and the tables of states that rounds give their entries.
use Rattle.std.specs.Prelude.{ℕ, true, List, [], ◌∷◌, Some, codes, find, nat_eq, option_map}
use Rattle.value_sources.specs.declared.names.DisambiguatedNameForm.{DisambiguatedNameForm}
use Rattle.value_sources.specs.declared.names.NameDisambiguationProperties.{NameDisambiguationProperties}
use Rattle.driver_lookup.specs.declared.state.DisambiguateState.{DisambiguateState}
use Rattle.driver_lookup.specs.declared.state.DisambiguateState.TheVariants.{Choose, NameDisambiguation, YearSuffix}
use Rattle.driver_passes.specs.Renders.{CiteRender, ItemRender}
use Rattle.rounds_runs.specs.Rounds.{StateTable, no_states}
use Rattle.test_wrong_answers.specs.Samples.{by_authors, sample_cite, in_year, person, request_of, words}
use Rattle.test_wrong_answers.specs.declared.sample.Sample.{Sample}

-- a table with these rows: the number of an entry, and its state
abbrev pub table : List (ℕ × DisambiguateState) → StateTable Sample
table rows e = option_map (λ row. row.1) (find (λ row. nat_eq row.0 e.number) rows)

-- requests of one cite each
abbrev pub one_by_one : List (ItemRender Sample ℕ) → List (CiteRender Sample ℕ)
one_by_one [] = []
one_by_one (c ∷ cs) = request_of (c ∷ []) ∷ one_by_one cs

-- the first entry is cited twice and the second once, and all three cites read `Doe 1999`
abbrev pub alike : List (CiteRender Sample ℕ)
alike =
    let doe = in_year (codes "Doe 1999") ∷ [] in
    one_by_one (sample_cite 0 0 doe ∷ sample_cite 0 0 doe ∷ sample_cite 1 1 doe ∷ [])

-- a suffix for each cite: the first entry gets 0 and then 1, and the second gets 2
abbrev pub by_cite : List (StateTable Sample)
by_cite = no_states ∷ table ((0, YearSuffix 1) ∷ (1, YearSuffix 2) ∷ []) ∷ []

-- two cites that read differently
abbrev pub unlike : List (CiteRender Sample ℕ)
unlike = one_by_one (sample_cite 0 0 (in_year (codes "Doe 1999") ∷ [])
    ∷ sample_cite 1 1 (in_year (codes "Roe 2000") ∷ [])
    ∷ [])

-- a suffix for each entry, though no cite is ambiguous
abbrev pub on_every_entry : List (StateTable Sample)
on_every_entry = no_states ∷ table ((0, YearSuffix 0) ∷ (1, YearSuffix 0) ∷ []) ∷ []

-- the first name, and the second behind `et al.`
abbrev pub one_shown : NameDisambiguationProperties
one_shown = record { forms = DisambiguatedNameForm.Short ∷ DisambiguatedNameForm.Count ∷ [] }

-- both names
abbrev pub both_shown : NameDisambiguationProperties
both_shown = record { forms = DisambiguatedNameForm.Short ∷ DisambiguatedNameForm.Short ∷ [] }

-- a cite that tested `disambiguate`
abbrev pub asking : ℕ → ItemRender Sample ℕ
asking n = record (sample_cite n n (words (codes "X") ∷ [])) { checked_disambiguate = true }

-- a cite of Lee and another author, which shows Lee alone
abbrev pub by_lee_and : List ℕ → ℕ → ItemRender Sample ℕ
by_lee_and other n =
    record (sample_cite n n
    (by_authors (person (codes "Lee") ∷ person other ∷ []) (codes "Lee et al.")
    ∷ [])) { first_name = Some one_shown }

-- the first entry is cited in two groups: in one a choice tells it apart, and in the next one names
-- do
abbrev pub in_two_groups : List (CiteRender Sample ℕ)
in_two_groups = one_by_one
    (asking 1 ∷ asking 0 ∷ by_lee_and (codes "Kim") 0 ∷ by_lee_and (codes "Cho") 2 ∷ [])

-- in one round the names of the later group are written over the choice
abbrev pub overwritten_at_once : List (StateTable Sample)
overwritten_at_once =
    no_states ∷ table ((0, NameDisambiguation both_shown)
    ∷ (2, NameDisambiguation both_shown) ∷ []) ∷ []

-- names are written over the choice of the round before
abbrev pub overwritten_later : List (StateTable Sample)
overwritten_later =
    no_states ∷ table ((0, Choose) ∷ (2, NameDisambiguation both_shown) ∷ []) ∷
    table ((0, NameDisambiguation both_shown) ∷ (2, NameDisambiguation both_shown) ∷ []) ∷ []
