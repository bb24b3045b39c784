-- States that entries got from no mark, and a round in which nothing marked.
use Rattle.std.specs.Prelude.{ℕ, List, [], ◌∷◌, codes}
use Rattle.driver_lookup.specs.declared.state.DisambiguateState.TheVariants.{Choose, NameDisambiguation, YearSuffix}
use Rattle.driver_passes.specs.Renders.{CiteRender}
use Rattle.rounds_runs.specs.Rounds.{StateTable, no_states}
use Rattle.test_wrong_answers.specs.Rounds.{both_shown, one_by_one, table}
use Rattle.test_wrong_answers.specs.Samples.{sample_cite, words}
use Rattle.test_wrong_answers.specs.declared.sample.Sample.{Sample}

-- two entries whose cites read `X`, and show no date
abbrev pub undated : List (CiteRender Sample ℕ)
undated = one_by_one (sample_cite 0 0 (words (codes "X") ∷ [])
    ∷ sample_cite 1 1 (words (codes "X") ∷ []) ∷ [])

-- both with suffix 7
abbrev pub seven : StateTable Sample
seven = table ((0, YearSuffix 7) ∷ (1, YearSuffix 7) ∷ [])

abbrev pub both_seven : List (StateTable Sample)
both_seven = no_states ∷ seven ∷ []

-- one round, after which no entry has a state
abbrev pub twice_empty : List (StateTable Sample)
twice_empty = no_states ∷ no_states ∷ []

-- the only table where nothing marks
abbrev pub never_marked : List (StateTable Sample)
never_marked = no_states ∷ []

-- of the two entries whose cites test `disambiguate` the one that is to be chosen, and the other
-- too
abbrev pub both_chosen : List (StateTable Sample)
both_chosen = no_states
    ∷ table ((0, Choose) ∷ (1, Choose) ∷ (2, NameDisambiguation both_shown) ∷ []) ∷ []
