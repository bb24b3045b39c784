-- Cites with citation numbers, and what collapsing makes of them.
use Rattle.std.specs.Prelude.{ℕ, true, List, [], ◌∷◌, Some, codes}
use Rattle.rounds_grouping.specs.NumberRuns.{en_dash}
use Rattle.driver_passes.specs.Renders.{ItemRender}
use Rattle.test_wrong_answers.specs.Samples.{sample_cite, numbered_element}
use Rattle.test_wrong_answers.specs.declared.sample.Sample.{Sample}

-- a cite with this number; its text, here a letter, tells nothing of runs
abbrev pub numbered : ℕ → ItemRender Sample ℕ
numbered n = sample_cite n n (numbered_element (codes "n") ∷ [])

abbrev pub hidden : ItemRender Sample ℕ → ItemRender Sample ℕ
hidden c = record c { hidden = true }

-- behind a dash
abbrev pub dashed : ItemRender Sample ℕ → ItemRender Sample ℕ
dashed c = record c { delimiter_override = Some en_dash }

-- 1, 2, 4
abbrev pub with_a_gap : List (ItemRender Sample ℕ)
with_a_gap = numbered 1 ∷ numbered 2 ∷ numbered 4 ∷ []

-- 1–4
abbrev pub over_the_gap : List (ItemRender Sample ℕ)
over_the_gap = numbered 1 ∷ hidden (numbered 2) ∷ dashed (numbered 4) ∷ []

-- 1, 2, 3, 4, 5, of which the caller hid 3
abbrev pub with_a_hidden_cite : List (ItemRender Sample ℕ)
with_a_hidden_cite = numbered 1 ∷ numbered 2 ∷ hidden (numbered 3) ∷ numbered 4 ∷ numbered 5 ∷ []

-- 1–5
abbrev pub over_the_hidden_cite : List (ItemRender Sample ℕ)
over_the_hidden_cite =
    numbered 1 ∷ hidden (numbered 2) ∷ hidden (numbered 3) ∷ hidden (numbered 4)
    ∷ dashed (numbered 5) ∷ []
