-- Cites as no pass leaves them, though the laws of the driver alone would allow it.
use Rattle.std.specs.Prelude.{ℕ, List, [], ◌∷◌, Option, Some, codes}
use Rattle.rounds_grouping.specs.Stretches.{after_collapse}
use Rattle.rounds_grouping.specs.YearStretches.{cut_to_date}
use Rattle.driver_lookup.specs.declared.state.CollapseVerdict.{CollapseVerdict}
use Rattle.driver_passes.specs.Renders.{CiteRender, ItemRender}
use Rattle.value_styles.specs.Style.{CitationValue}
use Rattle.value_styles.specs.declared.style.Collapse.{Collapse}
use Rattle.test_wrong_answers.specs.Orders.{by_a, by_b}
use Rattle.test_wrong_answers.specs.Runs.{dashed, hidden, numbered}
use Rattle.test_wrong_answers.specs.Samples.{request_of, style}
use Rattle.test_wrong_answers.specs.declared.sample.Sample.{Sample}

-- what follows a range in the style of the samples
abbrev pub after : Option (List ℕ)
after = after_collapse style.citation

-- 1; 5
abbrev pub apart : List (ItemRender Sample ℕ)
apart = numbered 1 ∷ numbered 5 ∷ []

-- 1–5, where nothing is hidden
abbrev pub dashed_apart : List (ItemRender Sample ℕ)
dashed_apart = numbered 1 ∷ dashed (numbered 5) ∷ []

-- 1; 2; 3
abbrev pub in_a_row : List (ItemRender Sample ℕ)
in_a_row = numbered 1 ∷ numbered 2 ∷ numbered 3 ∷ []

-- 1–3
abbrev pub row_drawn : List (ItemRender Sample ℕ)
row_drawn = numbered 1 ∷ hidden (numbered 2) ∷ dashed (numbered 3) ∷ []

-- a style in which years collapse
abbrev pub by_year : CitationValue
by_year = record style.citation { collapse = Some Collapse.Year }

abbrev pub request_by_year : List (ItemRender Sample ℕ) → CiteRender Sample ℕ
request_by_year cites = record {
  items = cites;
  request = record (request_of cites).request { style = record style { citation = by_year } };
}

-- two cites by A, which make up the first block
abbrev pub of_one_block : List (ItemRender Sample ℕ)
of_one_block =
    record (by_a 0) { group = Some 0 }
    ∷ record (by_a 1) { delimiter_override = Some (codes ", "); group = Some 0 } ∷ []

-- both without their names
abbrev pub both_cut : List (ItemRender Sample ℕ)
both_cut =
    record (by_a 0) { group = Some 0; verdict = Some CollapseVerdict.First }
    ∷ cut_to_date by_year (record (by_a 1) { group = Some 0 }) ∷ []

-- the second without them
abbrev pub second_cut : List (ItemRender Sample ℕ)
second_cut =
    record (by_a 0) { group = Some 0 }
    ∷ cut_to_date by_year (record (by_a 1) { group = Some 0 }) ∷ []

-- B B A A A of A B A A B: the blocks with their overrides and indexes, but the later one first
abbrev pub backwards : List (ItemRender Sample ℕ)
backwards =
    record (by_b 1) { group = Some 0 }
    ∷ record (by_b 4) { delimiter_override = Some (codes ", "); group = Some 0 } ∷
    record (by_a 0) { group = Some 1 }
    ∷ record (by_a 2) { delimiter_override = Some (codes ", "); group = Some 1 } ∷
    record (by_a 3) { delimiter_override = Some (codes ", "); group = Some 1 } ∷ []

-- A A A B B, but the block of B follows the delimiter of groups
abbrev pub run_together : List (ItemRender Sample ℕ)
run_together =
    record (by_a 0) { group = Some 0 }
    ∷ record (by_a 2) { delimiter_override = Some (codes ", "); group = Some 0 } ∷
    record (by_a 3) { delimiter_override = Some (codes ", "); group = Some 0 }
    ∷ record (by_b 1) { delimiter_override = Some (codes ", "); group = Some 1 } ∷
    record (by_b 4) { delimiter_override = Some (codes ", "); group = Some 1 } ∷ []
