use Rattle.std.proofs.Common.{◌∷◌, [], None, Some, true, refl, true≢false}
use Rattle.test_wrong_answers.specs.Given.{facts, none_repeats, positioned_cite, unnumbered, whole_way}
use Rattle.value_styles.specs.declared.style.Collapse.{Collapse}
use Rattle.test_wrong_answers.proofs.given.range_of_what_shows_no_number.Goals as goal

pub returns-clause-refuted : goal.returns-clause-refuted
returns-clause-refuted c = λ h. true≢false (h.each 1 (positioned_cite 1 (Some 5))
    (record (whole_way 1) { is_inner = true }) refl refl).inside

pub returns-clause-right : goal.returns-clause-right
returns-clause-right c =
    c.cites_are_arranged_by_neighbours.ensures (1 ∷ 2 ∷ 3 ∷ [])
    (record { facts = facts (Some Collapse.CitationNumber); cites = unnumbered }) none_repeats
