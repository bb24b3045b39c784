-- Requests whose cites are answered by others.
use Rattle.std.specs.Prelude.{ℕ, [], ◌∷◌, Some, true, codes}
use Rattle.driver_assembly.specs.declared.rendered.Rendered.{Rendered}
use Rattle.rounds_grouping.specs.NumberRuns.{en_dash}
use Rattle.csl_driver.specs.Answer.{Job}
use Rattle.driver_lookup.specs.declared.purpose.CitePurpose.{CitePurpose}
use Rattle.driver_passes.specs.Request.{Request}
use Rattle.test_wrong_answers.specs.Letters.{answer, job, asked_cite, citation, request, shows}
use Rattle.test_wrong_answers.specs.Samples.{words}
use Rattle.test_wrong_answers.specs.declared.sample.Sample.{Sample}

-- two requests, for A and for B
abbrev pub two : Job Sample ℕ
two = job (request (asked_cite 0 ∷ []) ∷ request (asked_cite 1 ∷ []) ∷ [])

-- A, and B
abbrev pub each_its_own : Rendered
each_its_own = answer (citation (shows 0 0 ∷ []) ∷ citation (shows 0 1 ∷ []) ∷ [])

-- A, and A again
abbrev pub both_the_first : Rendered
both_the_first = answer (citation (shows 0 0 ∷ []) ∷ citation (shows 0 0 ∷ []) ∷ [])

-- a request for A that is to be hidden
abbrev pub hidden_one : Job Sample ℕ
hidden_one = job (request (record (asked_cite 0) { hidden = true } ∷ []) ∷ [])

-- nothing
abbrev pub nothing_shown : Rendered
nothing_shown = answer (citation [] ∷ [])

-- A
abbrev pub shown_after_all : Rendered
shown_after_all = answer (citation (shows 0 0 ∷ []) ∷ [])

-- a request for A, B and C, of which the last is for its author alone
abbrev pub of_three : Request Sample ℕ
of_three = request (asked_cite 0 ∷ asked_cite 1
    ∷ record (asked_cite 2) { purpose = Some CitePurpose.Author } ∷ [])

abbrev pub with_a_purpose : Job Sample ℕ
with_a_purpose = job (of_three ∷ [])

-- A; B; C
abbrev pub one_by_one : Rendered
one_by_one = answer (citation
    (shows 0 0 ∷ words (codes "; ") ∷ shows 1 1 ∷ words (codes "; ") ∷ shows 2 2 ∷ [])
    ∷ [])

-- A–C
abbrev pub collapsed_all_the_same : Rendered
collapsed_all_the_same = answer (citation (shows 0 0 ∷ words en_dash ∷ shows 2 2 ∷ []) ∷ [])
