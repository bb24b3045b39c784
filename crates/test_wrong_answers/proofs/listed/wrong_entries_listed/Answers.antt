use Rattle.std.proofs.Common.{[], ◌∷◌, arith}
use Rattle.rounds_runs.specs.declared.mode.RoundMode.{RoundMode}
use Rattle.test_wrong_answers.proofs.AllRight.{exactly, listed-plain}
use Rattle.test_wrong_answers.proofs.ListedWrong.{doubled, dropped, replaced}
use Rattle.test_wrong_answers.specs.Letters.{letters}
use Rattle.test_wrong_answers.specs.Listed.{listing, two_listed}
use Rattle.test_wrong_answers.proofs.listed.wrong_entries_listed.Goals as goal

pub returns-clause-dropped : goal.returns-clause-dropped
returns-clause-dropped c = dropped

pub returns-clause-doubled : goal.returns-clause-doubled
returns-clause-doubled c = doubled

pub returns-clause-replaced : goal.returns-clause-replaced
returns-clause-replaced c = replaced

pub returns-clause-right : goal.returns-clause-right
returns-clause-right c = λ spacing account has.
    c.answers_keep_laws.ensures letters RoundMode.Three (two_listed spacing) (listing spacing (0 ∷ 1 ∷ []), account)
    (exactly 6 (two_listed spacing) (listing spacing (0 ∷ 1 ∷ [])) account (omega arith) (listed-plain spacing) has)
