-- Two requests of one cite each, in an empty layout, cost four renderings.
use Rattle.std.proofs.Common.{◌≡◌, refl}
use Rattle.std.specs.Prelude.{nat_eq}
use Rattle.layout_context.specs.WritingState.{flushed, formatted, saved, unformatted}
use Rattle.csl_driver.specs.Account.{cost}
use Rattle.rounds_names.specs.NameMarks.{name_marks}
use Rattle.rounds_names.specs.Steps.{step, steps}
use Rattle.rounds_runs.specs.RoundMarks.{round_marks}
use Rattle.rounds_runs.specs.Tables.{tables_from}
use Rattle.rounds_runs.specs.declared.mode.RoundMode.{RoundMode}
use Rattle.csl_writing.specs.CiteText.{cite}
use Rattle.csl_writing.specs.PartsWritten.{parts_written}
use Rattle.test_wrong_answers.specs.Counts.{sample_job}
use Rattle.test_wrong_answers.specs.Silent.{same_sample, writing}

pub four : cost same_sample nat_eq writing RoundMode.Three sample_job ≡ 4
unfolding cite parts_written formatted unformatted flushed saved name_marks steps step round_marks tables_from
four = refl
