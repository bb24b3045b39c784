use Rattle.csl_driver.specs.Answer.{citations_of}
use Rattle.csl_driver.specs.WriterTasks.{last_tasks}
use Rattle.driver_passes.specs.RendersView.{renders_view}
use Rattle.driver_writers.specs.Desk.{after, desk}
use Rattle.driver_writers.specs.Writing.{writing_of}
use Rattle.std.proofs.Common.{◌≡◌, take}
use Rattle.csl_driver.proofs.draft.Draft.citations.Given as goal

abbrev pub invariant-loop-index : goal.invariant-loop-index
invariant-loop-index g l =
    let done = take l.index (renders_view l.cites) in
    let Way = g.W.CiteWriter.Way in
    let agrees = g.W.CiteWriter.agrees in
    let state = g.W.CiteWriter.state in
    record {
      citations : (way : Way) → agrees l.writer way → l.citations.items ≡ citations_of (writing_of g.T.EntryLike.answers (state l.fn.writer way)) done;
      asked : (way : Way) → agrees l.writer way → desk (state l.writer way) l.counter ≡ after (last_tasks done) (desk (state l.fn.writer way) l.fn.counter);
      agreed : (way : Way) → agrees l.writer way → agrees l.fn.writer way;
    }
