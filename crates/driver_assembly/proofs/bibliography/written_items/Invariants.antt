use Rattle.std.proofs.Common.{◌≡◌, ◌++◌, drop, map, take}
use Rattle.driver_passes.specs.RendersView.{renders_view}
use Rattle.driver_passes.specs.Request.{wanted_source}
use Rattle.driver_passes.specs.RequestView.{wanted_view}
use Rattle.rounds_substitution.specs.ItemView.{rendered_items_view}
use Rattle.driver_assembly.specs.BibliographyItems.{bibliography_tasks, cites_at, written_item}
use Rattle.driver_writers.specs.Desk.{after, desk}
use Rattle.driver_writers.specs.Writing.{writing_of}
use Rattle.driver_assembly.proofs.bibliography.written_items.Given as goal

abbrev pub invariant-loop-place : goal.invariant-loop-place
invariant-loop-place g l =
    let source = wanted_source (wanted_view l.wanted.wanted.now) in
    let Way = g.W.CiteWriter.Way in
    let agrees = g.W.CiteWriter.agrees in
    let state = g.W.CiteWriter.state in
    let written = λ (way : Way). written_item (writing_of g.T.EntryLike.answers (state l.fn.writer way)) source in
    record {
      items : (way : Way) → agrees l.writer way
          → rendered_items_view l.items.items ++ map (written way) (cites_at (renders_view l.cites) (drop l.place-index l.firsts)) ≡ map (written way) (cites_at (renders_view l.cites) l.firsts);
      asked : (way : Way) → agrees l.writer way → desk (state l.writer way) l.counter
          ≡ after (bibliography_tasks source (cites_at (renders_view l.cites) (take l.place-index l.firsts))) (desk (state l.fn.writer way) l.fn.counter);
      agreed : (way : Way) → agrees l.writer way → agrees l.fn.writer way;
    }
