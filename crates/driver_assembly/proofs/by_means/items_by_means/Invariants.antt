use Rattle.std.proofs.Common.{◌≡◌, ◌++◌, drop, map, take}
use Rattle.std.specs.List.{filter_map, zip}
use Rattle.driver_passes.specs.RendersView.{renders_view}
use Rattle.driver_passes.specs.Request.{wanted_source}
use Rattle.driver_passes.specs.RequestView.{wanted_view}
use Rattle.rounds_substitution.specs.ItemView.{rendered_items_view}
use Rattle.driver_assembly.specs.BibliographyItems.{item_by}
use Rattle.driver_assembly.specs.ByMeans.{cite_with_means, task_by, tasks_by_means}
use Rattle.driver_writers.specs.Desk.{after, desk}
use Rattle.driver_writers.specs.Writing.{writing_of}
use Rattle.driver_assembly.proofs.by_means.items_by_means.Given as goal

abbrev pub invariant-loop-k : goal.invariant-loop-k
invariant-loop-k g l =
    let source = wanted_source (wanted_view l.wanted.wanted.now) in
    let cites = renders_view l.cites in
    let pairs = zip l.firsts l.means in
    let Way = g.W.CiteWriter.Way in
    let agrees = g.W.CiteWriter.agrees in
    let state = g.W.CiteWriter.state in
    let writing = λ (way : Way). writing_of g.T.EntryLike.answers (state l.fn.writer way) in
    record {
      items : (way : Way) → agrees l.writer way
          → rendered_items_view l.items.items ++ map (λ p. item_by (writing way) (task_by source p)) (filter_map (cite_with_means cites) (drop l.k pairs))
          ≡ map (λ p. item_by (writing way) (task_by source p)) (filter_map (cite_with_means cites) pairs);
      asked : (way : Way) → agrees l.writer way → desk (state l.writer way) l.counter
          ≡ after (tasks_by_means source (filter_map (cite_with_means cites) (take l.k pairs))) (desk (state l.fn.writer way) l.fn.counter);
      agreed : (way : Way) → agrees l.writer way → agrees l.fn.writer way;
    }
