use Rattle.std.proofs.Common.{◌≡◌, map, take}
use Rattle.std.specs.Prelude.{flat_map}
use Rattle.mentions_cited.specs.Cited.{first_task}
use Rattle.mentions_tables.specs.Tables.{with_mention}
use Rattle.mentions_cites.specs.Mentions.{kept_last}
use Rattle.mentions_cites.specs.Repeats.{repeat_tasks, shown_repeats}
use Rattle.driver_writers.specs.Desk.{after, desk}
use Rattle.driver_writers.specs.Tasks.{cite_task}
use Rattle.mentions_cites.proofs.repeats.all_shown_repeats.Given as goal

abbrev pub invariant-loop-request : goal.invariant-loop-request
invariant-loop-request g l = record {
  shown : (way : g.W.CiteWriter.Way) → g.W.CiteWriter.agrees l.writer way
      → map (λ s. s.items) l.found.items
      ≡ map (shown_repeats l.known.mentions.now (map (with_mention first_task) l.subjects) l.known.told.now.states.items (kept_last l.known.told.now.firsts.items l.known.told.now.again.items)
      (g.W.CiteWriter.state l.fn.writer way).cite) (take l.request-index (map (λ r. r.items) l.repeats));
  asked : (way : g.W.CiteWriter.Way) → g.W.CiteWriter.agrees l.writer way
      → desk (g.W.CiteWriter.state l.writer way) l.counter
      ≡ after
      (map cite_task (flat_map (repeat_tasks l.known.mentions.now (map (with_mention first_task) l.subjects) l.known.told.now.states.items) (take l.request-index (map (λ r. r.items) l.repeats))))
      (desk (g.W.CiteWriter.state l.fn.writer way) l.fn.counter);
  agreed : (way : g.W.CiteWriter.Way) → g.W.CiteWriter.agrees l.writer way → g.W.CiteWriter.agrees l.fn.writer way;
}
