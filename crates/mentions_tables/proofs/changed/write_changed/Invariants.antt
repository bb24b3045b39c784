use Rattle.std.proofs.Common.{◌≡◌, take}
use Rattle.std.specs.Prelude.{flat_map}
use Rattle.std.specs.List.{zip}
use Rattle.mentions_tables.specs.Asked.{asked_for, keeping, reading}
use Rattle.mentions_tables.specs.Steps.{all_changed, rekept, rewritten, tasks_of}
use Rattle.mentions_tables.proofs.changed.write_changed.Given as goal

abbrev pub invariant-loop-k : goal.invariant-loop-k
invariant-loop-k g l = record {
  again : (way : g.M.WrittenBy.Way) → g.M.WrittenBy.agrees l.writer way
      → l.mentions ≡ all_changed (rewritten (reading (g.M.WrittenBy.writing l.fn.writer l.fn.counter way)) l.changed) (take l.k (zip l.subjects l.states)) l.initial.mentions;
  kept : (way : g.M.WrittenBy.Way) → g.M.WrittenBy.agrees l.writer way
      → l.again ≡ all_changed (rekept (keeping (g.M.WrittenBy.writing l.fn.writer l.fn.counter way)) l.changed) (take l.k (zip l.subjects l.states)) l.initial.again;
  asked : (way : g.M.WrittenBy.Way) → g.M.WrittenBy.agrees l.writer way
      → g.M.WrittenBy.writing l.writer l.counter way ≡ asked_for (flat_map (tasks_of l.changed) (take l.k (zip l.subjects l.states))) (g.M.WrittenBy.writing l.fn.writer l.fn.counter way);
  goes_on : g.M.WrittenBy.goes_on l.fn.writer l.writer;
}
