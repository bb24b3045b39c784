use Rattle.std.proofs.Common.{◌≡◌, map, take}
use Rattle.mentions_tables.specs.Asked.{asked_for, untold}
use Rattle.mentions_tables.specs.Steps.{AreFirsts}
use Rattle.mentions_tables.proofs.firsts.write_firsts.Given as goal

abbrev pub invariant-loop-subject : goal.invariant-loop-subject
invariant-loop-subject g l = record {
  firsts : (way : g.M.WrittenBy.Way) → g.M.WrittenBy.agrees l.writer way → AreFirsts (g.M.WrittenBy.writing l.fn.writer l.fn.counter way) (take l.subject-index l.subjects) l.firsts;
  asked : (way : g.M.WrittenBy.Way) → g.M.WrittenBy.agrees l.writer way
      → g.M.WrittenBy.writing l.writer l.counter way ≡ asked_for (map (λ s. (s.mention, untold)) (take l.subject-index l.subjects)) (g.M.WrittenBy.writing l.fn.writer l.fn.counter way);
  goes_on : g.M.WrittenBy.goes_on l.fn.writer l.writer;
}
