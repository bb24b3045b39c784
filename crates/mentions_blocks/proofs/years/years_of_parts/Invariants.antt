use Rattle.std.proofs.Common.{◌≡◌, map, take}
use Rattle.std.specs.List.{enumerate_from}
use Rattle.mentions_blocks.specs.Years.{collapses, year_of}
use Rattle.mentions_blocks.proofs.Placing.{before_at}
use Rattle.mentions_blocks.proofs.years.years_of_parts.Given as goal

abbrev pub invariant-loop-cite : goal.invariant-loop-cite
invariant-loop-cite l = record {
  before : l.before ≡ before_at l.cites l.cite-index;
  collapses : l.collapses ≡ collapses l.cites l.how l.cite-index;
  found : l.found.items ≡ map (year_of l.cites l.how) (take l.cite-index (enumerate_from 0 l.cites));
}
