use Rattle.std.proofs.Common.{◌≡◌, map, take}
use Rattle.std.specs.List.{enumerate_from}
use Rattle.mentions_ranges.specs.NumberRanges.{follows_range, in_range, rises, shows_number}
use Rattle.mentions_ranges.proofs.Linked.{IsUpTo}
use Rattle.mentions_ranges.proofs.numbers.number_ranges.Given as goal

abbrev pub invariant-loop-k : goal.invariant-loop-k
invariant-loop-k l = record {
  around : IsUpTo shows_number rises l.cites l.k l.around;
  follows : l.follows ≡ follows_range l.cites l.k;
  collapsed : l.collapsed.items ≡ map (λ p. in_range l.cites p.0 p.1) (take l.k (enumerate_from 0 l.cites));
}
