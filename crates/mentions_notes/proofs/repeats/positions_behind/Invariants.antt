use Rattle.std.proofs.Common.{◌≡◌, map, option_copied, take}
use Rattle.std.specs.List.{enumerate_from}
use Rattle.std.specs.Option.{option_or}
use Rattle.mentions_notes.specs.Repeats.{before_at, position_behind}
use Rattle.mentions_notes.proofs.repeats.positions_behind.Given as goal

abbrev pub invariant-loop-cite : goal.invariant-loop-cite
invariant-loop-cite g l = record {
  last : option_copied l.last ≡ option_or (before_at l.cites l.cite-index) (option_copied l.fn.outside);
  positions : l.positions.items ≡ map (λ p. position_behind g.L.PartialEq.eq (option_or (before_at l.cites p.0) (option_copied l.fn.outside)) p.1) (take l.cite-index (enumerate_from 0 l.cites));
}
