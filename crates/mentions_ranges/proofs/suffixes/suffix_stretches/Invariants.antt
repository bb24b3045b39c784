use Rattle.std.proofs.Common.{◌≡◌, map}
use Rattle.std.specs.List.{range_with_len}
use Rattle.mentions_ranges.specs.Stretches.{is_later}
use Rattle.mentions_ranges.specs.SuffixStretches.{fits, in_stretch, joins, suffixes_rise}
use Rattle.mentions_ranges.proofs.Linked.{IsUpTo}
use Rattle.mentions_ranges.proofs.suffixes.suffix_stretches.Given as goal

abbrev pub invariant-loop-k : goal.invariant-loop-k
invariant-loop-k l = record {
  around : IsUpTo fits suffixes_rise l.cites l.k l.around;
  later : l.is_later ≡ is_later fits joins l.cites l.k;
  collapsed : l.collapsed.items ≡ map (in_stretch l.ranges l.cites) (range_with_len 0 l.k);
}
