use Rattle.std.proofs.Common.{◌≡◌, ℕ, Some, length, map, take}
use Rattle.std.specs.Prelude.{filter}
use Rattle.std.specs.List.{enumerate_from}
use Rattle.mentions_groups.specs.Counts.{count}
use Rattle.mentions_groups.specs.Suffixes.{is_in_class, suffix_of}
use Rattle.mentions_groups.proofs.counted.suffixes_by.Given as goal

abbrev pub invariant-loop-entry : goal.invariant-loop-entry
invariant-loop-entry l = record {
  counts : (n : ℕ) → count l.counts n ≡ length (filter (is_in_class (Some n)) (take l.entry-index l.entries));
  found : l.found.items ≡ map (suffix_of l.entries) (take l.entry-index (enumerate_from 0 l.entries));
}
