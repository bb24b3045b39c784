use Rattle.std.proofs.Common.{◌≡◌, ◌&&◌, ℕ, Some, take}
use Rattle.std.specs.Prelude.{nat_eq}
use Rattle.std.specs.List.{list_any}
use Rattle.mentions_groups.specs.Suffixes.{is_in_class}
use Rattle.mentions_groups.proofs.counted.adding.Given as goal

abbrev pub invariant-loop-entry : goal.invariant-loop-entry
invariant-loop-entry l =
    (n : ℕ) → list_any (nat_eq n) l.adding.keys ≡ list_any (λ e. e.adds_suffix && is_in_class (Some n) e) (take l.entry-index l.entries)
