use Rattle.std.proofs.Common.{◌≡◌, ◌&&◌, ℕ, take}
use Rattle.std.specs.Prelude.{nat_eq}
use Rattle.std.specs.List.{list_any}
use Rattle.mentions_groups.specs.Suffixes.{is_mistaken_for}
use Rattle.mentions_groups.proofs.suffixes.asked_entries.Given as goal

abbrev pub invariant-loop-k : goal.invariant-loop-k
invariant-loop-k l =
    (n : ℕ) → list_any (nat_eq n) l.asked.keys
    ≡ list_any (λ m. nat_eq n m.entry && (m.occurs && list_any (is_mistaken_for l.mentions m) l.mentions)) (take l.k l.mentions)
