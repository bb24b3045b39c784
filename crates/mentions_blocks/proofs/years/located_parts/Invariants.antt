use Rattle.std.proofs.Common.{◌≡◌, ℕ, take}
use Rattle.std.specs.Prelude.{nat_eq}
use Rattle.std.specs.List.{list_any}
use Rattle.mentions_blocks.specs.Years.{is_located}
use Rattle.mentions_blocks.proofs.years.located_parts.Given as goal

abbrev pub invariant-loop-cite : goal.invariant-loop-cite
invariant-loop-cite l = (n : ℕ) → list_any (nat_eq n) l.located.keys ≡ is_located (take l.cite-index l.cites) n
