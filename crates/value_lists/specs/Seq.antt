-- What a write through a borrowed item of a list leaves.
use Rattle.std.specs.Prelude.{ℕ, List, Option, slice_set}
use Rattle.std.specs.Borrow.{LendsIf, MutBor, Fml, RattleType}
use Rattle.value_lists.specs.contracts.seq.Seq.{the_row}

-- the list ends as it was, with item i set to the last value behind r
abbrev pub LendsAt : (T : RattleType) → MutBor (List T.Denot) → ℕ → Option (MutBor T.Denot) → Fml
LendsAt T list i r = LendsIf (the_row T) T list r (slice_set list.now i) list.now
