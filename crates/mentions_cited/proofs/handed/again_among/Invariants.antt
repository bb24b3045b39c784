use Rattle.std.proofs.Common.{◌≡◌, ℕ, take}
use Rattle.std.specs.Prelude.{nat_eq}
use Rattle.std.specs.List.{list_any, zip}
use Rattle.mentions_cited.specs.Handed.{is_later}
use Rattle.mentions_cited.proofs.handed.again_among.Given as goal

abbrev pub invariant-loop-k : goal.invariant-loop-k
invariant-loop-k l = (n : ℕ) → list_any (nat_eq n) l.again.keys ≡ list_any (is_later n) (take l.k (zip l.cites l.notes))
