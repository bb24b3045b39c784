use Rattle.std.proofs.Common.{Ok}
use Rattle.cite_sorting.specs.Order.{AreTies}
use Rattle.cite_sorting.specs.Ties.{IsOrderOf, indexes_in}
use Rattle.cite_sorting.proofs.ties.tied_by.Given as goal

-- the groups are those by the keys that were read
abbrev pub invariant-loop-key : goal.invariant-loop-key
invariant-loop-key g l =
    IsOrderOf l.cites (indexes_in l.ties.items)
    × AreTies g.V.Ord.cmp (λ k i v. goal.F-post g l.value k i (Ok v)) l.key l.ties.items
