use Rattle.std.proofs.Common.{◌≡◌, ◌++◌, ◌+◌, Ok}
use Rattle.std.specs.List.Sorted.{IsPermutation}
use Rattle.cite_sorting.specs.Order.{AreTies}
use Rattle.cite_sorting.specs.Ties.{indexes_in}
use Rattle.cite_sorting.proofs.ties.disambiguated.Given as goal

-- the finer groups have the indexes of those that were read, in order
abbrev pub invariant-loop-tied : goal.invariant-loop-tied
invariant-loop-tied g l =
    IsPermutation (indexes_in l.yielded) (indexes_in l.finer.items)
    × (l.yielded ++ l.tied-iterator.rest.items ≡ l.fn.ties.items)
    × (AreTies g.V.Ord.cmp (λ k i v. goal.F-post g l.value k i (Ok v)) l.key l.fn.ties.items
    → AreTies g.V.Ord.cmp (λ k i v. goal.F-post g l.value k i (Ok v)) (l.key + 1) l.finer.items)
