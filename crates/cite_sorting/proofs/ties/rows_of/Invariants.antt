use Rattle.std.proofs.Common.{◌≡◌, All, Ok, map}
use Rattle.cite_sorting.proofs.ties.rows_of.Given as goal

-- the rows are those of the indexes that were read
abbrev pub invariant-loop-index : goal.invariant-loop-index
invariant-loop-index g l =
    (map (λ row. row.index) l.rows.items ≡ l.yielded)
    × All (λ row. goal.F-post g l.value l.key row.index (Ok row.value)) l.rows.items
