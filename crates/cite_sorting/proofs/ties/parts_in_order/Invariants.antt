use Rattle.std.proofs.Common.{◌≡◌, ◌++◌, [], None, drop, map, option_map}
use Rattle.cite_sorting.specs.Ties.{runs}
use Rattle.cite_sorting.proofs.ties.parts_in_order.Given as goal

-- the parts, with those of the rows that are left
abbrev pub invariant-loop-row : goal.invariant-loop-row
invariant-loop-row g l =
    map (λ part. part.items) l.parts.items
    ++ runs g.V.PartialEq.eq (option_map (λ it. it.now) l.before) l.equal.items (drop l.row-index l.rows)
    ≡ runs g.V.PartialEq.eq None [] l.rows
