use Rattle.std.proofs.Common.{◌≡◌, ◌++◌, map, drop}
use Rattle.layout_picking.specs.Names.{block_persons}
use Rattle.layout_picking.proofs.names.names_meta.Given as goal

abbrev pub invariant-loop-variable : goal.invariant-loop-variable
invariant-loop-variable g l =
    l.persons.items ++ map (block_persons (g.T.EntryLike.answers l.entry)) (drop l.variable-index l.blocks) ≡ map (block_persons (g.T.EntryLike.answers l.entry)) l.blocks
