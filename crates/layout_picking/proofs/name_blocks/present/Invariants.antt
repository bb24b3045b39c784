use Rattle.std.proofs.Common.{◌≡◌, ◌++◌, filter, drop}
use Rattle.layout_picking.specs.Names.{is_present}
use Rattle.layout_picking.proofs.name_blocks.present.Given as goal

abbrev pub invariant-loop-variable : goal.invariant-loop-variable
invariant-loop-variable g l =
    l.present.items ++ filter (is_present (g.T.EntryLike.answers l.entry) l.notes) (drop l.variable-index l.variables) ≡ filter (is_present (g.T.EntryLike.answers l.entry) l.notes) l.variables
