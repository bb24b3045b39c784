use Rattle.std.proofs.Common.{◌≡◌, drop}
use Rattle.std.specs.List.{list_all}
use Rattle.layout_picking.specs.Names.{is_present}
use Rattle.layout_picking.proofs.name_blocks.are_present.Given as goal

abbrev pub invariant-loop-variable : goal.invariant-loop-variable
invariant-loop-variable g l =
    list_all (is_present (g.T.EntryLike.answers l.entry) l.notes) (drop l.variable-index l.variables) ≡ list_all (is_present (g.T.EntryLike.answers l.entry) l.notes) l.variables
