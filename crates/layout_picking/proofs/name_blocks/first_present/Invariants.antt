use Rattle.std.proofs.Common.{◌≡◌, find, drop}
use Rattle.layout_picking.specs.Names.{is_present}
use Rattle.layout_picking.proofs.name_blocks.first_present.Given as goal

abbrev pub invariant-loop-variable : goal.invariant-loop-variable
invariant-loop-variable g l = find (is_present (g.T.EntryLike.answers l.entry) l.notes) (drop l.variable-index l.substitute) ≡ find (is_present (g.T.EntryLike.answers l.entry) l.notes) l.substitute
