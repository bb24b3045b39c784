use Rattle.std.proofs.Common.{◌≡◌, ◌++◌, filter, drop}
use Rattle.layout_picking.specs.Names.{is_variable}
use Rattle.layout_picking.proofs.name_blocks.NameVariables.only.Given as goal

abbrev pub invariant-loop-variable : goal.invariant-loop-variable
invariant-loop-variable l =
    l.kept.items ++ filter (is_variable l.only) (drop l.variable-index l.variable-items) ≡ filter (is_variable l.only) l.variable-items
