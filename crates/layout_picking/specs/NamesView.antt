-- The plain data that a written name and variables of names stand for.
use Rattle.std.specs.Prelude.{ℕ, List}
use Rattle.value_sources.specs.declared.taxonomy.NameVariable.{NameVariable}
use Rattle.layout_picking.specs.declared.name_blocks.NameVariables.{NameVariables}
use Rattle.layout_picking.specs.declared.name_blocks.NameVariables.TheVariants as variables
use Rattle.layout_picking.specs.declared.pieces.Leaf.{Leaf}
use Rattle.layout_picking.specs.Pieces.{LeafValue}
use Rattle.layout_picking.specs.PiecesView.{leaf_view}

-- its place, and its text
abbrev pub name_view : ℕ × Leaf → ℕ × LeafValue
name_view name = (name.0, leaf_view name.1)

abbrev pub variables_view : NameVariables → List NameVariable
variables_view (variables.Lent vs) = vs.now
variables_view (variables.Own vs) = vs.items
