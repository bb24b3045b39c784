-- The laws of equality of trees.
use Rattle.value_trees.specs.SameTree.{same_trees-Decides}
use Rattle.value_trees.proofs.EqualTrees.{child_Decides, elem_Decides}
use Rattle.value_trees.proofs.equality.equality_laws.Goals as goal

pub returns : goal.returns
returns c = record { trees = same_trees-Decides; children = child_Decides; elements = elem_Decides }
