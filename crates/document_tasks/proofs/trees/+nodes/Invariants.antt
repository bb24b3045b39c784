-- Nodes are read one after another; each call reads a part of what its caller reads.
use Rattle.std.proofs.Common.{◌+◌, ◌*◌}
use Rattle.serde_json.specs.Data.{depth, items_depth}
use Rattle.serde_json.specs.View.{view, items_view}
use Rattle.document_values.proofs.Progress.{Progress}
use Rattle.document_tasks.specs.TreeForm.{node_form}
use Rattle.document_tasks.proofs.trees.+nodes.Given as goal

abbrev pub decreases-node_of : goal.decreases-node_of
decreases-node_of l = 5 * depth (view l.value.now) + 4

abbrev pub decreases-node_of_kind : goal.decreases-node_of_kind
decreases-node_of_kind l = 5 * depth (view l.value.now) + 3

abbrev pub decreases-all_nodes : goal.decreases-all_nodes
decreases-all_nodes l = 5 * items_depth (items_view l.items.now) + 5

abbrev pub decreases-children_at : goal.decreases-children_at
decreases-children_at l = 5 * depth (view l.object.now) + 1

abbrev pub decreases-element_of : goal.decreases-element_of
decreases-element_of l = 5 * depth (view l.value.now) + 2

abbrev pub invariant-all_nodes-loop-place : goal.invariant-all_nodes-loop-place
invariant-all_nodes-loop-place l = Progress node_form l.items l.place l.nodes
