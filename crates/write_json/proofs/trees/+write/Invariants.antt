-- What is left is yet to be written.
use Rattle.std.proofs.Common.{◌≡◌, ◌++◌, drop, map, string_bytes}
use Rattle.serde_json.specs.Data.{array}
use Rattle.serde_json.specs.View.{items_of}
use Rattle.serde_json.specs.Written.{compact_text}
use Rattle.value_trees.specs.ChildView.{child_view}
use Rattle.write_json.specs.TreeData.{child_data}
use Rattle.write_json.proofs.Items.{rest_text}
use Rattle.write_json.proofs.trees.+write.Given as goal

abbrev pub invariant-write_children-loop-child : goal.invariant-write_children-loop-child
invariant-write_children-loop-child l =
    string_bytes l.out ++ rest_text (λ c. child_data (child_view c)) l.later (drop l.child-index l.child-items)
    ≡ string_bytes l.fn.out ++ compact_text (array (items_of (map (λ c. child_data (child_view c)) l.child-items)))
