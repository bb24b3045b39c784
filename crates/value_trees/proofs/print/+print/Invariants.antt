-- Printing: what the children up to now wrote.
use Rattle.std.proofs.Common.{map, take}
use Rattle.std.specs.Fmt.{HasWritten, IsPlainFormatter}
use Rattle.value_trees.specs.ChildView.{child_view}
use Rattle.value_trees.specs.Tree.{plain}
use Rattle.value_trees.proofs.print.+print.Given as goal

abbrev pub invariant-print_children-loop-child : goal.invariant-print_children-loop-child
invariant-print_children-loop-child g l =
    IsPlainFormatter l.initial.f → HasWritten g.W.Write.write_str_gives l.initial.f (plain (map child_view (take l.child-index l.child-items))) l.f
