-- Writing: what the children up to now wrote.
use Rattle.std.proofs.Common.{map, take}
use Rattle.std.specs.Fmt.{WritesInCalls}
use Rattle.value_trees.specs.ChildView.{child_view}
use Rattle.value_trees.specs.Tree.{plain}
use Rattle.value_trees.proofs.elem.+write.Given as goal

abbrev pub invariant-ElemChildren::write_buf-loop-child : goal.invariant-ElemChildren::write_buf-loop-child
invariant-ElemChildren::write_buf-loop-child g l =
    WritesInCalls g.W.Write.write_str_gives l.initial.w (plain (map child_view (take l.child-index l.child-items))) l.w
