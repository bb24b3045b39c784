-- The last child of a tree.
use Rattle.std.proofs.Common.{◌≡◌, ◌+◌, ◌-◌, length, arith}
use Rattle.layout_context.specs.OpenFrames.{extended}
use Rattle.layout_context.proofs.FrameSteps.{child_changed_at_end}
use Rattle.layout_context.proofs.tree_end.extend_last.Goals as goal

pub returns-clause-done : goal.returns-clause-done
returns-clause-done c =
    let last : c.len-len.result - 1 + 1 ≡ length c.tree.inside.0.items = omega (arith, c.tree.inside.0.ok.0) in
    child_changed_at_end c.extend.result (extended c.args.more.now) c.tree.inside.0.items c.args.tree.now (c.len-len.result - 1) c.index_mut.result.now c.extend.new.child c.tree.view_is last c.index_mut.ensures.value c.extend.ensures
