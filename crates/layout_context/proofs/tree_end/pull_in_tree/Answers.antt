-- The last child of a tree.
use Rattle.std.proofs.Common.{◌≡◌, ◌+◌, ◌-◌, length, arith}
use Rattle.layout_context.specs.Steps.{ends_quoted, pulled}
use Rattle.layout_context.specs.Quotes.{quotes_view}
use Rattle.layout_context.proofs.FrameSteps.{moved_at_end, changed_at_end}
use Rattle.layout_context.proofs.tree_end.pull_in_tree.Goals as goal

pub returns-clause-moved : goal.returns-clause-moved
returns-clause-moved c =
    let last : c.len-len.result - 1 + 1 ≡ length c.tree.inside.0.items = omega (arith, c.tree.inside.0.ok.0) in
    moved_at_end c.pull_in_child.result (ends_quoted (quotes_view c.args.quotes)) c.tree.inside.0.items c.args.tree.now (c.len-len.result - 1) c.index_mut.result.now c.tree.view_is last c.index_mut.ensures.value c.pull_in_child.ensures.moved

pub returns-clause-tree : goal.returns-clause-tree
returns-clause-tree c =
    let last : c.len-len.result - 1 + 1 ≡ length c.tree.inside.0.items = omega (arith, c.tree.inside.0.ok.0) in
    changed_at_end c.pull_in_child.result (pulled (quotes_view c.args.quotes) c.args.mark.now) c.tree.inside.0.items c.args.tree.now (c.len-len.result - 1) c.index_mut.result.now c.pull_in_child.new.child c.tree.view_is last c.index_mut.ensures.value c.pull_in_child.ensures.child
