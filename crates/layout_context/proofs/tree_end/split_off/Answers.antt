-- The children before a place, and those from it on.
use Rattle.std.proofs.Common.{map, take, drop, ap, sym, ◌∙◌}
use Rattle.std.proofs.lemmas.List.{take-map, drop-map}
use Rattle.value_trees.specs.ChildView.{child_view}
use Rattle.layout_context.proofs.tree_end.split_off.Goals as goal

pub returns-clause-kept : goal.returns-clause-kept
returns-clause-kept c =
    ap (map child_view) c.in_ok-split_off.ensures.items ∙ sym (take-map child_view c.args.start c.tree.inside.0.items) ∙ ap (take c.args.start) c.tree.view_is

pub returns-clause-taken : goal.returns-clause-taken
returns-clause-taken c =
    ap (map child_view) c.in_ok-split_off.ensures.tail ∙ sym (drop-map child_view c.args.start c.tree.inside.0.items) ∙ ap (drop c.args.start) c.tree.view_is
