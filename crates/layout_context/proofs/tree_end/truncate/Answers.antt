-- The first children.
use Rattle.std.proofs.Common.{map, take, ap, sym, ◌∙◌}
use Rattle.std.proofs.lemmas.List.{take-map}
use Rattle.value_trees.specs.ChildView.{child_view}
use Rattle.layout_context.proofs.tree_end.truncate.Goals as goal

pub returns : goal.returns
returns c =
    ap (map child_view) c.truncate.ensures.items ∙ sym (take-map child_view c.args.len c.tree.inside.0.items) ∙ ap (take c.args.len) c.tree.view_is
