-- The first child shows nothing: the others decide.
use Rattle.std.proofs.Common.{◌∙◌, sym, ap, arith, refl}
use Rattle.std.specs.List.{list_any}
use Rattle.value_trees.specs.ChildView.{child_view}
use Rattle.value_trees.specs.Tree.{child_has_content}
use Rattle.layout_context.proofs.FrameSteps.{shows_later}
use Rattle.layout_context.proofs.tree_end.shows.Goals as goal

pub returns-else-child_shows : goal.returns-else-child_shows
returns-else-child_shows c =
    let nothing = sym c.child_shows.ensures ∙ c.if-child_shows.false in
    let later = c.any_has_content.ensures ∙ ap (list_any (λ x. child_has_content (child_view x))) c.split_at.ensures.back in
    shows_later c.args.offset c.args.children.now _ c.index-children-0.result c.any_has_content.result refl (omega arith) c.index-children-0.is nothing later
