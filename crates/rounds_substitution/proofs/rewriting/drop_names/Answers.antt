-- What `retain` leaves is a filter.
use Rattle.std.specs.List.{filter}
use Rattle.std.proofs.Common.{rules, map, not, ap, ◌∙◌}
use Rattle.std.proofs.lemmas.Fn.{filter_same}
use Rattle.value_trees.specs.ChildView.{child_view}
use Rattle.rounds_substitution.specs.Rewriting.{child_is_name}
use Rattle.rounds_substitution.proofs.Removing.{filter-view}
use Rattle.rounds_substitution.proofs.rewriting.drop_names.Goals as goal

pub returns : goal.returns
returns c =
    let left = filter_same _ (λ x. not (child_is_name (child_view x))) _ (λ x b f' k. search rules) _ _ c.retain.ensures.filtered in
    ap (map child_view) left ∙ filter-view (λ d. not (child_is_name d)) c.tree.inside.0.items ∙ ap (filter (λ d. not (child_is_name d))) c.tree.view_is
