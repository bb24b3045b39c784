-- What `retain` leaves is a filter.
use Rattle.std.proofs.Common.{rules, map, ap, ◌∙◌}
use Rattle.std.proofs.lemmas.Fn.{filter_same}
use Rattle.driver_assembly.specs.ShownView.{shown_view}
use Rattle.driver_assembly.specs.WithoutEmpty.{has_something}
use Rattle.driver_assembly.proofs.Seen.{filter-view}
use Rattle.driver_assembly.proofs.without_empty.remove_empty.Goals as goal

pub returns : goal.returns
returns c =
    let left = filter_same _ (λ x. has_something (shown_view x)) _ (λ x b f' k. search rules) _ _ c.retain.ensures.filtered in
    ap (map shown_view) left ∙ filter-view shown_view has_something c.args.cites.now.items
