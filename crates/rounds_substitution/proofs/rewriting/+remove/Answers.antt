-- All children hold no names any more, and then those that are names are taken out.
use Rattle.std.proofs.Common.{map, not, arith, ap, ◌∙◌}
use Rattle.std.specs.List.{filter}
use Rattle.rounds_substitution.specs.Rewriting.{child_is_name, child_without_names}
use Rattle.rounds_substitution.proofs.Removing.{all_changed, filter-without}
use Rattle.rounds_substitution.proofs.rewriting.+remove.Goals as goal

pub remove_names-returns : goal.remove_names-returns
remove_names-returns t c =
    let l = c.loop-i.invariant in
    let inside = all_changed child_without_names c.loop-i.tree-inside.0.items c.tree.inside.0.items l.same_length (λ k d h. l.visited k d (omega (arith, h))) in
    let whole = inside ∙ ap (map child_without_names) c.tree.view_is in
    c.drop_names.ensures ∙ ap (filter (λ d. not (child_is_name d))) whole ∙ filter-without c.args.tree.now
