-- There are no more names than children.
use Rattle.std.proofs.Common.{map, length, arith, ap, ◌∙◌}
use Rattle.std.proofs.lemmas.List.{length-map}
use Rattle.std.proofs.lemmas.Result.{on_ok_weaker}
use Rattle.value_trees.specs.ChildView.{child_view}
use Rattle.rounds_substitution.specs.Rewriting.{name_replaced}
use Rattle.rounds_substitution.proofs.Replacing.{up_to_all}
use Rattle.rounds_substitution.proofs.rewriting.replace_each_name.Goals as goal

pub returns : goal.returns
returns c =
    let tree = c.args.tree.now in
    let whole = up_to_all c.len.result tree (omega (arith, ap length c.tree.view_is, length-map c.tree.inside.0.items child_view)) in
    on_ok_weaker c.replace_names.result (λ e. e ∙ ap (map (name_replaced c.args.substitute.now)) whole) c.replace_names.ensures
