-- Joining at every depth: all children are simple, and then their own level is joined.
use Rattle.std.proofs.Common.{map, arith, ap, ◌∙◌}
use Rattle.value_trees.specs.Simplify.{level_joined, child_simple}
use Rattle.value_trees.proofs.Joining.{level_joined-simple}
use Rattle.value_trees.proofs.Simplifying.{all_simple, on_ok-then}
use Rattle.value_trees.proofs.elem.+simplify.Goals as goal

pub ElemChildren::simplify_children-returns : goal.ElemChildren::simplify_children-returns
ElemChildren::simplify_children-returns t c =
    let l = c.loop-i.invariant in
    let simple = all_simple c.loop-i.self-inside.0.items c.self.inside.0.items l.same_length (λ k d h. l.visited k d (omega (arith, h))) in
    let whole = simple ∙ ap (map child_simple) c.self.view_is in
    on_ok-then c.join_adjacent.result _ _ _ (ap level_joined whole ∙ level_joined-simple c.args.self.now) c.join_adjacent.ensures
