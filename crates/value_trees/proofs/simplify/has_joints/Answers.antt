-- Another child that stands apart from the last; and all of them at the end.
use Rattle.std.proofs.Common.{◌≡◌, ◌+◌, take, take_all, map, refl, sym, subst, ◌∙◌}
use Rattle.value_trees.specs.ChildView.{child_view}
use Rattle.value_trees.specs.Simplify.{level_joined}
use Rattle.value_trees.proofs.Simplifying.{taken_next, first_apart, more_apart, EndsIn}
use Rattle.value_trees.proofs.simplify.has_joints.Goals.{in-Some+else-joins, in_default}
use Rattle.value_trees.proofs.simplify.has_joints.Goals as goal

pub loop-child-init : goal.loop-child-init
loop-child-init c = record { apart = refl; ends = refl }

pub loop-child-preserved : goal.loop-child-preserved
loop-child-preserved c =
    let xs = c.args.children.now in
    let k = c.loop-child.child-index in
    let x = c.child-item.result in
    let next = taken_next xs k x c.loop-child-test.true c.child-item.is in
    let l = c.loop-child.invariant in
    record {
      apart = elim c.match-last.branch [
        | in-Some+else-joins w ↦
            more_apart (take k xs) (take (k + 1) xs) w.in-Some.before x next (subst (λ o. EndsIn o (take k xs)) w.in-Some.is l.ends) l.apart (sym w.joins.ensures ∙ w.if-joins.false)
        | in_default w ↦ first_apart (take k xs) (take (k + 1) xs) x next (subst (λ o. EndsIn o (take k xs)) w.in_default.is l.ends)
      ];
      ends = (take k xs, next);
    }

pub returns : goal.returns
returns c _ =
    let xs = c.args.children.now in
    subst (λ ys. level_joined (map child_view ys) ≡ map child_view ys) (take_all c.loop-child.child-index xs c.loop-child-test.false) c.loop-child.invariant.apart
