-- A last child that the next one joins.
use Rattle.std.proofs.Common.{map, sym, ap, ◌∙◌}
use Rattle.value_trees.specs.ChildView.{child_view}
use Rattle.value_trees.proofs.Simplifying.{put_joined, on_ok-then}
use Rattle.value_trees.proofs.simplify.append.Goals as goal

pub returns-in_ok-join-in-Some : goal.returns-in_ok-join-in-Some
returns-in_ok-join-in-Some c =
    let whole = ap (map child_view) (sym c.in-Some.ensures.items) ∙ c.children.view_is in
    let joins = c.stays_apart.ensures.joint c.if-stays_apart.false c.pop.new.self.items c.in-Some.last (c.deref.ensures.value ∙ c.in-Some.ensures.items) in
    on_ok-then c.push-in-Some.result _ _ _ (put_joined c.pop.new.self.items c.in-Some.last _ _ _ whole joins c.in_ok-join-in-Some.ensures) c.push-in-Some.ensures
