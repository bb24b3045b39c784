-- The child at the index holds the first name, or none does.
use Rattle.std.proofs.Common.{◌≡◌, true, is_some, arith, sym, ap, ◌∙◌}
use Rattle.std.proofs.lemmas.List.{get_or_read}
use Rattle.value_trees.specs.ChildView.{child_view}
use Rattle.value_trees.specs.Tree.{find_elem}
use Rattle.rounds_substitution.specs.Names.{is_name}
use Rattle.rounds_substitution.specs.Rewriting.{holds_name, name_replaced, first_name_replaced}
use Rattle.rounds_substitution.proofs.Removing.{all_changed}
use Rattle.rounds_substitution.proofs.Replacing.{held_at, none_held, none_replaced, first_written}
use Rattle.rounds_substitution.proofs.rewriting.+replace.Goals as goal

pub replace_first_name-returns-then-branch-clause-found : goal.replace_first_name-returns-then-branch-clause-found
replace_first_name-returns-then-branch-clause-found t c =
    let l = c.loop-i.invariant in
    let x = c.index_mut.result.now in
    let here = c.index_mut.ensures.value ∙ l.unvisited c.loop-i.i x (omega arith) in
    let holds : holds_name (child_view x) ≡ true = sym c.in_ok-replace_name.ensures.found ∙ c.if-branch.true in
    sym (ap (λ cs. is_some (find_elem is_name cs)) (sym c.tree.view_is)
    ∙ held_at c.tree.inside.0.items c.loop-i.i x (omega arith) (sym (ap (λ y. holds_name (child_view y)) here) ∙ holds))

pub replace_first_name-returns-then-branch-clause-written : goal.replace_first_name-returns-then-branch-clause-written
replace_first_name-returns-then-branch-clause-written t c =
    let l = c.loop-i.invariant in
    let s = c.args.substitute.now in
    let x = c.index_mut.result.now in
    let w = c.replace_name.new.child in
    let ys = c.tree.inside.0.items in
    let here = get_or_read ys c.loop-i.i x (omega arith) (c.index_mut.ensures.value ∙ l.unvisited c.loop-i.i x (omega arith)) w in
    let holds : holds_name (child_view x) ≡ true = sym c.in_ok-replace_name.ensures.found ∙ c.if-branch.true in
    first_written s c.loop-i.tree-inside.0.items ys c.loop-i.i w l.same_length l.unvisited l.visited l.without (omega arith)
    (sym (ap (λ y. holds_name (child_view y)) here) ∙ holds)
    (c.in_ok-replace_name.ensures.written ∙ ap (λ y. name_replaced s (child_view y)) here)
    ∙ ap (first_name_replaced s) c.tree.view_is

pub replace_first_name-returns-clause-found : goal.replace_first_name-returns-clause-found
replace_first_name-returns-clause-found t c =
    let l = c.loop-i.invariant in
    sym (ap (λ cs. is_some (find_elem is_name cs)) (sym c.tree.view_is) ∙ none_held c.tree.inside.0.items (λ k d h. l.without k d (omega (arith, h))))

pub replace_first_name-returns-clause-written : goal.replace_first_name-returns-clause-written
replace_first_name-returns-clause-written t c =
    let l = c.loop-i.invariant in
    let s = c.args.substitute.now in
    all_changed (name_replaced s) c.loop-i.tree-inside.0.items c.tree.inside.0.items l.same_length (λ k d h. l.visited k d (omega (arith, h)))
    ∙ none_replaced s c.tree.inside.0.items (λ k d h. l.without k d (omega (arith, h)))
    ∙ ap (first_name_replaced s) c.tree.view_is
