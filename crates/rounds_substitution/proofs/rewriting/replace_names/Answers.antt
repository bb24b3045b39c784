-- One child on; enough names; and no more children.
use Rattle.std.proofs.Common.{◌<◌, ◌+◌, ◌∷◌, map, drop, length, rules, arith, sym, ap, ◌∙◌}
use Rattle.std.proofs.lemmas.List.{get_or_read}
use Rattle.value_trees.specs.ChildView.{child_view}
use Rattle.rounds_substitution.specs.Rewriting.{name_replaced, up_to_names}
use Rattle.rounds_substitution.proofs.Counting.{changed_more, counted_next, cut_off, at_last}
use Rattle.rounds_substitution.proofs.Replacing.{up_to_found, up_to_past}
use Rattle.rounds_substitution.proofs.rewriting.replace_names.Goals.{then-branch, else-branch}
use Rattle.rounds_substitution.proofs.rewriting.replace_names.Goals as goal

pub returns-then-left-eq0 : goal.returns-then-left-eq0
returns-then-left-eq0 c =
    let l = c.loop-i.invariant in
    ap (map child_view) c.truncate.ensures.items
    ∙ cut_off (name_replaced c.args.substitute.now) c.loop-i.tree-inside.0.items c.tree.inside.0.items c.loop-i.i c.loop-i.left _ l.same_length (omega arith) l.visited l.counted c.if-left-eq0.true
    ∙ ap (λ cs. map (name_replaced c.args.substitute.now) (up_to_names c.args.n cs)) c.tree.view_is

pub loop-i-preserved : goal.loop-i-preserved
loop-i-preserved c =
    let l = c.loop-i.invariant in
    let i = c.loop-i.i in
    let ys = c.tree.inside.0.items in
    let y = c.index_mut.result.now in
    let here = c.index_mut.ensures.value ∙ l.unvisited i y (omega arith) in
    let inside : i < length ys = omega arith in
    let rest = map child_view (drop (i + 1) ys) in
    record {
      same_length = search rules;
      unvisited = search rules;
      visited = changed_more (name_replaced c.args.substitute.now) c.loop-i.tree-inside.0.items ys i c.replace_name.new.child l.visited (omega arith)
          (λ d. c.in_ok-replace_name.ensures.written ∙ ap (λ x. name_replaced c.args.substitute.now (child_view x)) (get_or_read ys i y inside here d));
      counted = elim c.if-branch.branch [
        | then-branch w ↦ counted_next ys i y c.loop-i.left _ _ inside here l.counted
            (up_to_found c.loop-i.left (child_view y) rest c.if-left-eq0.false (sym c.in_ok-replace_name.ensures.found ∙ w.if-branch.true)
            ∙ ap (λ m. child_view y ∷ up_to_names m rest) (sym w.left-is))
        | else-branch w ↦ counted_next ys i y c.loop-i.left _ _ inside here l.counted
            (up_to_past c.loop-i.left (child_view y) rest c.if-left-eq0.false (sym c.in_ok-replace_name.ensures.found ∙ w.if-branch.false)
            ∙ ap (λ m. child_view y ∷ up_to_names m rest) (sym w.left-is))
      ];
    }

pub returns : goal.returns
returns c =
    let l = c.loop-i.invariant in
    at_last (name_replaced c.args.substitute.now) c.loop-i.tree-inside.0.items c.tree.inside.0.items c.loop-i.i c.loop-i.left _ l.same_length (omega arith) l.visited l.counted
    ∙ ap (λ cs. map (name_replaced c.args.substitute.now) (up_to_names c.args.n cs)) c.tree.view_is
