-- One child further, and behind the last one.
use Rattle.std.proofs.Common.{◌-◌, ◌<◌, ◌∙◌, length, ap, arith, rules}
use Rattle.mentions_authors.specs.Names.{names_within}
use Rattle.mentions_authors.specs.Substitution.{names_written}
use Rattle.mentions_authors.proofs.Writing.{left-at-end, left-next, written-at-end, written-next}
use Rattle.mentions_authors.proofs.rewriting.+write.Goals as goal

pub write_names-loop-i-preserved : goal.write_names-loop-i-preserved
write_names-loop-i-preserved t c =
    let l = c.loop-i.invariant in
    let i = c.loop-i.i in
    let xs = c.loop-i.tree-inside.0.items in
    let ys = c.tree.inside.0.items in
    let y = c.index_mut.result.now in
    let here = c.index_mut.ensures.value ∙ l.unvisited i y (omega arith) in
    let inside : i < length ys = omega arith in
    let within : i < length xs = omega arith in
    let fewer = c.in_ok-left.ensures.left in
    record {
      same_length = search rules;
      unvisited = search rules;
      left = left-next ys i y inside here c.loop-i.left _ fewer ∙ l.left;
      written = written-next ys i y inside here c.loop-i.left _ fewer c.args.substitute.now xs c.write_names_in.new.child _ within c.in_ok-left.ensures.written l.written;
    }

pub write_names-returns-clause-left : goal.write_names-returns-clause-left
write_names-returns-clause-left t c =
    let ys = c.tree.inside.0.items in
    left-at-end ys c.loop-i.i c.loop-i.left _ (omega arith) c.loop-i.invariant.left ∙ ap (λ cs. c.args.count - length (names_within cs)) c.tree.view_is

pub write_names-returns-clause-written : goal.write_names-returns-clause-written
write_names-returns-clause-written t c =
    let l = c.loop-i.invariant in
    let xs = c.loop-i.tree-inside.0.items in
    let ys = c.tree.inside.0.items in
    written-at-end c.args.substitute.now xs ys c.loop-i.i c.loop-i.left _ (omega (arith, l.same_length)) (omega arith) l.written ∙ ap (names_written c.args.substitute.now c.args.count) c.tree.view_is
