-- The text that the last child is, and the tree after a write of it.
use Rattle.std.proofs.Common.{◌-◌, ◌+◌, ◌≡◌, length, arith, ap, ◌∙◌}
use borrow.Follows.Closed.{read_of}
use Rattle.std.specs.Option.{ghost_name_of}
use Rattle.value_trees.specs.LastTextStep.{end_text, put_end_text}
use Rattle.value_trees.proofs.FirstPlace.{seen}
use Rattle.value_trees.proofs.Nested.{set_same}
use Rattle.value_trees.proofs.LastTextSteps.{text_at, put_text_at}
use Rattle.value_trees.proofs.last_text.text_at_end.Goals as goal

pub returns : goal.returns
returns c =
    let xs = c.tree.inside.0.items in
    let i = c.len-len.result - 1 in
    let x = c.index_mut.result.now in
    let h : i + 1 ≡ length xs = omega arith in
    let is = c.index_mut.ensures.value in
    let same = ap seen (set_same xs i x is) ∙ c.tree.view_is in (
      λ j. read_of (ghost_name_of c.text_mut.result) (λ w. (put_text_at xs i x h is w ∙ ap (λ cs. put_end_text cs w) c.tree.view_is) j) (same j),
      record {
        writes_back = tt;
        value = c.text_mut.ensures.value ∙ text_at xs i x h is ∙ ap end_text c.tree.view_is;
      },
    )
