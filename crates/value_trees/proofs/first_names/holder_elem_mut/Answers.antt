-- The element that the first holder is, and the tree after a write of it.
use Rattle.std.proofs.Common.{◌≡◌, ◌<◌, length, arith, sym, ap, ◌∙◌}
use mathlib.Core.Logic.{inr}
use borrow.Follows.Closed.{read_of}
use Rattle.std.specs.Option.{ghost_name_of}
use Rattle.value_trees.specs.FirstNamesStep.{holder_index, holder_elem, put_holder_elem}
use Rattle.value_trees.proofs.FirstPlace.{seen}
use Rattle.value_trees.proofs.Nested.{set_same}
use Rattle.value_trees.proofs.FirstNamesSteps.{no_elem, elem_at, put_elem_at}
use Rattle.value_trees.proofs.first_names.holder_elem_mut.Goals as goal

pub returns-then-n-len : goal.returns-then-n-len
returns-then-n-len c =
    let xs = c.tree.inside.0.items in
    let p : c.holder_index-n.result ≡ holder_index (seen xs) = c.holder_index-n.ensures in
    (ap inr c.tree.view_is, record { writes_back = tt; value = sym (no_elem xs (omega (arith, p))) ∙ ap holder_elem c.tree.view_is })

pub returns : goal.returns
returns c =
    let xs = c.tree.inside.0.items in
    let n = c.holder_index-n.result in
    let x = c.index_mut.result.now in
    let p : n ≡ holder_index (seen xs) = c.holder_index-n.ensures in
    let l : n < length xs = omega arith in
    let is = c.index_mut.ensures.value in
    let same = ap seen (set_same xs n x is) ∙ c.tree.view_is in (
      λ i. read_of (ghost_name_of c.elem_mut.result) (λ w. (put_elem_at xs n x p l is w ∙ ap (λ cs. put_holder_elem cs w) c.tree.view_is) i) (same i),
      record {
        writes_back = tt;
        value = c.elem_mut.ensures.value ∙ elem_at xs n x p l is ∙ ap holder_elem c.tree.view_is;
      },
    )
