-- The first holder, and the tree after a write of it.
use Rattle.std.proofs.Common.{◌≡◌, ◌<◌, length, arith, refl, ap, ◌∙◌}
use Rattle.value_trees.specs.ChildView.{child_view}
use Rattle.value_trees.specs.FirstNamesStep.{names_lie_deeper, holder_index, first_holder, put_holder}
use Rattle.value_trees.proofs.FirstPlace.{seen}
use Rattle.value_trees.proofs.FirstNamesSteps.{deeper_within, holder_at, put_at}
use Rattle.value_trees.proofs.first_names.holder_mut.Goals as goal

pub index_mut-requires : goal.index_mut-requires
index_mut-requires c =
    let xs = c.tree.inside.0.items in
    let p : c.holder_index-n.result ≡ holder_index (seen xs) = c.holder_index-n.ensures in
    omega (arith, p, deeper_within xs (ap names_lie_deeper c.tree.view_is ∙ c.requires))

pub returns : goal.returns
returns c =
    let xs = c.tree.inside.0.items in
    let n = c.holder_index-n.result in
    let p : n ≡ holder_index (seen xs) = c.holder_index-n.ensures in
    let l : n < length xs = omega (arith, p, deeper_within xs (ap names_lie_deeper c.tree.view_is ∙ c.requires)) in (
      (refl, λ w. put_at xs n w p ∙ ap (λ cs. put_holder cs (child_view w)) c.tree.view_is),
      record {
        writes_back = tt;
        value = holder_at xs n c.index_mut.result.now p l c.index_mut.ensures.value ∙ ap first_holder c.tree.view_is;
      },
    )
