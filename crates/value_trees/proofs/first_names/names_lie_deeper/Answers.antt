-- Whether the names lie deeper, of the child at the index.
use Rattle.std.proofs.Common.{◌≡◌, arith, refl, sym, ap, ◌∙◌}
use Rattle.value_trees.specs.FirstNamesStep.{names_lie_deeper, holder_index}
use Rattle.value_trees.proofs.FirstPlace.{seen}
use Rattle.value_trees.proofs.FirstNamesSteps.{not_deeper, deeper_at}
use Rattle.value_trees.proofs.first_names.names_lie_deeper.Goals as goal

pub returns-then-n-len : goal.returns-then-n-len
returns-then-n-len c =
    let xs = c.tree.inside.0.items in
    let p : c.holder_index-n.result ≡ holder_index (seen xs) = c.holder_index-n.ensures ∙ sym (ap holder_index c.tree.view_is) in
    (refl, sym (not_deeper xs (omega (arith, p))) ∙ ap names_lie_deeper c.tree.view_is)

pub returns : goal.returns
returns c =
    let xs = c.tree.inside.0.items in
    let p : c.holder_index-n.result ≡ holder_index (seen xs) = c.holder_index-n.ensures ∙ sym (ap holder_index c.tree.view_is) in
    (refl, c.is_elem_without_names.ensures ∙ deeper_at xs c.holder_index-n.result c.index.result.now p (omega arith) c.index.ensures ∙ ap names_lie_deeper c.tree.view_is)
