-- The last child, and the tree after a write of it.
use Rattle.std.proofs.Common.{◌-◌, ◌+◌, ◌≡◌, length, arith, refl, ap, ◌∙◌}
use Rattle.value_trees.specs.ChildView.{child_view}
use Rattle.value_trees.specs.LastTextStep.{ends_in_elem, last_child, put_last}
use Rattle.value_trees.proofs.LastTextSteps.{some_child, last_at, put_at}
use Rattle.value_trees.proofs.last_text.last_child_mut.Goals as goal

pub returns : goal.returns
returns c =
    let xs = c.tree.inside.0.items in
    let h : c.len-len.result - 1 + 1 ≡ length xs = omega (arith, some_child xs (ap ends_in_elem c.tree.view_is ∙ c.requires)) in (
      (refl, λ w. put_at xs (c.len-len.result - 1) w h ∙ ap (λ cs. put_last cs (child_view w)) c.tree.view_is),
      record {
        writes_back = tt;
        value = last_at xs (c.len-len.result - 1) c.index_mut.result.now h c.index_mut.ensures.value ∙ ap last_child c.tree.view_is;
      },
    )
