-- Whether the last child is an element.
use Rattle.std.proofs.Common.{◌-◌, arith, refl, ap, ◌∙◌}
use Rattle.value_trees.specs.LastTextStep.{ends_in_elem}
use Rattle.value_trees.proofs.LastTextSteps.{ends_at}
use Rattle.value_trees.proofs.last_text.ends_in_elem.Goals as goal

pub returns : goal.returns
returns c =
    (refl, c.is_elem.ensures ∙ ends_at c.tree.inside.0.items (c.len-len.result - 1) c.index.result.now (omega arith) c.index.ensures ∙ ap ends_in_elem c.tree.view_is)
