use Rattle.std.proofs.Common.{[], ◌∷◌, ◌++◌, ◌∙◌, ap, sym}
use Rattle.cite_sorting.proofs.Groups.{one_more}
use Rattle.cite_sorting.proofs.ties.all_indexes.Goals as goal

pub loop-index-preserved : goal.loop-index-preserved
loop-index-preserved c =
    c.in_ok-push.ensures.items
    ∙ (ap (λ all. all ++ c.loop-index.index ∷ []) c.loop-index.invariant ∙ sym (one_more c.loop-index.index))
