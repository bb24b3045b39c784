use Rattle.std.proofs.Common.{◌∷◌, [], ◌++◌, ap, sym, ◌∙◌}
use Rattle.list_lemmas.proofs.Members.{below-more}
use Rattle.rounds_grouping.proofs.moving.places_below.Goals as goal

pub loop-k-preserved : goal.loop-k-preserved
loop-k-preserved c = c.in_ok-push.ensures.items ∙ ap (λ xs. xs ++ c.loop-k.k ∷ []) c.loop-k.invariant ∙ sym (below-more c.loop-k.k)
