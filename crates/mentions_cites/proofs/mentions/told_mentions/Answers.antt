use Rattle.std.proofs.Common.{◌≡◌, ◌∙◌}
use Rattle.std.proofs.lemmas.Result.{IfOk-weaker}
use Rattle.mentions_cites.specs.Mentions.{told_mentions}
use Rattle.mentions_cites.proofs.mentions.told_mentions.Goals as goal

pub returns : goal.returns
returns c =
    IfOk-weaker c.mentions_by.result (λ v. v.items ≡ told_mentions c.deref.result.now c.deref-2.result.now c.deref-3.result.now) _
    (λ v made. made ∙ (λ i. told_mentions (c.deref.ensures.value i) (c.deref-2.ensures.value i) (c.deref-3.ensures.value i))) c.mentions_by.ensures
