use Rattle.std.proofs.Common.{ap, ◌∙◌}
use Rattle.std.specs.Prelude.{bytes_eq, slice_get}
use Rattle.mentions_cited.specs.declared.kept.KeptOfMention.{KeptOfMention}
use Rattle.mentions_cites.specs.Mentions.{mention_index}
use Rattle.mentions_cites.proofs.Repeating.{alike-with, alike-without-again, alike-without-first}
use Rattle.mentions_cites.proofs.repeats.reads_alike.Goals as goal

pub returns-in_default : goal.returns-in_default
returns-in_default c =
    let r = c.args.repeated in
    alike-without-first c.args.told.now.firsts.items c.args.told.now.again.items r c.args.kept.now
    (c.in_default.ensures ∙ ap (λ l. slice_get l (mention_index r.entry r.is_first)) c.deref.ensures.value)

pub returns-in_default-by_mention : goal.returns-in_default-by_mention
returns-in_default-by_mention c =
    let r = c.args.repeated in
    alike-without-again c.args.told.now.firsts.items c.args.told.now.again.items r c.args.kept.now c.in-Some.first.now
    (c.in-Some.ensures ∙ ap (λ l. slice_get l (mention_index r.entry r.is_first)) c.deref.ensures.value)
    (c.in_default-by_mention.ensures ∙ ap (λ l. slice_get l (mention_index r.entry r.is_first)) c.deref-2.ensures.value)

pub returns : goal.returns
returns c =
    let r = c.args.repeated in
    let kept = c.args.kept.now in
    c.eq.ensures ∙ ap (λ (last : KeptOfMention). bytes_eq kept.text last.text) c.last_of.ensures
    ∙ alike-with c.args.told.now.firsts.items c.args.told.now.again.items r kept c.in-Some.first.now c.in-Some-by_mention.again.now
    (c.in-Some.ensures ∙ ap (λ l. slice_get l (mention_index r.entry r.is_first)) c.deref.ensures.value)
    (c.in-Some-by_mention.ensures ∙ ap (λ l. slice_get l (mention_index r.entry r.is_first)) c.deref-2.ensures.value)
