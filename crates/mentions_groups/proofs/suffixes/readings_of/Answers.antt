use Rattle.std.proofs.Common.{[], ap, map, refl, ◌++◌, ◌∙◌, ◌∷◌}
use Rattle.std.proofs.lemmas.List.{take_all}
use Rattle.mentions_groups.specs.Groups.{text_of}
use Rattle.mentions_groups.specs.Readings.{reading_of}
use Rattle.mentions_groups.proofs.Suffixing.{at-place, class-there, reading-next}
use Rattle.mentions_groups.proofs.suffixes.readings_of.Goals as goal

pub loop-k-preserved : goal.loop-k-preserved
loop-k-preserved c =
    let ms = c.args.mentions.now in
    let k = c.loop-k.k in
    let m = c.index-mentions-k.result in
    let within = c.loop-k-test.true in
    let here = c.index-mentions-k.is in
    reading-next ms k m within here c.loop-k.readings.items c.push.new.self.items _ c.class_at.result
    (at-place ms k m within here (text_of ms) c.args.texts.now _ _ refl c.requires.texts)
    (c.class_at.ensures ∙ class-there ms c.args.classes.now m.entry c.requires.classes) c.loop-k.invariant
    (c.in_ok-push.ensures.items ∙ ap (λ r. c.loop-k.readings.items ++ r ∷ []) c.reading_by.ensures)

pub returns : goal.returns
returns c = c.loop-k.invariant ∙ ap (map (reading_of c.args.mentions.now)) (take_all c.loop-k.k c.args.mentions.now c.loop-k-test.false)
