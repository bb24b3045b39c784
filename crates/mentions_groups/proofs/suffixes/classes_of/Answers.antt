use Rattle.std.proofs.Common.{refl, ◌∙◌}
use Rattle.mentions_groups.specs.Groups.{text_of}
use Rattle.mentions_groups.proofs.Suffixing.{all-laters, at-place, later-next}
use Rattle.mentions_groups.proofs.suffixes.classes_of.Goals as goal

pub loop-k-preserved : goal.loop-k-preserved
loop-k-preserved c =
    let ms = c.args.mentions.now in
    let k = c.loop-k.k in
    let m = c.index-mentions-k.result in
    let within = c.loop-k-test.true in
    let here = c.index-mentions-k.is in
    later-next ms k m within here (text_of ms) c.loop-k.classes.items c.push_class.new.classes.items _
    (at-place ms k m within here (text_of ms) c.args.texts.now _ _ refl c.requires) c.loop-k.invariant c.in_ok-push_class.ensures

pub returns : goal.returns
returns c = c.loop-k.invariant ∙ all-laters (text_of c.args.mentions.now) c.args.mentions.now c.loop-k.k c.loop-k-test.false
