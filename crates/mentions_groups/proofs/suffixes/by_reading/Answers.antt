use Rattle.std.proofs.Common.{refl, subst, sym, take}
use Rattle.std.proofs.lemmas.List.{take_all}
use Rattle.mentions_groups.specs.Readings.{AreReadingsOf, reading_of}
use Rattle.mentions_groups.proofs.Reading.{none-yet}
use Rattle.list_lemmas.proofs.Stepping.{next}
use Rattle.mentions_groups.proofs.Suffixing.{at-place}
use Rattle.mentions_groups.proofs.suffixes.by_reading.Goals as goal

pub loop-k-init : goal.loop-k-init
loop-k-init c = none-yet c.args.mentions.now c.new-found.result c.new-found.ensures.empty

pub loop-k-preserved : goal.loop-k-preserved
loop-k-preserved c =
    let ms = c.args.mentions.now in
    let k = c.loop-k.k in
    let m = c.index-mentions-k.result in
    let within = c.loop-k-test.true in
    let here = c.index-mentions-k.is in
    subst (AreReadingsOf ms c.add.new.readings) (sym (next ms k m within here))
    (c.in_ok-add.ensures ms (take k ms) (at-place ms k m within here (reading_of ms) c.args.readings.now _ _ refl c.requires) c.loop-k.invariant)

pub returns : goal.returns
returns c = subst (AreReadingsOf c.args.mentions.now c.loop-k.found) (take_all c.loop-k.k c.args.mentions.now c.loop-k-test.false) c.loop-k.invariant
