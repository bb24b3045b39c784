use Rattle.std.proofs.Common.{◌+◌, ◌*◌, ◌<◌, ap, arith, false, length, refl, true, ◌∙◌}
use Rattle.driver_lookup.specs.PropertiesView.{properties_view}
use Rattle.mentions_cited.specs.HomeView.{home_view}
use Rattle.mentions_cited.specs.Mentions.{mention, mention_properties}
use Rattle.mentions_cited.specs.Plain.{plain}
use Rattle.mentions_cited.proofs.Pairing.{by_index, first-seen, second-seen, two-all, two-more}
use Rattle.mentions_cited.proofs.mentions.mentions.Goals as goal

pub loop-index-preserved : goal.loop-index-preserved
loop-index-preserved g c = λ offset are.
    let homes = c.args.homes.now in
    let all = c.args.properties.now in
    let k = c.loop-index.index in
    let h = c.index-homes-index.result in
    let within = c.loop-index-test.true in
    let here = c.index-homes-index.is in
    let once : 2 * k < length all = omega (arith, within, c.requires) in
    let twice : 2 * k + 1 < length all = omega (arith, within, c.requires) in
    let again = c.is_among-cited_again.ensures in
    let first = first-seen mention_properties home_view properties_view homes all offset are k h within here c.index-properties-index.result once c.index-properties-index.is in
    let second = second-seen mention_properties home_view properties_view homes all offset are k h within here c.index-properties-index-in-loop-index.result twice c.index-properties-index-in-loop-index.is in
    two-more (by_index offset c.args.again.now.keys) home_view plain homes k k h within here c.loop-index.mentions.items c.push.new.self.items c.push-in-loop-index.new.self.items c.mention-first.result c.mention-later.result _
    (c.loop-index.invariant offset are) c.in_ok-push.ensures.items c.in_ok-push-2.ensures.items (c.mention-first.ensures offset first ∙ ap (λ b. mention offset b k (home_view h) true) again)
    (c.mention-later.ensures offset second ∙ ap (λ b. mention offset b k (home_view h) false) again) (k + 1) refl

pub returns : goal.returns
returns g c = λ offset are.
    two-all (by_index offset c.args.again.now.keys) home_view plain c.args.homes.now c.loop-index.index c.loop-index.index c.loop-index.mentions.items _ c.loop-index-test.false (c.loop-index.invariant offset are)
