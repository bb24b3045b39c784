use Rattle.std.proofs.Common.{◌≡◌, ◌+◌, ◌*◌, ap, arith, length, map, sym, ◌∙◌}
use Rattle.std.proofs.lemmas.List.{length-map}
use Rattle.driver_lookup.specs.PropertiesView.{properties_view}
use Rattle.mentions_cited.specs.HomeView.{home_view, homes_view}
use Rattle.mentions_cited.specs.Mentions.{all_properties, mention_properties}
use Rattle.mentions_cited.proofs.Pairing.{length-two, two-all, two-more}
use Rattle.mentions_cited.proofs.properties.properties_of_mentions.Goals as goal

pub loop-index-preserved : goal.loop-index-preserved
loop-index-preserved g c =
    let k = c.loop-index.index in
    two-more mention_properties home_view properties_view c.args.homes.now k (c.args.offset + k) c.index-homes-index.result c.loop-index-test.true c.index-homes-index.is c.loop-index.properties.items
    c.push.new.self.items c.push-in-loop-index.new.self.items c.mention_properties.result c.mention_properties-in-loop-index.result _ c.loop-index.invariant c.in_ok-push.ensures.items
    c.in_ok-push-2.ensures.items c.mention_properties.ensures c.mention_properties-in-loop-index.ensures (c.args.offset + (k + 1)) (omega arith)

pub returns : goal.returns
returns g c =
    let homes = c.args.homes.now in
    let items = c.loop-index.properties.items in
    let made : map properties_view items ≡ all_properties c.args.offset (homes_view homes) =
    two-all mention_properties home_view properties_view homes c.loop-index.index _ items _ c.loop-index-test.false c.loop-index.invariant in
    record {
      properties = made;
      count = sym (length-map items properties_view) ∙ ap length made ∙ length-two mention_properties c.args.offset (homes_view homes) ∙ ap (λ n. 2 * n) (length-map homes home_view);
    }
