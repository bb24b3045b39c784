use Rattle.std.proofs.Common.{◌≡◌, ◌+◌, ◌++◌, drop, map}
use Rattle.driver_lookup.specs.PropertiesView.{properties_view}
use Rattle.mentions_cited.specs.HomeView.{homes_view}
use Rattle.mentions_cited.specs.Mentions.{all_properties}
use Rattle.mentions_cited.proofs.properties.properties_of_mentions.Given as goal

abbrev pub invariant-loop-index : goal.invariant-loop-index
invariant-loop-index g l =
    map properties_view l.properties.items ++ all_properties (l.offset + l.index) (homes_view (drop l.index l.homes)) ≡ all_properties l.offset (homes_view l.homes)
