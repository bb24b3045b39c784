use Rattle.std.proofs.Common.{◌≡◌, ◌++◌, ℕ, drop, map}
use Rattle.std.specs.Prelude.{nat_eq}
use Rattle.std.specs.List.{list_any}
use Rattle.driver_lookup.specs.PropertiesView.{properties_view}
use Rattle.mentions_cited.specs.HomeView.{homes_view}
use Rattle.mentions_cited.specs.Mentions.{all_properties, mentions_at}
use Rattle.mentions_cited.specs.Plain.{plain}
use Rattle.mentions_cited.proofs.Pairing.{by_index, two_of_each}
use Rattle.mentions_cited.proofs.mentions.mentions.Given as goal

abbrev pub invariant-loop-index : goal.invariant-loop-index
invariant-loop-index g l =
    (offset : ℕ) → map properties_view l.properties ≡ all_properties offset (homes_view l.homes)
    → map plain l.mentions.items ++ two_of_each (by_index offset l.again.keys) l.index (homes_view (drop l.index l.homes))
    ≡ mentions_at offset (λ n. list_any (nat_eq n) l.again.keys) (homes_view l.homes)
