use Rattle.std.proofs.Common.{◌≡◌, None, map, option_map, take}
use Rattle.std.specs.List.{last_or}
use Rattle.driver_entries.specs.TableView.{table_view}
use Rattle.driver_passes.specs.Request.{cited, cites_of}
use Rattle.driver_passes.specs.RequestView.{cite_view, requests_view}
use Rattle.driver_positions.specs.FirstProperties.{first_properties, numbered_by}
use Rattle.driver_positions.specs.Seen.{seen_of}
use Rattle.driver_positions.proofs.first.first_properties.Given as goal

abbrev pub invariant-loop-k : goal.invariant-loop-k
invariant-loop-k g l =
    let eq = g.T.PartialEq.eq in
    let entries = (table_view l.table).entries in
    let before = requests_view (take l.k l.requests) in
    record {
      made : map (λ f. f.items) l.properties.items ≡ first_properties eq g.P.PartialEq.eq (numbered_by eq l.numbers entries) before;
      last : option_map (λ l. cite_view l.now) l.last ≡ last_or None (cites_of before);
      seen : l.seen.items ≡ map (seen_of eq (cited before) before) entries;
    }
