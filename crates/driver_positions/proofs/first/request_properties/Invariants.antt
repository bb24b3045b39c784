use Rattle.std.proofs.Common.{◌≡◌, ◌++◌, None, map, option_map, take}
use Rattle.std.specs.List.{last_or}
use Rattle.driver_entries.specs.TableView.{table_view}
use Rattle.driver_passes.specs.Request.{cited, cites_of, entries_of}
use Rattle.driver_passes.specs.RequestView.{cite_view, cites_view, request_view, requests_view}
use Rattle.driver_positions.specs.FirstProperties.{cite_properties, numbered_by, with_earlier}
use Rattle.driver_positions.specs.Seen.{seen_of}
use Rattle.driver_positions.proofs.first.request_properties.Given as goal

abbrev pub invariant-loop-i : goal.invariant-loop-i
invariant-loop-i g l =
    let eq = g.T.PartialEq.eq in
    let before = requests_view l.before in
    let entries = (table_view l.table).entries in
    let cites = cites_view (take l.i l.request.items.items) in
    record {
      made : l.properties.items ≡ with_earlier (cite_properties eq g.P.PartialEq.eq (numbered_by eq l.numbers entries) before (request_view l.request)) cites;
      last : option_map (λ l. cite_view l.now) l.last ≡ last_or None (cites_of before ++ cites);
      seen : l.seen ≡ map (seen_of eq (cited before ++ entries_of cites) before) entries;
    }
