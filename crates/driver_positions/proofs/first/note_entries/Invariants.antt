use Rattle.std.proofs.Common.{◌≡◌, ◌++◌, [], ◌∷◌, map, take}
use Rattle.driver_entries.specs.TableView.{table_view}
use Rattle.driver_passes.specs.Request.{cited, entries_of}
use Rattle.driver_passes.specs.RequestView.{request_view, requests_view}
use Rattle.driver_positions.specs.Seen.{seen_of}
use Rattle.driver_positions.proofs.first.note_entries.Given as goal

abbrev pub invariant-loop-entry : goal.invariant-loop-entry
invariant-loop-entry g l =
    let before = requests_view l.before in
    let r = request_view l.request in
    l.seen ≡ map (seen_of g.T.PartialEq.eq (cited before ++ entries_of r.cites) (before ++ record r { cites = take l.entry-index r.cites } ∷ [])) (table_view l.table).entries
