use Rattle.std.proofs.Common.{◌≡◌, take}
use Rattle.std.specs.Prelude.{filter_map, slice_get}
use Rattle.mentions_cited.specs.HomeView.{homes_view}
use Rattle.mentions_cited.proofs.homes.at_places.Given as goal

abbrev pub invariant-loop-place : goal.invariant-loop-place
invariant-loop-place g l = homes_view l.homes.items ≡ filter_map (slice_get (homes_view l.firsts)) (take l.place-index l.places)
