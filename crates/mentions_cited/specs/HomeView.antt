-- The plain data that a home stands for.
use Rattle.std.specs.Prelude.{List, map}
use Rattle.driver_passes.specs.RequestView.{request_view}
use Rattle.mentions_cited.specs.Homes.{HomeValue}
use Rattle.mentions_cited.specs.declared.home.Home.{Home}

module _ {T P : Type 0} where
  abbrev pub home_view : Home T P → HomeValue T P
  home_view h = record {
    request = request_view h.request.request.now;
    place = h.place;
    entry = h.entry.now;
    notes = h.notes;
  }

  abbrev pub homes_view : List (Home T P) → List (HomeValue T P)
  homes_view = map home_view
