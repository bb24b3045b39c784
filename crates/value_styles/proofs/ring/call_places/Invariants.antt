use Rattle.std.proofs.Common.{◌≡◌, ◌++◌, map, drop}
use Rattle.std.specs.List.{filter_map}
use Rattle.value_styles.specs.Calls.{calls_of_all}
use Rattle.value_styles.specs.Element.{Macro}
use Rattle.value_styles.specs.Places.{Places}
use Rattle.value_styles.specs.NamedPlaces.{place_named}
use Rattle.value_styles.specs.ElementView.{macros_view}
use Rattle.value_styles.proofs.ring.call_places.Given as goal

abbrev pub invariant-loop-each : goal.invariant-loop-each
invariant-loop-each l =
    let row : Macro → Places = λ m. filter_map (place_named l.places) (calls_of_all m.children) in
    map (λ row. row.items) l.rows.items ++ map row (macros_view (drop l.each-index l.macros)) ≡ map row (macros_view l.macros)
