use Rattle.std.proofs.Common.{◌≡◌, ◌++◌, map, drop}
use Rattle.std.specs.List.{filter_map}
use Rattle.value_styles.specs.NamedPlaces.{place_named}
use Rattle.value_styles.proofs.ring.called_places.Given as goal

abbrev pub invariant-loop-name : goal.invariant-loop-name
invariant-loop-name l =
    let found = filter_map (place_named l.places) in
    l.called.items ++ found (map (λ s. s.now) (drop l.name-index l.name-items)) ≡ found (map (λ s. s.now) l.name-items)
