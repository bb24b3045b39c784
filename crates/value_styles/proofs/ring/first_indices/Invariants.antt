use Rattle.std.proofs.Common.{◌≡◌, take}
use Rattle.value_styles.specs.Element.{Name}
use Rattle.value_styles.specs.ElementView.{macros_view}
use Rattle.value_styles.specs.NamedPlaces.{place_named}
use Rattle.value_styles.specs.Ring.{place_of_macro}
use Rattle.value_styles.proofs.ring.first_indices.Given as goal

abbrev pub invariant-loop-i : goal.invariant-loop-i
invariant-loop-i l = (name : Name) → place_named l.places name ≡ place_of_macro name (macros_view (take l.i l.macros))
