-- The plain data that items stand for.
use Rattle.std.specs.Prelude.{List, map, String, string_bytes}
use Rattle.std.specs.Global.{Global}
use Rattle.value_trees.specs.Child.{Child}
use Rattle.rounds_substitution.specs.Substitution.{Item}

abbrev pub rendered_items_view : List (List Child × String Global) → List Item
rendered_items_view = map (λ p. (p.0, string_bytes p.1))
