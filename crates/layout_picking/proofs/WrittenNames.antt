-- The names that are written of what is left of a block, and what they give.
use Rattle.std.proofs.Common.{ℕ, zero, suc, List, option_map}
use Rattle.std.specs.List.{filter_map, zip, enumerate_from}
use Rattle.value_sources.specs.declared.entry.Person.{Person}
use Rattle.value_sources.specs.Forms.{Forms}
use Rattle.layout_picking.specs.NameText.{name_leaf}
use Rattle.layout_picking.specs.Pieces.{LeafValue, Part}
use Rattle.layout_picking.specs.Names.{joined_parts, joined_behind}

-- from a place on
abbrev pub names_left : List ℕ → ℕ → Forms → List Person → List (ℕ × LeafValue)
names_left end place forms persons =
    filter_map (λ x. option_map (λ leaf. (x.0, leaf)) (name_leaf end x.1.0 x.1.1)) (enumerate_from place (zip forms persons))

-- names behind so many others
abbrev pub joined_after : List ℕ → List ℕ → ℕ → List Part → List Part
joined_after words last zero ps = joined_parts words last ps
joined_after words last (suc n) ps = joined_behind words last ps
