-- The persons that a tree shows.
use Rattle.std.specs.Prelude.{Bool, List, [], Option, Some}
use Rattle.std.specs.List.{flat_map}
use Rattle.value_trees.specs.Child.{Child}
use Rattle.value_trees.specs.Elements.{elements}
use Rattle.value_sources.specs.contracts.entry.PersonPartialEq.TheImpl as person_eq
use Rattle.value_trees.specs.declared.elem.ElemMeta.{ElemMeta}
use Rattle.value_sources.specs.declared.entry.Person.{Person}

-- those that an element was rendered for, variable after variable
abbrev pub named_by : Option ElemMeta → List Person
named_by (Some (ElemMeta.Names variables)) = flat_map (λ v. v.0) variables
named_by _ = []

-- those of all elements, an element before those in it
abbrev pub persons : List Child → List Person
persons tree = flat_map (λ e. named_by e.meta) (elements tree)

-- whether two persons are equal, by their derived test
abbrev pub same_person : Person → Person → Bool
same_person = (person_eq.ghosts).eq
