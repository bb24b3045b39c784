-- Which cites a citation shows, read off its tree.
use Rattle.std.specs.Prelude.{ℕ, List, Option, None, Some}
use Rattle.std.specs.List.{filter_map}
use Rattle.value_trees.specs.Child.{Child, elem}
use Rattle.value_trees.specs.declared.elem.ElemMeta.TheVariants.{Entry}

-- the place of the cite that an element is, where it is one
abbrev pub entry_shown : Child → Option ℕ
entry_shown (elem kids display (Some (Entry place))) = Some place
entry_shown _ = None

-- the places of the cites that a tree shows, in their order: those of its outermost elements alone,
-- since what stands inside these was written by a writer, which may mark what it likes
abbrev pub entries_shown : List Child → List ℕ
entries_shown tree = filter_map entry_shown tree
