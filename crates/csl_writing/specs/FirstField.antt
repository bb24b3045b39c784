-- A full cite whose first field stands in front.
use Rattle.std.specs.Prelude.{◌++◌, List, codes, option_to_list}
use Rattle.std.specs.List.{find, remove, position_or_len}
use Rattle.value_trees.specs.Child.{Child}
use Rattle.value_trees.specs.Metas.{child_has_any_meta}
use Rattle.layout_context.specs.OpenFrames.{on_last_text}

-- a tree with a space behind its last text
abbrev pub spaced_behind : List Child → List Child
spaced_behind cs = on_last_text (λ t. t ++ codes " ") cs

-- the first child that stands for something, with a space behind its last text, and then the others
abbrev pub first_field_first : List Child → List Child
first_field_first cs =
    spaced_behind (option_to_list (find child_has_any_meta cs))
    ++ remove cs (position_or_len child_has_any_meta cs)
