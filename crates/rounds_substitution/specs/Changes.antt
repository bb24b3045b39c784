-- For the code: what is to be done to an item, found out before anything is written.
use Rattle.std.specs.Prelude.{List, ◌∷◌, Option, None, Some, if◌then◌else◌}
use Rattle.std.specs.List.{scan}
use Rattle.std.specs.Option.{option_and_then, option_or}
use Rattle.value_trees.specs.Child.{Child}
use Rattle.value_trees.specs.FirstNames.{put_names}
use Rattle.value_trees.specs.declared.elem.Elem.{Elem}
use Rattle.value_sources.specs.declared.formatting.Formatted.{Formatted}
use Rattle.value_styles.specs.declared.style.SubsequentAuthorSubstituteRule.{SubsequentAuthorSubstituteRule}
use Rattle.rounds_substitution.specs.Names.{names_element}
use Rattle.rounds_substitution.specs.Rewriting.{elem_changed}
use Rattle.rounds_substitution.specs.Rules.{rule_for, change_by}
use Rattle.rounds_substitution.specs.Substitution.{is_replaced, stayed}
use Rattle.rounds_substitution.specs.declared.changes.Change.{Change}

-- the change to a names element, where it is replaced
abbrev pub change_of : SubsequentAuthorSubstituteRule → Option Elem → Elem → Option Change
change_of rule None own = None
change_of rule (Some kept) own = if is_replaced rule (Some kept) own
    then Some (change_by (rule_for rule own) kept own) else None

-- the change to a tree
abbrev pub planned : SubsequentAuthorSubstituteRule → Option Elem → List Child → Option Change
planned rule base tree = option_and_then (change_of rule base) (names_element tree)

-- what the tree after this one is compared with
abbrev pub next_base : SubsequentAuthorSubstituteRule → Option Elem → List Child → Option Elem
next_base rule base tree = option_or (stayed rule base tree) base

-- the changes to trees, one after another
abbrev pub plan : SubsequentAuthorSubstituteRule → Option Elem → List (List Child)
    → List (Option Change)
plan rule = scan (next_base rule) (planned rule)

-- the tree after a change of its first names element
abbrev pub tree_changed : Formatted → Option Change → List Child → List Child
tree_changed substitute None tree = tree
tree_changed substitute (Some change) tree =
    elim (names_element tree)
    [ None ↦ tree | Some own ↦ put_names tree (elem_changed substitute change own) ]

-- the trees after as many changes
abbrev pub trees_changed : Formatted → List (Option Change) → List (List Child) → List (List Child)
trees_changed substitute (c ∷ cs) (x ∷ xs) = tree_changed substitute c x
    ∷ trees_changed substitute cs xs
trees_changed substitute _ xs = xs
