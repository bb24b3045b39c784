-- Subsequent-author substitution of a bibliography, over all of its items.
use Rattle.std.specs.Prelude.{ℕ, Bool, false, List, [], ◌∷◌, Option, None, Some, map, take, reverse, if◌then◌else◌}
use Rattle.std.specs.List.{enumerate_from}
use Rattle.std.specs.Option.{option_and_then, option_or}
use Rattle.value_trees.specs.Child.{Child}
use Rattle.value_trees.specs.FirstNames.{put_names}
use Rattle.value_sources.specs.Formatting.{normal}
use Rattle.value_trees.specs.declared.elem.Elem.{Elem}
use Rattle.value_sources.specs.declared.formatting.Formatted.{Formatted}
use Rattle.value_styles.specs.declared.style.SubsequentAuthorSubstituteRule.{SubsequentAuthorSubstituteRule}
use Rattle.rounds_substitution.specs.Names.{names_element}
use Rattle.rounds_substitution.specs.Rewriting.{elem_changed}
use Rattle.rounds_substitution.specs.Rules.{rule_for, holds_by, change_by}

-- an item: its tree and its key
abbrev pub Item : Type 0
Item = List Child × List ℕ

module _ (rule : SubsequentAuthorSubstituteRule) where
  -- a names element is replaced where there is one to compare it with, and its rule's test holds
  abbrev pub is_replaced : Option Elem → Elem → Bool
  is_replaced None own = false
  is_replaced (Some kept) own = holds_by (rule_for rule own) kept own

  -- a tree's names element, where it has one and it isn't replaced
  abbrev pub stayed : Option Elem → List Child → Option Elem
  stayed base tree = option_and_then (λ own. if is_replaced base own then None
      else Some own) (names_element tree)

  -- what an item after these is compared with, the latest given first: the names element of the
  -- latest that has one and wasn't replaced
  abbrev pub base : List Item → Option Elem
  base [] = None
  base (item ∷ before) = option_or (stayed (base before) item.0) (base before)

module _ (text : Formatted) (rule : SubsequentAuthorSubstituteRule) where
  -- a names element after the change that its rule makes
  abbrev pub names_after : Elem → Elem → Elem
  names_after kept own = elem_changed text (change_by (rule_for rule own) kept own) own

  -- an item's tree after substitution: its first names element is another where it is replaced, and
  -- else all stays
  abbrev pub tree_after : Option Elem → List Child → List Child
  tree_after None tree = tree
  tree_after (Some kept) tree = elim (names_element tree) [
    | None ↦ tree
    | Some own ↦ if is_replaced rule (Some kept) own
        then put_names tree (names_after kept own) else tree
  ]

  -- item k after substitution, against the base of the k items before it
  abbrev pub item_after : List Item → ℕ × Item → Item
  item_after items (k, (tree, key)) = (tree_after (base rule (reverse (take k items))) tree, key)

-- the substitute as it is put in
abbrev pub substitute_text : List ℕ → Formatted
substitute_text bytes = record { text = bytes; formatting = normal }

-- the items after substitution; without a substitute they stay
abbrev pub substituted : Option (List ℕ) → SubsequentAuthorSubstituteRule → List Item → List Item
substituted None rule items = items
substituted (Some bytes) rule items =
    map (item_after (substitute_text bytes) rule items) (enumerate_from 0 items)
