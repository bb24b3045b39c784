-- What substitution leaves as it was, and which item is compared with.
use Rattle.std.specs.Prelude.{◌≡◌, ℕ, ◌⊎◌, List, ◌∷◌, ◌++◌, Option, None, Some, MatchOption, slice_get}
use Rattle.std.specs.List.{All, AllZip}
use Rattle.value_trees.specs.Child.{Child}
use Rattle.value_trees.specs.FirstNames.{put_names}
use Rattle.value_trees.specs.declared.elem.Elem.{Elem}
use Rattle.value_styles.specs.declared.style.SubsequentAuthorSubstituteRule.{SubsequentAuthorSubstituteRule}
use Rattle.rounds_substitution.specs.Names.{names_element}
use Rattle.rounds_substitution.specs.Substitution.{Item, stayed, base, substituted}

-- the key is the same, and so is the tree, or all of it but the children of its first names element
abbrev pub IsSameButNames : Item → Item → Type 0
IsSameButNames old new =
    (new.1 ≡ old.1) × ((new.0 ≡ old.0)
    ⊎ ((own : Elem) × (children : List Child) × (names_element old.0 ≡ Some own)
    × (new.0 ≡ put_names old.0 (record own { children = children }))))

-- what a caller may rely on without reading a rule of substitution
pub record KeepsAllButNames (old new : List Item) : Type 0 where
  -- the first item is as it was
  pub first_item_never_changes : slice_get new 0 ≡ slice_get old 0
  -- each item has its key, and its tree but for the children of its first names element
  pub only_first_names_elements_change : AllZip IsSameButNames old new

-- the first item is as it was
abbrev pub FirstStays : Type 0
FirstStays = (substitute : Option (List ℕ)) (rule : SubsequentAuthorSubstituteRule)
    (items : List Item)
    → slice_get (substituted substitute rule items) 0 ≡ slice_get items 0

-- the other items are as they were but for the children of their first names elements
abbrev pub OnlyNamesChange : Type 0
OnlyNamesChange = (substitute : Option (List ℕ)) (rule : SubsequentAuthorSubstituteRule)
    (items : List Item)
    → AllZip IsSameButNames items (substituted substitute rule items)

-- of these items, given with the latest first, e is the names element of one that wasn't replaced;
-- those after it have none, or were replaced when they were compared with e
abbrev pub IsLatestKept : SubsequentAuthorSubstituteRule → List Item → Elem → Type 0
IsLatestKept rule items e =
    (after : List Item) × (item : Item) × (before : List Item) × (items ≡ after ++ item ∷ before)
    × (stayed rule (base rule before) item.0 ≡ Some e)
    × All (λ later. stayed rule (Some e) later.0 ≡ None) after

-- the base is the names element of the latest such item; there is none exactly where no item has a
-- names element
abbrev pub BaseIsLatest : Type 0
BaseIsLatest = (rule : SubsequentAuthorSubstituteRule) (items : List Item)
    → MatchOption (base rule items) (All (λ item. names_element item.0 ≡ None) items)
    (IsLatestKept rule items)
