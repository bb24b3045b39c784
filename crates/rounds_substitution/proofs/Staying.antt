-- What substitution leaves as it was.
use Rattle.std.proofs.Common.{◌≡◌, ℕ, ◌+◌, ◌⊎◌, Bool, true, false, cond, List, [], ◌∷◌, map, take, reverse, Option, None, Some, Result, OnOk, refl, sym, subst, inl, inr}
use Rattle.std.specs.List.{AllZip, enumerate_from}
use Rattle.std.proofs.lemmas.Result.{on_ok_weaker}
use Rattle.value_trees.specs.Child.{Child}
use Rattle.value_trees.specs.FirstNames.{put_names}
use Rattle.value_trees.specs.declared.elem.Elem.{Elem}
use Rattle.value_sources.specs.declared.formatting.Formatted.{Formatted}
use Rattle.value_styles.specs.declared.style.SubsequentAuthorSubstituteRule.{SubsequentAuthorSubstituteRule}
use Rattle.rounds_substitution.specs.Names.{names_element}
use Rattle.rounds_substitution.specs.Substitution.{Item, is_replaced, base, names_after, tree_after, item_after, substitute_text, substituted}
use Rattle.rounds_substitution.specs.Laws.{IsSameButNames, KeepsAllButNames, FirstStays, OnlyNamesChange}

pub first_stays : FirstStays
first_stays None rule items = refl
first_stays (Some bytes) rule [] = refl
first_stays (Some bytes) rule (x ∷ items) = refl

-- a tree is the same, or all of it but the children of its first names element
abbrev SameButNames : List Child → Option Elem → List Child → Type 0
SameButNames old found new = (new ≡ old) ⊎ ((own : Elem) × (children : List Child) × (found ≡ Some own) × (new ≡ put_names old (record own { children = children })))

one_of : (b : Bool) (tree : List Child) (own : Elem) (children : List Child) → SameButNames tree (Some own) (cond b (put_names tree (record own { children = children })) tree)
one_of true tree own children = inr (own, children, refl, refl)
one_of false tree own children = inl refl

found_stays : (t : Formatted) (rule : SubsequentAuthorSubstituteRule) (kept : Elem) (found : Option Elem) (tree : List Child)
    → SameButNames tree found (elim found [ None ↦ tree | Some own ↦ cond (is_replaced rule (Some kept) own) (put_names tree (names_after t rule kept own)) tree ])
found_stays t rule kept None tree = inl refl
found_stays t rule kept (Some own) tree = one_of (is_replaced rule (Some kept) own) tree own (names_after t rule kept own).children

tree_stays : (t : Formatted) (rule : SubsequentAuthorSubstituteRule) (b : Option Elem) (tree : List Child) → SameButNames tree (names_element tree) (tree_after t rule b tree)
tree_stays t rule None tree = inl refl
tree_stays t rule (Some kept) tree = found_stays t rule kept (names_element tree) tree

each_stays : (t : Formatted) (rule : SubsequentAuthorSubstituteRule) (all : List Item) (n : ℕ) (items : List Item) → AllZip IsSameButNames items (map (item_after t rule all) (enumerate_from n items))
each_stays t rule all n [] = tt
each_stays t rule all n (x ∷ items) = ((refl, tree_stays t rule (base rule (reverse (take n all))) x.0), each_stays t rule all (n + 1) items)

all_stay : (items : List Item) → AllZip IsSameButNames items items
all_stay [] = tt
all_stay (x ∷ items) = ((refl, inl refl), all_stay items)

pub only_names_change : OnlyNamesChange
only_names_change None rule items = all_stay items
only_names_change (Some bytes) rule items = each_stays (substitute_text bytes) rule items 0 items

-- what substitution makes of items keeps all but names
pub kept : (substitute : Option (List ℕ)) (rule : SubsequentAuthorSubstituteRule) (old new : List Item) → new ≡ substituted substitute rule old → KeepsAllButNames old new
kept substitute rule old new e =
    subst (KeepsAllButNames old) (sym e)
    (record { first_item_never_changes = first_stays substitute rule old; only_first_names_elements_change = only_names_change substitute rule old })

pub kept-on_ok : {V F : Type 0} (r : Result V F) (substitute : Option (List ℕ)) (rule : SubsequentAuthorSubstituteRule) (old new : List Item)
    → OnOk r (new ≡ substituted substitute rule old) → OnOk r (KeepsAllButNames old new)
kept-on_ok r substitute rule old new = on_ok_weaker r (kept substitute rule old new)
