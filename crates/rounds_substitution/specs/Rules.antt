-- When the names of an item are substituted by those of the item that it is compared with, and what
-- is changed then (CSL 1.0.2, reference grouping).
use Rattle.std.specs.Prelude.{ℕ, Bool, true, false, ◌&&◌, ◌||◌, not, nat_lt, List, [], ◌∷◌, if◌then◌else◌}
use Rattle.std.specs.List.{common_prefix_len}
use Rattle.std.specs.Cmp.Lexicographic.{pointwise}
use Rattle.value_trees.specs.SameElem.{same_elem}
use Rattle.value_trees.specs.declared.elem.Elem.{Elem}
use Rattle.value_styles.specs.declared.style.SubsequentAuthorSubstituteRule.{SubsequentAuthorSubstituteRule}
use Rattle.value_styles.specs.declared.style.SubsequentAuthorSubstituteRule.TheVariants.{CompleteAll, CompleteEach, PartialEach, PartialFirst}
use Rattle.rounds_substitution.specs.Names.{names_within}
use Rattle.rounds_substitution.specs.declared.changes.Change.{Change}
use Rattle.rounds_substitution.specs.declared.changes.Change.TheVariants.{SubstituteAlone, WithoutNames, EachNameReplaced, FirstNamesReplaced}

abbrev pub none_of : List Elem → Bool
none_of [] = true
none_of (e ∷ es) = false

-- the two names elements have equal names
abbrev pub same_names : Elem → Elem → Bool
same_names kept own = pointwise same_elem (names_within kept) (names_within own)

-- how many names they have in common before the first that differs
abbrev pub names_in_common : Elem → Elem → ℕ
names_in_common kept own = common_prefix_len same_elem (names_within kept) (names_within own)

-- the rule that an item goes by: one without names by CompleteAll, whatever the style's rule
abbrev pub rule_for : SubsequentAuthorSubstituteRule → Elem → SubsequentAuthorSubstituteRule
rule_for rule own = if none_of (names_within own) then CompleteAll else rule

-- The tests: `own` is compared with `kept`. Complete: the names are equal and, by CompleteAll, if
-- there are none, so are the two names elements. Partial: at least the first name is equal.
abbrev pub holds_by : SubsequentAuthorSubstituteRule → Elem → Elem → Bool
holds_by CompleteAll kept own =
    same_names kept own && (not (none_of (names_within own)) || same_elem kept own)
holds_by CompleteEach kept own = same_names kept own
holds_by PartialEach kept own = nat_lt 0 (names_in_common kept own)
holds_by PartialFirst kept own = nat_lt 0 (names_in_common kept own)

-- The changes to `own`: the substitute stands for all names together (alone where there are none),
-- for each name, for each of the first names that are equal, or for the first name.
abbrev pub change_by : SubsequentAuthorSubstituteRule → Elem → Elem → Change
change_by CompleteAll kept own = if none_of (names_within own) then SubstituteAlone
    else WithoutNames
change_by CompleteEach kept own = EachNameReplaced
change_by PartialEach kept own = FirstNamesReplaced (names_in_common kept own)
change_by PartialFirst kept own = FirstNamesReplaced 1
