-- Which names of the items of a bibliography a substitute stands for.
use Rattle.std.specs.Prelude.{ℕ, zero, suc, Bool, not, ◌&&◌, ◌==◌, List, Option, None, Some, if◌then◌else◌, length, map, slice_get}
use Rattle.std.specs.List.{common_prefix_len, enumerate_from}
use Rattle.std.specs.Option.{option_flatten}
use Rattle.std.specs.Cmp.Lexicographic.{pointwise}
use Rattle.value_styles.specs.declared.style.SubsequentAuthorSubstituteRule.{SubsequentAuthorSubstituteRule}
use Rattle.value_styles.specs.declared.style.SubsequentAuthorSubstituteRule.TheVariants.{CompleteAll, CompleteEach, PartialEach, PartialFirst}
use Rattle.mentions_authors.specs.declared.repeated.ItemNames.{ItemNames}
use Rattle.mentions_authors.specs.declared.repeated.Substituted.{Substituted}

-- each of so many names at the beginning, if there are any
abbrev pub leading : ℕ → Substituted
leading count = if count == 0 then Substituted.Nothing else Substituted.Leading count

-- the first of them alone
abbrev pub first_alone : ℕ → Substituted
first_alone count = if count == 0 then Substituted.Nothing else Substituted.Leading 1

-- the names of the item directly before the one at k, if it has a names element
abbrev pub before_at : {X : Type 0} → List (Option X) → ℕ → Option X
before_at items zero = None
before_at items (suc k) = option_flatten (slice_get items k)

module _ {N P : Type 0} (same_name : N → N → Bool) (same_persons : P → P → Bool) where
  -- an item has names, and they and its persons are those of another
  abbrev pub same_authors : ItemNames N P → ItemNames N P → Bool
  same_authors before own = not (length own.names == 0)
      && pointwise same_name before.names own.names
      && same_persons before.persons own.persons

  -- how many names at the beginning are equal
  abbrev pub equal_at_first : ItemNames N P → ItemNames N P → ℕ
  equal_at_first before own = common_prefix_len same_name before.names own.names

  -- which names of an item repeat those of another, by each rule
  abbrev pub repeated_names : SubsequentAuthorSubstituteRule → ItemNames N P → ItemNames N P
      → Substituted
  repeated_names CompleteAll before own = if same_authors before own then Substituted.Together
      else Substituted.Nothing
  repeated_names CompleteEach before own =
      if same_authors before own then leading (length own.names) else Substituted.Nothing
  repeated_names PartialEach before own = leading (equal_at_first before own)
  repeated_names PartialFirst before own = first_alone (equal_at_first before own)

  -- the same of items that may be without a names element
  abbrev pub against : SubsequentAuthorSubstituteRule → Option (ItemNames N P)
      → Option (ItemNames N P) → Substituted
  against rule None own = Substituted.Nothing
  against rule (Some before) None = Substituted.Nothing
  against rule (Some before) (Some own) = repeated_names rule before own

  -- each item against the one directly before it
  abbrev pub repeated : SubsequentAuthorSubstituteRule → List (Option (ItemNames N P))
      → List Substituted
  repeated rule items = map (λ p. against rule (before_at items p.0) p.1) (enumerate_from 0 items)
