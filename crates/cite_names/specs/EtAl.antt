-- Et-al abbreviation (CSL 1.0.2, "Name"): which names of a list are shown.
use Rattle.std.specs.Prelude.{ℕ, ◌+◌, Bool, ◌&&◌, Option, Some, None, if◌then◌else◌, nat_le, nat_lt}
use Rattle.cite_names.specs.declared.rules.Cut.{Cut}
use Rattle.cite_names.specs.declared.shown.ShownNames.{ShownNames}
use Rattle.cite_names.specs.declared.shown.ShownNames.TheVariants.{All, First, FirstAndLast}

-- a list of `count` names that is truncated after the first `kept` ones. The last name follows
-- where that is asked for, if the list has at least two more names than are kept, and one is kept
-- at least
abbrev pub truncated : ℕ → Bool → ℕ → ShownNames
truncated kept use_last count = if nat_le count kept then All
    else (if use_last && nat_lt 0 kept && nat_le (kept + 2) count then FirstAndLast kept
    else First kept)

-- a list that has et-al-min names or more is truncated after et-al-use-first names
abbrev pub shown_names : Option Cut → Bool → ℕ → ShownNames
shown_names None use_last count = All
shown_names (Some cut) use_last count =
    if nat_le cut.min count then truncated cut.use_first use_last count else All

-- how many of the first names are shown
abbrev pub first_names : ShownNames → ℕ → ℕ
first_names All count = count
first_names (First first) count = first
first_names (FirstAndLast first) count = first
