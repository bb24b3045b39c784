-- For the code: neighbouring cites.
use Rattle.std.specs.Prelude.{ℕ, ◌+◌, Bool, false, not, ◌&&◌, ◌||◌, List, Option, None, Some, is_some, if◌then◌else◌, nat_eq}
use Rattle.value_styles.specs.Style.{CitationValue}
use Rattle.driver_passes.specs.Renders.{ItemRender}
use Rattle.rounds_grouping.specs.NumberRuns.{en_dash, number_at, shown_number}
use Rattle.rounds_grouping.specs.Stretches.{after_collapse}
use Rattle.rounds_grouping.specs.YearStretches.{cut_to_date, cut_to_suffix, has_later_suffix}
use Rattle.rounds_grouping.specs.declared.numbers.Rises.{Rises}

-- both are there, and the second is one more
abbrev pub is_next : Option ℕ → Option ℕ → Bool
is_next (Some m) (Some n) = nat_eq n (m + 1)
is_next (Some m) None = false
is_next None n = false

-- both are there and equal
abbrev pub is_same : Option ℕ → Option ℕ → Bool
is_same (Some m) (Some n) = nat_eq n m
is_same (Some m) None = false
is_same None n = false

-- where numbers rise around k, from where they do around the place before
abbrev pub next_rises : List (Option ℕ) → ℕ → Rises → Rises
next_rises numbers k r = record {
  earlier = r.before;
  before = r.here;
  here = r.behind;
  behind = is_next (number_at numbers k) (number_at numbers (k + 1));
}

-- a cite changed by where the numbers rise around it
abbrev pub number_step : {E P : Type 0} → Rises → Option (List ℕ) → ItemRender E P → ItemRender E P
number_step rises after c = record c {
  hidden = c.hidden || (rises.here && rises.behind);
  delimiter_override =
      if rises.before && rises.here && not rises.behind then Some en_dash
      else if rises.earlier && rises.before && not rises.here && is_some (shown_number c) then after
      else c.delimiter_override;
}

-- a cite changed by whether it is of the group of the one before, and that one of the group of the
-- one before it
abbrev pub year_step : {E P : Type 0} → CitationValue → Bool → Bool → Bool → ItemRender E P
    → ItemRender E P
year_step citation to_suffixes is_later was_later c =
    if is_later then (if to_suffixes && has_later_suffix c then cut_to_suffix citation c
    else cut_to_date citation c)
    else if was_later then record c { delimiter_override = after_collapse citation }
    else c
