-- Years of parts of blocks, and what collapsing them makes of each cite.
use Rattle.std.specs.Prelude.{ℕ, zero, suc, Bool, false, ◌&&◌, ◌||◌, List, if◌then◌else◌, map, nat_eq, slice_get}
use Rattle.std.specs.List.{enumerate_from, list_any}
use Rattle.mentions_ranges.specs.Stretches.{both}
use Rattle.mentions_blocks.specs.declared.years.BlockCite.{BlockCite}
use Rattle.mentions_blocks.specs.declared.years.BlockDelimiter.{BlockDelimiter}
use Rattle.mentions_blocks.specs.declared.years.BlockYear.{BlockYear}
use Rattle.mentions_blocks.specs.declared.years.YearCollapse.{YearCollapse}

abbrev pub in_one_part : BlockCite → BlockCite → Bool
in_one_part b c = nat_eq b.part c.part

-- a cite, by whether it comes behind another of its part, whether the after-collapse delimiter
-- stands behind the part before its own, and whether some cite of its part has a locator
abbrev pub year_by : YearCollapse → BlockCite → Bool → Bool → Bool → BlockYear
year_by how c follows collapses is_located = record {
  is_cut = follows && c.can_be_cut;
  delimiter = if follows
      then (if how.by_year && how.has_delimiter && is_located then BlockDelimiter.AfterCollapse
      else BlockDelimiter.Group)
      else (if collapses then BlockDelimiter.AfterCollapse else BlockDelimiter.Layout);
}

module _ (cites : List BlockCite) where
  -- the cite at k comes behind another of its part
  abbrev pub follows : ℕ → Bool
  follows zero = false
  follows (suc k) = both in_one_part (slice_get cites k) (slice_get cites (suc k))

  -- some cite of a part has a locator
  abbrev pub is_located : ℕ → Bool
  is_located part = list_any (λ c. c.has_locator && nat_eq part c.part) cites

  module _ (how : YearCollapse) where
    -- the after-collapse delimiter stands behind the cite before k, if a part ends there: by year
    -- behind each part, else behind one of two or more
    abbrev pub collapses : ℕ → Bool
    collapses zero = false
    collapses (suc k) = how.by_year || follows k

    abbrev pub year_of : ℕ × BlockCite → BlockYear
    year_of p = year_by how p.1 (follows p.0) (collapses p.0) (is_located p.1.part)

    abbrev pub years : List BlockYear
    years = map year_of (enumerate_from 0 cites)
