-- How the cites of a request, in their final order, are cut, hidden in ranges, and stand after
-- dashes, each by its neighbours.
use Rattle.std.specs.Prelude.{◌≡◌, ◌⊎◌, ℕ, zero, suc, Bool, true, false, not, ◌&&◌, List, None, Option, Some, is_some, length, map, nat_lt, option_map, slice_get}
use Rattle.value_styles.specs.declared.style.Collapse.{Collapse}
use Rattle.mentions_ranges.specs.ReadBack.{holds_at}
use Rattle.mentions_ranges.specs.NumberRanges.{rises}
use Rattle.mentions_ranges.specs.Stretches.{both}
use Rattle.mentions_ranges.specs.SuffixStretches.{joins, suffixes_rise}
use Rattle.mentions_blocks.specs.Collapsed.{cut_of}
use Rattle.mentions_blocks.specs.Parts.{shown_at}
use Rattle.mentions_blocks.specs.declared.collapsed.YearCut.{YearCut}
use Rattle.mentions_blocks.specs.declared.collapsed.YearDelimiter.{YearDelimiter}
use Rattle.mentions_arranging.specs.Collapsing.{names_shown, numbered_cite, shown_cite, suffixed_cite}
use Rattle.mentions_arranging.specs.Order.{collapses_years}
use Rattle.mentions_arranging.specs.declared.arranged.ArrangedCite.{ArrangedCite}
use Rattle.mentions_arranging.specs.declared.positioned.PositionedCite.{PositionedCite}
use Rattle.mentions_laws.specs.Cuts.{NamesStandBefore}
use Rattle.mentions_laws.specs.Parts.{HasParts}

-- it holds of the place before this one
abbrev pub holds_before : (ℕ → Bool) → ℕ → Bool
holds_before holds zero = false
holds_before holds (suc k) = holds k

abbrev pub is_dash : YearDelimiter → Bool
is_dash YearDelimiter.Dash = true
is_dash _ = false

-- nothing collapses at a cite: it is shown as without collapsing, after the layout's delimiter or
-- the cite group delimiter
pub record IsUncollapsed (way : ArrangedCite) : Type 0 where
  pub is_shown : way.is_inner ≡ false
  pub is_whole : way.cut ≡ YearCut.Whole
  pub delimiter : (way.delimiter ≡ YearDelimiter.Layout) ⊎ (way.delimiter ≡ YearDelimiter.Group)

-- a cite shows its number, with neither a locator nor words of its caller's
pub record ShowsBareNumber {L : Type 0} (c : PositionedCite L) : Type 0 where
  pub has_number : c.cite.shown.has_number ≡ true
  pub is_shown : c.cite.hidden ≡ false
  pub no_locator : c.cite.locator ≡ None
  pub no_words : c.cite.apart ≡ None

module _ {L : Type 0} (cites : List (PositionedCite L)) where
  -- by suffixes: the cite behind the one at k shows its suffix alone, since it reads like that one
  abbrev pub reads_on : Option Collapse → ℕ → Bool
  reads_on (Some Collapse.YearSuffix) k = both joins
      (slice_get (map suffixed_cite cites) k)
      (slice_get (map suffixed_cite cites) (suc k))
  reads_on (Some Collapse.YearSuffixRanged) k = both joins
      (slice_get (map suffixed_cite cites) k)
      (slice_get (map suffixed_cite cites) (suc k))
  reads_on _ k = false

  module _ (numbers : List ℕ) where
    -- where ranges collapse: the one behind the cite at k has the next number, or the next suffix
    abbrev pub counts_on : Option Collapse → ℕ → Bool
    counts_on (Some Collapse.CitationNumber) k = both rises
        (slice_get (map (numbered_cite numbers) cites) k)
        (slice_get (map (numbered_cite numbers) cites) (suc k))
    counts_on (Some Collapse.YearSuffixRanged) k = both suffixes_rise
        (slice_get (map suffixed_cite cites) k)
        (slice_get (map suffixed_cite cites) (suc k))
    counts_on _ k = false

    module _ (collapse : Option Collapse) (ways : List ArrangedCite) where
      abbrev pub cut_at : ℕ → Option YearCut
      cut_at k = option_map (λ w. w.cut) (slice_get ways k)

      abbrev pub is_inner_at : ℕ → Bool
      is_inner_at = holds_at (λ w. w.is_inner) ways

      -- of the cite at k, whose part begins here
      pub record IsArranged (first k : ℕ) (c : PositionedCite L) (way : ArrangedCite) : Type 0 where
        -- the place where it was handed in, and how it stands to the cite before it
        pub place : way.place ≡ c.placed.place
        pub position : way.position ≡ c.position
        -- it is cut to its suffix where it reads like the cite before it; else it has no names
        -- where years collapse and it isn't the first cite of its part, if it shows names and a
        -- date
        pub cut : way.cut ≡ cut_of
            (collapses_years collapse && nat_lt first k
            && (is_some (names_shown c.cite) && c.cite.shown.has_date))
            (holds_before (reads_on collapse) k)
        -- it is inside a range where one goes on from the cite before it to the one behind it
        pub inside : way.is_inner ≡ (holds_before (counts_on collapse) k && counts_on collapse k)
        -- a dash stands before it where the cite before it is inside a range, and it isn't
        pub dash : is_dash way.delimiter ≡ (holds_before is_inner_at k && not way.is_inner)

      -- of all cites
      pub record AreArranged : Type 0 where
        pub as_many : length ways ≡ length cites
        pub parts : HasParts (map shown_cite cites)
        pub each : (k : ℕ) (c : PositionedCite L) (way : ArrangedCite) → slice_get cites k ≡ Some c
            → slice_get ways k ≡ Some way → IsArranged (parts.begins k) k c way
        -- the names of a cite that has none left stand before it
        pub cut_names_stand_before : (k : ℕ) → cut_at k ≡ Some YearCut.WithoutNames
            → NamesStandBefore (shown_at (map shown_cite cites))
            (λ j. cut_at j ≡ Some YearCut.Whole) k
        -- nothing collapses where a style collapses nothing, or a cite has a purpose
        pub uncollapsed : collapse ≡ None
            → (k : ℕ) (way : ArrangedCite) → slice_get ways k ≡ Some way → IsUncollapsed way
        -- a range of numbers, its ends too, has none but cites that show their numbers
        pub bare_numbers : collapse ≡ Some Collapse.CitationNumber
            → (k : ℕ) (c d : PositionedCite L) → counts_on collapse k ≡ true
            → slice_get cites k ≡ Some c → slice_get cites (suc k) ≡ Some d
            → ShowsBareNumber c
            × ShowsBareNumber d
