-- How the cites of a request collapse, in their final order.
use Rattle.std.specs.Prelude.{ℕ, Bool, true, false, not, ◌&&◌, List, Option, Some, None, if◌then◌else◌, is_some, map, nat_eq, slice_get, zip}
use Rattle.std.specs.List.{enumerate_from}
use Rattle.std.specs.Option.{is_none}
use Rattle.value_styles.specs.declared.style.Collapse.{Collapse}
use Rattle.mentions_ranges.specs.NumberRanges.{number_ranges}
use Rattle.mentions_ranges.specs.SuffixStretches.{suffix_stretches}
use Rattle.mentions_ranges.specs.declared.collapsed.CollapsedCite.{CollapsedCite}
use Rattle.mentions_ranges.specs.declared.collapsed.Delimiter.{Delimiter}
use Rattle.mentions_ranges.specs.declared.numbers.NumberedCite.{NumberedCite}
use Rattle.mentions_ranges.specs.declared.suffixes.SuffixedCite.{SuffixedCite}
use Rattle.mentions_blocks.specs.Collapsed.{collapsed}
use Rattle.mentions_blocks.specs.Parts.{parts}
use Rattle.mentions_blocks.specs.Years.{years}
use Rattle.mentions_blocks.specs.declared.collapsed.CollapsedYear.{CollapsedYear}
use Rattle.mentions_blocks.specs.declared.parts.ShownCite.{ShownCite}
use Rattle.mentions_blocks.specs.declared.years.BlockCite.{BlockCite}
use Rattle.mentions_blocks.specs.declared.years.BlockDelimiter.{BlockDelimiter}
use Rattle.mentions_blocks.specs.declared.years.BlockYear.{BlockYear}
use Rattle.mentions_blocks.specs.declared.years.YearCollapse.{YearCollapse}
use Rattle.mentions_arranging.specs.Order.{collapses_years}
use Rattle.mentions_arranging.specs.declared.positioned.PositionedCite.{PositionedCite}
use Rattle.mentions_arranging.specs.declared.request.CiteStyle.{CiteStyle}
use Rattle.mentions_arranging.specs.declared.request.RequestFacts.{RequestFacts}
use Rattle.mentions_arranging.specs.declared.request.RequestedCite.{RequestedCite}

-- how the cites of a request collapse: not at all where one of them has a purpose
abbrev pub collapse_of : RequestFacts → Option Collapse
collapse_of facts = if facts.has_purpose then None else facts.style.collapse

abbrev pub is_year : Option Collapse → Bool
is_year (Some Collapse.Year) = true
is_year _ = false

abbrev pub year_collapse : CiteStyle → Option Collapse → YearCollapse
year_collapse style collapse = record {
  by_year = is_year collapse;
  has_delimiter = style.has_after_collapse_delimiter;
}

-- no range or stretch says anything of it
abbrev pub unranged : CollapsedCite
unranged = record { is_inner = false; is_cut = false; delimiter = Delimiter.Usual }

-- what blocks say goes with what ranges and stretches say, which goes first
abbrev pub years_with_ranges : List BlockYear → List CollapsedCite → List CollapsedYear
years_with_ranges by_blocks by_ranges = map (λ p. collapsed p.0 p.1) (zip by_blocks by_ranges)

-- a cite that isn't the first of its part has the cite group delimiter before it
abbrev pub whole_in_part : ℕ × ℕ → BlockYear
whole_in_part p = record {
  is_cut = false;
  delimiter = if nat_eq p.0 p.1 then BlockDelimiter.Layout else BlockDelimiter.Group;
}

module _ {L : Type 0} where
  -- the names that a cite shows: none where its caller hides it
  abbrev pub names_shown : RequestedCite L → Option ℕ
  names_shown c = if c.hidden then None else c.shown.names

  abbrev pub shown_cite : PositionedCite L → ShownCite
  shown_cite c = record { block = c.placed.block; names = names_shown c.cite }

  -- the places at which the parts of cites begin, one for each cite
  abbrev pub part_places : List (PositionedCite L) → List ℕ
  part_places cites = parts (map shown_cite cites)

  -- a cite of the part that begins at a place; it can be cut if it shows names, and a date
  abbrev pub block_cite : ℕ × PositionedCite L → BlockCite
  block_cite p = record {
    part = p.0;
    can_be_cut = is_some (names_shown p.1.cite) && p.1.cite.shown.has_date;
    has_locator = is_some p.1.cite.locator;
  }

  abbrev pub block_cites : List (PositionedCite L) → List BlockCite
  block_cites cites = map block_cite (zip (part_places cites) cites)

  -- what blocks say of each cite
  abbrev pub block_years : CiteStyle → Option Collapse → List (PositionedCite L) → List BlockYear
  block_years style collapse cites = if collapses_years collapse
      then years (block_cites cites) (year_collapse style collapse)
      else map whole_in_part (enumerate_from 0 (part_places cites))

  -- a cite that may be in a range of numbers
  abbrev pub fits_range : RequestedCite L → Bool
  fits_range c = c.shown.has_number && not c.hidden && is_none c.locator && is_none c.apart

  abbrev pub range_number : List ℕ → RequestedCite L → Option ℕ
  range_number numbers c = if fits_range c then slice_get numbers c.entry else None

  abbrev pub numbered_cite : List ℕ → PositionedCite L → NumberedCite
  numbered_cite numbers c = record {
    hidden = c.cite.hidden;
    number = range_number numbers c.cite;
  }

  abbrev pub suffixed_cite : PositionedCite L → SuffixedCite
  suffixed_cite c = record {
    entry = c.cite.entry;
    suffix = c.cite.suffix;
    text = c.cite.shown.text;
    names = c.cite.shown.names;
    has_date = c.cite.shown.has_date;
    hidden = c.cite.hidden;
    has_locator = is_some c.cite.locator;
    apart = c.cite.apart;
  }

  -- what ranges of numbers or stretches of suffixes say of each cite, where these collapse
  abbrev pub cite_ranges :
      Option Collapse → List ℕ → List (PositionedCite L) → List CollapsedCite
  cite_ranges (Some Collapse.CitationNumber) numbers cites =
      number_ranges (map (numbered_cite numbers) cites)
  cite_ranges (Some Collapse.YearSuffix) numbers cites =
      suffix_stretches false (map suffixed_cite cites)
  cite_ranges (Some Collapse.YearSuffixRanged) numbers cites =
      suffix_stretches true (map suffixed_cite cites)
  cite_ranges _ numbers cites = map (λ c. unranged) cites

  -- what collapsing makes of each cite, where entries have these numbers
  abbrev pub collapsed_cites :
      RequestFacts → List ℕ → List (PositionedCite L) → List CollapsedYear
  collapsed_cites facts numbers cites = years_with_ranges
      (block_years facts.style (collapse_of facts) cites)
      (cite_ranges (collapse_of facts) numbers cites)
