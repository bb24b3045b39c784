-- Stretches of cites that show the suffixes of their years alone, and ranges of suffixes.
use Rattle.std.specs.Prelude.{ℕ, ◌+◌, Bool, true, false, not, ◌&&◌, List, Option, Some, if◌then◌else◌, is_some, length, map, nat_eq}
use Rattle.std.specs.List.{range_with_len}
use Rattle.std.specs.Option.{is_none, option_eq}
use Rattle.mentions_ranges.specs.Stretches.{ends_long, is_inner, is_later}
use Rattle.mentions_ranges.specs.declared.collapsed.CollapsedCite.{CollapsedCite}
use Rattle.mentions_ranges.specs.declared.collapsed.Delimiter.{Delimiter}
use Rattle.driver_lookup.specs.declared.apart.Apart.{Apart}
use Rattle.mentions_ranges.specs.declared.suffixes.Suffix.{Suffix}
use Rattle.mentions_ranges.specs.declared.suffixes.SuffixedCite.{SuffixedCite}

-- nothing may stand next to it in a stretch
abbrev pub is_alone : Option Apart → Bool
is_alone (Some Apart.Both) = true
is_alone _ = false

-- it shows a date and has a suffix, and nothing but its year is shown
abbrev pub fits : SuffixedCite → Bool
fits c = c.has_date && not c.hidden && not c.has_locator && is_some c.text && is_some c.suffix
    && not (is_alone c.apart)

-- both are there, and of one class
abbrev pub are_of_one_class : Option Suffix → Option Suffix → Bool
are_of_one_class (Some s) (Some t) = nat_eq s.class t.class
are_of_one_class _ _ = false

-- both are there, and the second is the next one
abbrev pub are_next : Option Suffix → Option Suffix → Bool
are_next (Some s) (Some t) = nat_eq t.number (s.number + 1)
are_next _ _ = false

-- two entries with suffixes of one class, whose cites read alike
abbrev pub is_alike : SuffixedCite → SuffixedCite → Bool
is_alike c d = not (nat_eq c.entry d.entry) && are_of_one_class c.suffix d.suffix
    && option_eq nat_eq c.text d.text && option_eq nat_eq c.names d.names

-- a cite and the next are of one stretch; words may stand before the first one of it alone
abbrev pub joins : SuffixedCite → SuffixedCite → Bool
joins c d = fits c && fits d && is_none d.apart && is_alike c d

-- and the suffix of the next one is the next
abbrev pub suffixes_rise : SuffixedCite → SuffixedCite → Bool
suffixes_rise c d = joins c d && are_next c.suffix d.suffix

module _ (ranges : Bool) (cites : List SuffixedCite) where
  -- the cite at k: cut to its suffix, and behind the year-suffix delimiter, in a stretch but for
  -- its first one; where ranges are asked for not shown inside one, and behind a dash at the end
  -- of one with inner cites
  abbrev pub in_stretch : ℕ → CollapsedCite
  in_stretch k = record {
    is_inner = ranges && is_inner fits suffixes_rise cites k;
    is_cut = is_later fits joins cites k;
    delimiter = if ranges && ends_long fits suffixes_rise cites k then Delimiter.Dash
        else if is_later fits joins cites k then Delimiter.YearSuffix
        else Delimiter.Usual;
  }

  abbrev pub suffix_stretches : List CollapsedCite
  suffix_stretches = map in_stretch (range_with_len 0 (length cites))
