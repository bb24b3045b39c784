-- For the code: cites by where they are linked to their neighbours.
use Rattle.std.specs.Prelude.{Bool, false, not, ◌&&◌, if◌then◌else◌}
use Rattle.mentions_ranges.specs.declared.around.Around.{Around}
use Rattle.mentions_ranges.specs.declared.collapsed.CollapsedCite.{CollapsedCite}
use Rattle.mentions_ranges.specs.declared.collapsed.Delimiter.{Delimiter}

abbrev pub unlinked : Around
unlinked = record { before = false; here = false; behind = false }

-- one cite on
abbrev pub moved : Around → Bool → Around
moved a behind = record { before = a.here; here = a.behind; behind = behind }

abbrev pub ends_long : Around → Bool
ends_long a = a.before && a.here && not a.behind

-- a cite by what is known around it
abbrev pub number_made : Around → Bool → Bool → CollapsedCite
number_made a follows hidden = record {
  is_inner = a.here && a.behind;
  is_cut = false;
  delimiter = if ends_long a then Delimiter.Dash else if follows && not hidden
      then Delimiter.AfterCollapse else Delimiter.Usual;
}

abbrev pub suffix_made : Bool → Bool → Around → CollapsedCite
suffix_made ranges is_later a = record {
  is_inner = ranges && a.here && a.behind;
  is_cut = is_later;
  delimiter = if ranges && ends_long a then Delimiter.Dash
      else if is_later then Delimiter.YearSuffix else Delimiter.Usual;
}
