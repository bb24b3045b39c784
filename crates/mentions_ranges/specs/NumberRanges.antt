-- Ranges of citation numbers, and what collapsing them makes of each cite.
use Rattle.std.specs.Prelude.{ℕ, ◌+◌, Bool, false, not, ◌&&◌, List, Option, Some, if◌then◌else◌, is_some, map, nat_eq}
use Rattle.std.specs.List.{enumerate_from, list_all, list_any}
use Rattle.list_lemmas.specs.Places.{places}
use Rattle.mentions_ranges.specs.Stretches.{ends_long, fits_at, is_inner}
use Rattle.mentions_ranges.specs.declared.collapsed.CollapsedCite.{CollapsedCite}
use Rattle.mentions_ranges.specs.declared.collapsed.Delimiter.{Delimiter}
use Rattle.mentions_ranges.specs.declared.numbers.NumberedCite.{NumberedCite}

abbrev pub shows_number : NumberedCite → Bool
shows_number c = is_some c.number

-- both are there, and the second is one more
abbrev pub is_next : Option ℕ → Option ℕ → Bool
is_next (Some m) (Some n) = nat_eq n (m + 1)
is_next _ _ = false

-- the number rises by one from a cite to the next
abbrev pub rises : NumberedCite → NumberedCite → Bool
rises c d = is_next c.number d.number

module _ (cites : List NumberedCite) where
  -- a range ends at k that has an inner cite
  abbrev pub ends_range : ℕ → Bool
  ends_range k = ends_long shows_number rises cites k

  -- such a range ends before k, and the cites between are hidden by their caller
  abbrev pub follows_range : ℕ → Bool
  follows_range k = list_any
      (λ e. ends_range e && list_all (fits_at (λ c. c.hidden) cites) (places (e + 1) k))
      (places 0 k)

  -- the cite at k: not shown inside a range, behind a dash at the end of one, and behind the
  -- after-collapse delimiter where it is the next that its caller shows
  abbrev pub in_range : ℕ → NumberedCite → CollapsedCite
  in_range k c = record {
    is_inner = is_inner shows_number rises cites k;
    is_cut = false;
    delimiter = if ends_range k then Delimiter.Dash
        else if follows_range k && not c.hidden then Delimiter.AfterCollapse
        else Delimiter.Usual;
  }

  abbrev pub number_ranges : List CollapsedCite
  number_ranges = map (λ p. in_range p.0 p.1) (enumerate_from 0 cites)
