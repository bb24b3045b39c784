-- For the code: cites whose entries are named by their places in a table.
use Rattle.std.specs.Prelude.{ℕ, Bool, List, flat_map, length, map, slice_get, unwrap_or}
use Rattle.driver_entries.specs.Listed.{Listed}
use Rattle.driver_entries.specs.Table.{places_in}
use Rattle.mentions_notes.specs.declared.notes.HandedCite.{HandedCite}
use Rattle.driver_passes.specs.Request.{Request}
use Rattle.mentions_cited.specs.Homes.{HomeValue}

-- the index in a listing of the entry at a place, behind all where it isn't listed
abbrev pub listed_at : Listed → ℕ → ℕ
listed_at l p = unwrap_or (slice_get l.numbers p) (length l.order)

module _ {E P : Type 0} where
  -- a cite of a request, whose entry is at this place
  abbrev pub handed_at : Listed → Request E P → ℕ → HandedCite
  handed_at l r p = record {
    entry = listed_at l p;
    note = r.note_number;
    near_note_distance = r.style.citation.near_note_distance;
  }

  -- the cites of all requests, whose entries are these
  abbrev pub handed_by : (E → E → Bool) → List E → Listed → List (Request E P) → List HandedCite
  handed_by eq entries l requests =
      flat_map (λ r. map (handed_at l r) (places_in eq entries r.cites)) requests

  -- no cite before it cites its entry
  abbrev pub is_first_cite : HomeValue E P → Bool
  is_first_cite c = c.notes.is_first
