-- The properties of cites before anything is rendered (CSL 1.0.2, position and near-note-distance).
use Rattle.std.specs.Prelude.{ℕ, ◌-◌, Bool, not, ◌&&◌, List, ◌++◌, Option, None, length, map, take, drop, find, is_some, option_map, unwrap_or, slice_index_or}
use Rattle.std.specs.List.{enumerate_from, last_or, list_any}
use Rattle.std.specs.Option.{option_and_then}
use Rattle.driver_entries.specs.Entries.{is_in, place}
use Rattle.driver_lookup.specs.declared.properties.CertainCiteProperties.{CertainCiteProperties}
use Rattle.driver_passes.specs.Positions.{with_last}
use Rattle.driver_passes.specs.Request.{RequestedCite, Request, cited, cites_of, entries_of}
use Rattle.driver_passes.specs.declared.first.FirstProperties.{FirstProperties}

-- what f gives of each member and of those before it
abbrev pub with_earlier : {X A : Type 0} → (List X → X → A) → List X → List A
with_earlier f xs = map (λ (k, x). f (take k xs) x) (enumerate_from 0 xs)

-- the last n members, or all where there are fewer
abbrev pub last_of : {X : Type 0} → ℕ → List X → List X
last_of n xs = drop (length xs - n) xs

-- the numbers of entries, from those by their places among the entries
abbrev pub numbered_by : {E : Type 0} → (E → E → Bool) → List ℕ → List E → E → ℕ
numbered_by eq numbers entries e = slice_index_or numbers (place eq e entries) 0

module _ {E P : Type 0} (eq : E → E → Bool) where
  -- the request cites an entry equal to e
  abbrev pub has_cite_of : E → Request E P → Bool
  has_cite_of e r = is_in eq e (entries_of r.cites)

  -- it cites such an entry in a note
  abbrev pub notes_entry : E → Request E P → Bool
  notes_entry e r = is_some r.note_number && has_cite_of e r

  -- the number of the first note among these requests that cites e
  abbrev pub first_note : E → List (Request E P) → Option ℕ
  first_note e requests = option_and_then (λ r. r.note_number) (find (notes_entry e) requests)

  -- the number of the first note that cites e: one of the requests `before`, or else r's own; none
  -- where r stands in no note
  abbrev pub first_note_number : List (Request E P) → Request E P → E → Option ℕ
  first_note_number before r e = option_map (λ n. unwrap_or (first_note e before) n) r.note_number

  -- r stands in a note, and of the requests before it one of the last, as many as its style says,
  -- cites e in a note
  abbrev pub is_near_note : List (Request E P) → Request E P → E → Bool
  is_near_note before r e = is_some r.note_number
      && list_any (notes_entry e) (last_of r.style.citation.near_note_distance before)

  -- no cite before cites e: none of the requests `before`, and none of the cites `earlier` of the
  -- same request
  abbrev pub is_first : List (Request E P) → List (RequestedCite E P) → E → Bool
  is_first before earlier e = not (is_in eq e (cited before ++ entries_of earlier))

  -- what is certain of the cite c of the request r behind the cites `earlier` of r and the requests
  -- `before`
  abbrev pub certain_properties : List (Request E P) → Request E P → List (RequestedCite E P)
      → RequestedCite E P → CertainCiteProperties
  certain_properties before r earlier c = record {
    note_number = r.note_number;
    first_note_number = first_note_number before r c.entry;
    is_near_note = is_near_note before r c.entry;
    is_first = is_first before earlier c.entry;
    initial_idx = length earlier;
  }

  module _ (payload_eq : P → P → Bool) (number_of : E → ℕ) where
    -- and what else is known of it: its number, and its position against the cite before it in the
    -- document
    abbrev pub cite_properties : List (Request E P) → Request E P → List (RequestedCite E P)
        → RequestedCite E P → FirstProperties
    cite_properties before r earlier c = record {
      certain = certain_properties before r earlier c;
      number = number_of c.entry;
      ibid = with_last eq payload_eq c (last_or None (cites_of before ++ earlier));
    }

    -- the first properties of the cites of r behind the requests `before`
    abbrev pub request_properties : List (Request E P) → Request E P → List FirstProperties
    request_properties before r = with_earlier (cite_properties before r) r.cites

    -- the first properties of all cites, by request and by place in it
    abbrev pub first_properties : List (Request E P) → List (List FirstProperties)
    first_properties requests = with_earlier request_properties requests
