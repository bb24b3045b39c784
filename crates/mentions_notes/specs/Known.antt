-- For the code: what is known of each entry by the cites that were looked at.
use Rattle.std.specs.Prelude.{ℕ, true, false, not, List, None, if◌then◌else◌, nat_eq, option_map, unwrap_or}
use Rattle.std.specs.HashMap.{HashMap, get}
use Rattle.std.specs.List.{list_any}
use Rattle.std.specs.Option.{option_or}
use Rattle.mentions_notes.specs.Notes.{cites_entry, first_note, is_near, last_note}
use Rattle.mentions_notes.specs.declared.notes.CiteNotes.{CiteNotes}
use Rattle.mentions_notes.specs.declared.notes.HandedCite.{HandedCite}
use Rattle.mentions_notes.specs.declared.notes.Known.{Known}

-- nothing yet
abbrev pub unknown : Known
unknown = record { cited = false; first_note = None; last_note = None }

module _ {S : Type 0} where
  abbrev pub known_at : HashMap ℕ Known S → ℕ → Known
  known_at known entry = unwrap_or (get nat_eq known entry) unknown

-- what these cites say of an entry
abbrev pub known_by : List HandedCite → ℕ → Known
known_by cites entry = record {
  cited = list_any (cites_entry entry) cites;
  first_note = first_note entry cites;
  last_note = last_note entry cites;
}

-- once a cite of it was looked at
abbrev pub grown : HandedCite → Known → Known
grown c k = record {
  cited = true;
  first_note = option_or k.first_note c.note;
  last_note = option_or c.note k.last_note;
}

-- once any cite was
abbrev pub known_with : HandedCite → ℕ → Known → Known
known_with c entry k = if cites_entry entry c then grown c k else k

-- what is known of a cite, from what is known of its entry
abbrev pub notes_by : HandedCite → Known → CiteNotes
notes_by c k = record {
  is_first = not k.cited;
  first_note = option_map (λ n. unwrap_or k.first_note n) c.note;
  is_near = is_near c.near_note_distance c.note k.last_note;
}
