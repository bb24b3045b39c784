-- What is known of a cite by the cites before it, in the order in which they are handed in.
use Rattle.std.specs.Prelude.{ℕ, ◌-◌, Bool, false, not, ◌&&◌, List, [], ◌∷◌, Option, None, Some, if◌then◌else◌, map, nat_eq, nat_le, option_map, reverse, take, unwrap_or}
use Rattle.std.specs.List.{enumerate_from, list_any}
use Rattle.std.specs.Option.{option_or}
use Rattle.mentions_notes.specs.declared.notes.CiteNotes.{CiteNotes}
use Rattle.mentions_notes.specs.declared.notes.HandedCite.{HandedCite}

-- the first of these that is there
abbrev pub first_of : {X : Type 0} → List (Option X) → Option X
first_of [] = None
first_of (o ∷ os) = option_or o (first_of os)

abbrev pub cites_entry : ℕ → HandedCite → Bool
cites_entry entry c = nat_eq entry c.entry

-- the number of a cite's note, if it cites the entry in one
abbrev pub note_citing : ℕ → HandedCite → Option ℕ
note_citing entry c = if cites_entry entry c then c.note else None

-- the number of the first of the notes in which these cite the entry, and that of the last
abbrev pub first_note : ℕ → List HandedCite → Option ℕ
first_note entry cites = first_of (map (note_citing entry) cites)

abbrev pub last_note : ℕ → List HandedCite → Option ℕ
last_note entry cites = first_of (reverse (map (note_citing entry) cites))

-- both are notes, and the second one is at most so far before the first, or the same
abbrev pub is_near : ℕ → Option ℕ → Option ℕ → Bool
is_near distance (Some note) (Some last) = nat_le last note && nat_le (note - last) distance
is_near distance _ _ = false

-- what is known of a cite behind others
abbrev pub notes_behind : List HandedCite → HandedCite → CiteNotes
notes_behind before c = record {
  is_first = not (list_any (cites_entry c.entry) before);
  first_note = option_map (λ n. unwrap_or (first_note c.entry before) n) c.note;
  is_near = is_near c.near_note_distance c.note (last_note c.entry before);
}

abbrev pub all_notes : List HandedCite → List CiteNotes
all_notes cites = map (λ p. notes_behind (take p.0 cites) p.1) (enumerate_from 0 cites)
