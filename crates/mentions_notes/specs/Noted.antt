-- For the code: the entries that notes cite.
use Rattle.std.specs.Prelude.{◌≡◌, ℕ, Bool, false, not, ◌||◌, List, Option, None, Some, nat_eq}
use Rattle.std.specs.HashMap.{HashMap, get}
use Rattle.mentions_notes.specs.Repeats.{cites_other}
use Rattle.mentions_notes.specs.Requests.{Request}
use Rattle.mentions_notes.specs.declared.repeats.NoteEntries.{NoteEntries}

-- another entry than this one is noted
abbrev pub is_other : ℕ → Option NoteEntries → Bool
is_other entry None = false
is_other entry (Some e) = e.several || not (nat_eq e.entry entry)

-- once one more was noted
abbrev pub noted_with : ℕ → Option NoteEntries → NoteEntries
noted_with entry None = record { entry = entry; several = false }
noted_with entry (Some e) = record {
  entry = e.entry;
  several = e.several || not (nat_eq e.entry entry);
}

-- these are the notes of all requests
abbrev pub AreNotesOf : {L S : Type 0} → HashMap ℕ NoteEntries S → List (Request L) → Type 0
AreNotesOf noted requests = (n e : ℕ) → is_other e (get nat_eq noted n) ≡ cites_other requests n e
