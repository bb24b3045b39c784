-- Cites in the order in which they are handed in, and what is known of each by those before it.
use Rattle.std.specs.Prelude.{ℕ, Bool, not, ◌&&◌, List, [], ◌∷◌, drop, flat_map, length, map, nat_eq, take}
use Rattle.std.specs.List.{list_any, zip}
use Rattle.driver_entries.specs.Entries.{place}
use Rattle.mentions_notes.specs.Notes.{all_notes}
use Rattle.mentions_notes.specs.declared.notes.CiteNotes.{CiteNotes}
use Rattle.mentions_notes.specs.declared.notes.HandedCite.{HandedCite}
use Rattle.driver_passes.specs.Request.{RequestedCite, Request}

-- a list cut into parts of these lengths
abbrev pub parts : {X : Type 0} → List ℕ → List X → List (List X)
parts [] xs = []
parts (n ∷ ns) xs = take n xs ∷ parts ns (drop n xs)

-- how many cites each request has
abbrev pub cite_counts : {E P : Type 0} → List (Request E P) → List ℕ
cite_counts requests = map (λ r. length r.cites) requests

-- a cite of an entry isn't the first one
abbrev pub is_later : ℕ → HandedCite × CiteNotes → Bool
is_later entry c = nat_eq entry c.0.entry && not c.1.is_first

abbrev pub are_cited_again : List HandedCite → ℕ → Bool
are_cited_again cites entry = list_any (is_later entry) (zip cites (all_notes cites))

module _ {E P : Type 0} (eq : E → E → Bool) (listed : List E) where
  -- a cite of a request, whose entry is named by its index in the bibliography
  abbrev pub handed_cite : Request E P → RequestedCite E P → HandedCite
  handed_cite r c = record {
    entry = place eq c.entry listed;
    note = r.note_number;
    near_note_distance = r.style.citation.near_note_distance;
  }

  -- the cites of all requests, in order
  abbrev pub handed_cites : List (Request E P) → List HandedCite
  handed_cites requests = flat_map (λ r. map (handed_cite r) r.cites) requests

  -- an entry, named so, is cited again: one of these cites isn't its first
  abbrev pub is_cited_again : List (Request E P) → ℕ → Bool
  is_cited_again requests = are_cited_again (handed_cites requests)

  -- what is known of each, by request and by place in it
  abbrev pub notes_of_cites : List (Request E P) → List (List CiteNotes)
  notes_of_cites requests = parts (cite_counts requests) (all_notes (handed_cites requests))
