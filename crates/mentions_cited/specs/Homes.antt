-- The home of an entry: the first of all cites of it, in the order in which they are handed in.
use Rattle.std.specs.Prelude.{ℕ, Bool, List, Option, filter_map, find, flat_map, map}
use Rattle.std.specs.List.{enumerate_from, zip}
use Rattle.mentions_notes.specs.declared.notes.CiteNotes.{CiteNotes}
use Rattle.driver_passes.specs.Request.{RequestedCite, Request}
use Rattle.mentions_cited.specs.Handed.{notes_of_cites}

-- a cite where it stands: its request, its place there, and what is known of it by those before it
pub record HomeValue (E P : Type 0) : Type 0 where
  pub request : Request E P
  pub place : ℕ
  pub entry : E
  pub notes : CiteNotes

module _ {E P : Type 0} where
  abbrev pub standing_cite : Request E P → ℕ → RequestedCite E P × CiteNotes → HomeValue E P
  standing_cite r k c = record { request = r; place = k; entry = c.0.entry; notes = c.1 }

  -- the cites of a request, of which this is known
  abbrev pub standing_in : Request E P → List CiteNotes → List (HomeValue E P)
  standing_in r notes = map (λ p. standing_cite r p.0 p.1) (enumerate_from 0 (zip r.cites notes))

  -- those of all requests, in order
  abbrev pub standing_cites : List (Request E P) → List (List CiteNotes) → List (HomeValue E P)
  standing_cites requests notes = flat_map (λ p. standing_in p.0 p.1) (zip requests notes)

module _ {E P : Type 0} (eq : E → E → Bool) (listed : List E) (requests : List (Request E P)) where
  -- the first cite of an entry
  abbrev pub home : E → Option (HomeValue E P)
  home e = find (λ c. eq e c.entry)
      (standing_cites requests (notes_of_cites eq listed requests))

  -- the homes of the bibliography's entries
  abbrev pub homes_of : List (HomeValue E P)
  homes_of = filter_map home listed
