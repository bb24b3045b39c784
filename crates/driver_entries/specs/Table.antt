-- The cited entries, each once, and where the entry of each cite stands among them.
use Rattle.std.specs.Prelude.{ℕ, Bool, List, map}
use Rattle.driver_entries.specs.Entries.{distinct, place}
use Rattle.driver_passes.specs.Request.{RequestedCite, Request, cited, entries_of}

pub record Table (E : Type 0) : Type 0 where
  pub entries : List E
  -- by request, and by place in it, the place of the cite's entry
  pub places : List (List ℕ)

module _ {E P : Type 0} (eq : E → E → Bool) where
  -- where the entries of cites stand among these
  abbrev pub places_in : List E → List (RequestedCite E P) → List ℕ
  places_in entries cites = map (λ e. place eq e entries) (entries_of cites)

  -- the table of all that is cited, in the order of the first cites
  abbrev pub table_of : List (Request E P) → Table E
  table_of requests =
      let entries = distinct eq (cited requests) in
      record {
        entries = entries;
        places = map (λ r. places_in entries r.cites) requests;
      }
