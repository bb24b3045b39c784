-- For the code: what is known of each entry as the requests are walked.
use Rattle.std.specs.Prelude.{◌≡◌, ℕ, suc, ◌-◌, Bool, false, not, ◌&&◌, List, [], ◌∷◌, ◌++◌, Option, Some, None, cond, is_some, nat_le, option_map, unwrap_or}
use Rattle.driver_entries.specs.Entries.{is_in}
use Rattle.driver_entries.specs.Table.{Table, table_of}
use Rattle.driver_lookup.specs.declared.properties.CertainCiteProperties.{CertainCiteProperties}
use Rattle.driver_passes.specs.Request.{RequestedCite, Request}
use Rattle.driver_positions.specs.FirstProperties.{first_note, notes_entry}
use Rattle.driver_positions.specs.declared.first.Seen.{Seen}

-- behind the first member, which is the last that passes where no other does
abbrev pub last_place_behind : Bool → Option ℕ → Option ℕ
last_place_behind first (Some k) = Some (suc k)
last_place_behind first None = cond first (Some 0) None

-- the place of the last member that passes
abbrev pub last_place : {X : Type 0} → (X → Bool) → List X → Option ℕ
last_place p [] = None
last_place p (x ∷ xs) = last_place_behind (p x) (last_place p xs)

-- the place is one of the last n below the end
abbrev pub is_within : ℕ → ℕ → Option ℕ → Bool
is_within end n None = false
is_within end n (Some k) = nat_le (end - k) n

module _ {E P : Type 0} (eq : E → E → Bool) where
  -- what is known of e: whether it is one of these entries, and what these requests say of the
  -- notes that cite it
  abbrev pub seen_of : List E → List (Request E P) → E → Seen
  seen_of entries requests e = record {
    cited = is_in eq e entries;
    first_note = first_note eq e requests;
    last_noted = last_place (notes_entry eq e) requests;
  }

  -- the table is that of the requests `before`, then r, and others
  abbrev pub IsTableOf : List (Request E P) → Request E P → Table E → Type 0
  IsTableOf before r table = (after : List (Request E P))
      × (table ≡ table_of eq (before ++ r ∷ after))

module _ {E P : Type 0} where
  -- what is certain of a cite, from what is known of its entry, where the request stands at a place
  abbrev pub certain_by : Request E P → ℕ → Seen → ℕ → CertainCiteProperties
  certain_by r place seen index = record {
    note_number = r.note_number;
    first_note_number = option_map (λ n. unwrap_or seen.first_note n) r.note_number;
    is_near_note = is_some r.note_number
        && is_within place r.style.citation.near_note_distance seen.last_noted;
    is_first = not seen.cited;
    initial_idx = index;
  }
