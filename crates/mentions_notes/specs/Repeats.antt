-- Which cites repeat the one before them, in the final order of cites.
use Rattle.std.specs.Prelude.{ℕ, zero, suc, Bool, true, not, ◌&&◌, ◌||◌, List, [], ◌∷◌, Option, None, Some, if◌then◌else◌, is_some, map, nat_eq, slice_get}
use Rattle.std.specs.List.{enumerate_from, list_any}
use Rattle.std.specs.Option.{option_and_then, option_eq, option_or}
use Rattle.mentions_notes.specs.declared.repeats.PlacedCite.{PlacedCite}
use Rattle.mentions_notes.specs.declared.repeats.Position.{Position}
use Rattle.mentions_notes.specs.Requests.{Request}

-- the member directly before the one at k
abbrev pub before_at : {X : Type 0} → List X → ℕ → Option X
before_at xs zero = None
before_at xs (suc k) = slice_get xs k

-- a note with this number
abbrev pub is_note : ℕ → Option ℕ → Bool
is_note number note = option_eq nat_eq (Some number) note

-- the one cite of a request may be repeated by the request behind it: it stands in no note, or
-- the other one stands in the same, or its note cites no other entry
abbrev pub may_be_repeated : (ℕ → ℕ → Bool) → Option ℕ → Option ℕ → ℕ → Bool
may_be_repeated cites_other None to entry = true
may_be_repeated cites_other (Some number) to entry =
    is_note number to || not (cites_other number entry)

module _ {L : Type 0} where
  -- some request in the note of this number cites another entry
  abbrev pub cites_other : List (Request L) → ℕ → ℕ → Bool
  cites_other requests number entry = list_any (λ r. is_note number r.note
      && list_any (λ c. not (nat_eq entry c.entry)) r.cites) requests

  module _ (requests : List (Request L)) where
    -- of the cites of a request: the only one, where it may be repeated
    abbrev pub only_repeatable : Option ℕ → Option ℕ → List (PlacedCite L) → Option (PlacedCite L)
    only_repeatable from to (c ∷ []) =
        if may_be_repeated (cites_other requests) from to c.entry then Some c else None
    only_repeatable from to _ = None

    -- the cite of a request that the first cite of the one behind it may repeat, which stands in
    -- this note
    abbrev pub repeatable : Option ℕ → Request L → Option (PlacedCite L)
    repeatable note before = only_repeatable before.note note before.cites

module _ {L : Type 0} (eq : L → L → Bool) where
  -- the position of a cite that repeats another, by their locators: the same one, or none on both
  -- sides; or one of its own
  abbrev pub position_by : Option L → Option L → Position
  position_by last locator = if option_eq eq last locator then Position.Ibid
      else if is_some locator then Position.IbidWithLocator
      else Position.Different

  -- the position of a cite behind another, which it repeats where it cites the same entry
  abbrev pub position_behind : Option (PlacedCite L) → PlacedCite L → Position
  position_behind None c = Position.Different
  position_behind (Some last) c =
      if nat_eq last.entry c.entry then position_by last.locator c.locator else Position.Different

  -- the positions of the cites of a request, where the first one may repeat the given one
  abbrev pub positions_behind : Option (PlacedCite L) → List (PlacedCite L) → List Position
  positions_behind outside cites =
      map (λ p. position_behind (option_or (before_at cites p.0) outside) p.1)
      (enumerate_from 0 cites)

  -- those of all requests
  abbrev pub positions : List (Request L) → List (List Position)
  positions requests = map (λ p. positions_behind
      (option_and_then (repeatable requests p.1.note) (before_at requests p.0)) p.1.cites)
      (enumerate_from 0 requests)
