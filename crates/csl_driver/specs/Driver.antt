-- A driver as plain data.
use Rattle.std.specs.Prelude.{ℕ, List, [], ◌∷◌, ◌++◌}
use Rattle.driver_passes.specs.Request.{Request, with_places}

-- the requests that a driver accepted, in order, and the number of the first entry
pub record Driver (E P : Type 0) : Type 0 where
  pub requests : List (Request E P)
  pub offset : ℕ

-- the driver that has taken one more request
abbrev pub with_request : {E P : Type 0} → Driver E P → Request E P → Driver E P
with_request d r = record d { requests = d.requests ++ with_places r ∷ [] }
