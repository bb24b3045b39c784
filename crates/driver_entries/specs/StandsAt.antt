-- For the code: where an entry stands among others.
use Rattle.std.specs.Prelude.{◌≡◌, ℕ, Bool, true, List}
use Rattle.driver_entries.specs.Entries.{is_in, place}

-- the entry is among these, and k is the place of the first that is equal to it
pub record StandsAt {E : Type 0} (eq : E → E
    → Bool) (entries : List E) (e : E) (k : ℕ) : Type 0 where
  pub listed : is_in eq e entries ≡ true
  pub at : k ≡ place eq e entries
