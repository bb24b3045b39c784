-- For the code: the cites of all requests, beside the table of the entries that they cite.
use Rattle.std.specs.Prelude.{◌≡◌, ℕ, ◌<◌, All, Bool, List, length, map}
use Rattle.value_styles.specs.Ring.{HasNoRing}
use Rattle.driver_entries.specs.Entries.{place}
use Rattle.driver_entries.specs.Table.{Table}
use Rattle.driver_passes.specs.Places.{AreDistinct, IsPlace}
use Rattle.driver_passes.specs.Renders.{CiteRender, Place}

-- the cites can be rendered, and the table has the place of the entry of each
pub record AreCitesOfTable {E P : Type 0} (eq : E → E → Bool) (table : Table E)
    (cites : List (CiteRender E P)) : Type 0 where
  -- no style of theirs has macros that call each other in a ring
  pub no_ring : All (λ c. HasNoRing c.request.style.macros) cites
  -- the places are those of their entries, by request
  pub placed : table.places ≡ map (λ c. map (λ i. place eq i.entry table.entries) c.items) cites
  -- and an entry stands at each
  pub listed : All (λ ps. All (λ p. p < length table.entries) ps) table.places

-- cites stand at the places of a group, each at one of them
pub record IsGroupOf {E P : Type 0} (cites : List (CiteRender E P))
    (group : List Place) : Type 0 where
  pub exist : All (IsPlace cites) group
  pub distinct : AreDistinct group
