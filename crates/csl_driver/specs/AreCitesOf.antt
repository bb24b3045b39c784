-- For the code: cites that were rendered, and the requests and the table of entries that they
-- belong to.
use Rattle.std.specs.Prelude.{◌≡◌, Bool, List, map}
use Rattle.driver_entries.specs.Entries.{is_in}
use Rattle.driver_entries.specs.PlacedItems.{ArePlaced}
use Rattle.driver_entries.specs.Table.{Table}
use Rattle.driver_passes.specs.Renders.{CiteRender}
use Rattle.driver_passes.specs.Request.{Request}
use Rattle.driver_positions.specs.FinalProperties.{cited_finally}

pub record AreCitesOf {E P : Type 0} (eq : E → E
    → Bool) (table : Table E) (requests : List (Request E P))
    (cites : List (CiteRender E P)) : Type 0 where
  -- they are those of the requests, one after another
  pub of : map (λ c. c.request) cites ≡ requests
  -- each knows where its entry stands in the table
  pub placed : ArePlaced eq table cites
  -- and they cite the entries of the table
  pub same : (e : E) → is_in eq e (cited_finally cites) ≡ is_in eq e table.entries
