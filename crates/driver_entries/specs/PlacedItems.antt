-- For the code: rendered cites, which know their places in their requests, and where their entries
-- stand in a table.
use Rattle.std.specs.Prelude.{◌≡◌, ℕ, Bool, List, All, Some, slice_get}
use Rattle.std.specs.List.{AllZip}
use Rattle.driver_entries.specs.Entries.{place}
use Rattle.driver_entries.specs.Table.{Table}
use Rattle.driver_passes.specs.Renders.{CiteRender, ItemRender}

module _ {E P : Type 0} (eq : E → E → Bool) where
  -- a cite's place in its request leads to the place of its entry among these
  abbrev pub IsPlaced : List E → List ℕ → ItemRender E P → Type 0
  IsPlaced entries places i = slice_get places i.properties.certain.initial_idx
      ≡ Some (place eq i.entry entries)

  -- so does that of each cite of each request
  abbrev pub ArePlaced : Table E → List (CiteRender E P) → Type 0
  ArePlaced table cites = AllZip
      (λ places r. All (IsPlaced table.entries places) r.items) table.places cites
