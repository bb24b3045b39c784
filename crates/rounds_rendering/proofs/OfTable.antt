-- The cites of a table, request by request.
use Rattle.std.proofs.Common.{◌≡◌, ℕ, ◌<◌, Bool, List, [], length, map, get_or, ap, sym, subst, ◌∙◌}
use Rattle.std.proofs.Math.ListN.{length-map}
use Rattle.std.proofs.lemmas.List.{get_or-map}
use Rattle.driver_entries.specs.Entries.{place}
use Rattle.driver_entries.specs.Table.{Table}
use Rattle.driver_passes.specs.Renders.{CiteRender}
use Rattle.rounds_rendering.specs.CitesOfTable.{AreCitesOfTable}

module _ {E P : Type 0} (eq : E → E → Bool) (table : Table E) (cites : List (CiteRender E P)) (are : AreCitesOfTable eq table cites) where
  abbrev places_of : CiteRender E P → List ℕ
  places_of c = map (λ i. place eq i.entry table.entries) c.items

  -- there are places for each request
  pub rows-long : length table.places ≡ length cites
  rows-long = ap length are.placed ∙ length-map cites places_of

  module _ (r : ℕ) (within : r < length cites) where
    pub row-within : r < length table.places
    row-within = subst (λ n. r < n) (sym rows-long) within

    -- the places as the table has them
    pub row-is : {A : Type 0} (view : A → List ℕ) (rows : List A) (row : A) → map view rows ≡ table.places → row ≡ get_or rows r row → view row ≡ get_or table.places r []
    row-is view rows row same here =
        let inside : r < length rows = subst (λ n. r < n) (ap length (sym same) ∙ length-map rows view) row-within in
        ap view here ∙ sym (get_or-map view rows r row [] inside) ∙ ap (λ l. get_or l r []) same
