-- The table of the distinct entries.
use Rattle.std.proofs.Common.{◌≡◌, ℕ, Bool, Some, ◌<◌, ◌≤◌, List, [], map, length, take, get_or, refl, ap, ◌∙◌}
use Rattle.std.specs.Prelude.{slice_get}
use Rattle.std.specs.Borrow.{Bor}
use Rattle.std.specs.Cmp.{IsEquivalence}
use Rattle.std.proofs.Math.ListN.{get_or-map}
use Rattle.std.proofs.lemmas.List.{take_all}
use Rattle.std.proofs.lemmas.Option.{slice_get-get_or}
use Rattle.driver_entries.specs.Entries.{distinct, with_all_new}
use Rattle.driver_entries.specs.Table.{Table, places_in, table_of}
use Rattle.driver_entries.specs.TableView.{table_view}
use Rattle.driver_entries.specs.declared.table.EntryTable.{EntryTable}
use Rattle.driver_passes.specs.Request.{Request, cited}
use Rattle.driver_passes.specs.RequestView.{entries_view}
use Rattle.driver_entries.proofs.Distinct.{all_new_is_distinct}

as-table : {E : Type 0} {es fs : List E} {ps qs : List (List ℕ)} → es ≡ fs → ps ≡ qs
    → let a : Table E = record { entries = es; places = ps } in a ≡ record { entries = fs; places = qs }
as-table e p = rw (e, p) refl

-- the table of what was gathered
pub gathered-table : {E P X : Type 0} (eq : E → E → Bool) (laws : IsEquivalence eq) (xs : List X) (k : ℕ)
    (view : X → Request E P) (t : EntryTable E) → length xs ≤ k
    → entries_view t.entries.keys ≡ with_all_new eq [] (cited (map view (take k xs)))
    → map (λ ps. ps.items) t.places.items
    ≡ map (λ r. places_in eq (entries_view t.entries.keys) r.cites) (map view (take k xs))
    → table_view t ≡ table_of eq (map view xs)
gathered-table eq laws xs k view t past added placed =
    let keys = t.entries.keys in
    let rs = map view xs in
    let all : map view (take k xs) ≡ rs = ap (λ l. map view l) (take_all k xs past) in
    let es : entries_view keys ≡ distinct eq (cited rs) =
    added ∙ ap (λ l. with_all_new eq [] (cited l)) all ∙ all_new_is_distinct eq laws (cited rs) in
    as-table es
    (placed ∙ ap (λ l. map (λ r. places_in eq (entries_view keys) r.cites) l) all
    ∙ ap (λ l. map (λ r. places_in eq l r.cites) rs) es)

-- what stands at a place of it
pub entry-at : {E : Type 0} (keys : List (Bor E)) (k : ℕ) (d : Bor E) → k < length (entries_view keys)
    → slice_get (entries_view keys) k ≡ Some (get_or keys k d).now
entry-at {E} keys k d within =
    let entry : Bor E → E = λ e. e.now in
    slice_get-get_or (entries_view keys) k (entry d) within ∙ ap Some (get_or-map entry keys k d)
