-- The cites of requests in their final order are those of the requests, know where their entries stand in the table, and cite the entries of the table.
use Rattle.std.proofs.Common.{◌≡◌, ℕ, zero, suc, ◌+◌, Bool, false, ◌||◌, Option, Some, None, List, [], ◌∷◌, All, length, map, refl, ap, sym, subst, ◌∙◌, arith}
use Rattle.std.specs.Prelude.{filter_map, flat_map, option_map, slice_get}
use Rattle.std.specs.List.{AllZip, cons_option, list_any, range_with_len, zip}
use Rattle.std.specs.List.Sorted.{IsPermutation}
use Rattle.std.specs.Option.{option_map_or}
use Rattle.std.specs.Cmp.{IsEquivalence}
use Rattle.std.proofs.lemmas.List.Elements.{All-cons, All-nil}
use Rattle.std.proofs.lemmas.List.Folds.{list_any-append}
use Rattle.std.proofs.lemmas.List.Sorted.{list_any-IsPermutation}
use Rattle.std.proofs.lemmas.Option.{slice_get-map}
use Rattle.mentions_notes.specs.declared.notes.CiteNotes.{CiteNotes}
use Rattle.mentions_arranging.specs.Requests.{Request as Arranged}
use Rattle.mentions_arranging.specs.declared.request.FinalCite.{FinalCite}
use Rattle.driver_entries.specs.Entries.{distinct, is_in, place}
use Rattle.driver_entries.specs.PlacedItems.{ArePlaced, IsPlaced}
use Rattle.driver_entries.specs.Table.{places_in, table_of}
use Rattle.driver_entries.proofs.Distinct.{is_in-distinct}
use Rattle.driver_passes.specs.Renders.{ItemRender}
use Rattle.driver_passes.specs.Request.{RequestedCite, Request, cited, entries_of}
use Rattle.mentions_cites.specs.Cites.{ToldValue, told_at, told_cite, told_cites}

zip-first : {A B : Type 0} (xs : List A) (ys : List B) (k : ℕ) (p : A × B) → slice_get (zip xs ys) k ≡ Some p → slice_get xs k ≡ Some p.0
zip-first [] ys zero p h = cc
zip-first [] ys (suc k) p h = cc
zip-first (x ∷ xs) [] zero p h = cc
zip-first (x ∷ xs) [] (suc k) p h = cc
zip-first (x ∷ xs) (y ∷ ys) zero p h = cc
zip-first (x ∷ xs) (y ∷ ys) (suc k) p h = zip-first xs ys k p h

module _ {E P L : Type 0} (told : ToldValue) where
  -- they are those of the requests, one after another
  pub told-of : (rs : List (Request E P)) (ns : List (List CiteNotes)) (fs : List (Arranged (FinalCite L))) → length ns ≡ length rs → length fs ≡ length rs
      → map (λ c. c.request) (told_cites told rs ns fs) ≡ rs
  told-of [] ns fs h q = refl
  told-of (r ∷ rs) [] fs h q = absurd (omega arith)
  told-of (r ∷ rs) (n ∷ ns) [] h q = absurd (omega arith)
  told-of (r ∷ rs) (n ∷ ns) (f ∷ fs) h q = ap (λ l. r ∷ l) (told-of rs ns fs (omega arith) (omega arith))

  module _ (eq : E → E → Bool) (entries : List E) where
    placed-one : (r : Request E P) (notes : List CiteNotes) (f : FinalCite L) (i : ItemRender E P) → told_at told r notes f ≡ Some i → IsPlaced eq entries (places_in eq entries r.cites) i
    placed-one r notes f i h = by (slice_get (zip r.cites notes) f.placed.place) refl h
      where
        by : (o : Option (RequestedCite E P × CiteNotes)) → slice_get (zip r.cites notes) f.placed.place ≡ o
            → option_map (λ p. told_cite told r.note_number f.cite.entry f.placed.place p.0 p.1) o ≡ Some i → IsPlaced eq entries (places_in eq entries r.cites) i
        by None e q = cc
        by (Some p) e q =
            let is : told_cite told r.note_number f.cite.entry f.placed.place p.0 p.1 ≡ i = cc in
            subst (IsPlaced eq entries (places_in eq entries r.cites)) is
            (slice_get-map (λ d. place eq d entries) (entries_of r.cites) f.placed.place
            ∙ ap (option_map (λ d. place eq d entries)) (slice_get-map (λ c. c.entry) r.cites f.placed.place)
            ∙ ap (λ o. option_map (λ d. place eq d entries) (option_map (λ c. c.entry) o)) (zip-first r.cites notes f.placed.place p e))

    placed-all : (r : Request E P) (notes : List CiteNotes) (fs : List (FinalCite L)) → All (IsPlaced eq entries (places_in eq entries r.cites)) (filter_map (told_at told r notes) fs)
    placed-all r notes [] = All-nil (IsPlaced eq entries (places_in eq entries r.cites))
    placed-all r notes (f ∷ fs) = by (told_at told r notes f) refl (placed-all r notes fs)
      where
        by : (o : Option (ItemRender E P)) → told_at told r notes f ≡ o → All (IsPlaced eq entries (places_in eq entries r.cites)) (filter_map (told_at told r notes) fs)
            → All (IsPlaced eq entries (places_in eq entries r.cites)) (cons_option o (filter_map (told_at told r notes) fs))
        by None e more = more
        by (Some i) e more = All-cons (IsPlaced eq entries (places_in eq entries r.cites)) i (filter_map (told_at told r notes) fs) (placed-one r notes f i e) more

    placed-rows : (rs : List (Request E P)) (ns : List (List CiteNotes)) (fs : List (Arranged (FinalCite L))) → length ns ≡ length rs → length fs ≡ length rs
        → AllZip (λ places r. All (IsPlaced eq entries places) r.items) (map (λ r. places_in eq entries r.cites) rs) (told_cites told rs ns fs)
    placed-rows [] ns fs h q = tt
    placed-rows (r ∷ rs) [] fs h q = absurd (omega arith)
    placed-rows (r ∷ rs) (n ∷ ns) [] h q = absurd (omega arith)
    placed-rows (r ∷ rs) (n ∷ ns) (f ∷ fs) h q = (placed-all r n f.cites, placed-rows rs ns fs (omega arith) (omega arith))

  -- each knows where its entry stands in the table
  pub told-placed : (eq : E → E → Bool) (rs : List (Request E P)) (ns : List (List CiteNotes)) (fs : List (Arranged (FinalCite L))) → length ns ≡ length rs → length fs ≡ length rs
      → ArePlaced eq (table_of eq rs) (told_cites told rs ns fs)
  told-placed eq rs ns fs h q = placed-rows eq (distinct eq (cited rs)) rs ns fs h q

-- which entries they cite
zip-both : {A B : Type 0} (xs : List A) (ys : List B) → length ys ≡ length xs → (k : ℕ) → slice_get xs k ≡ option_map (λ p. p.0) (slice_get (zip xs ys) k)
zip-both [] ys h zero = refl
zip-both [] ys h (suc k) = refl
zip-both (x ∷ xs) [] h k = absurd (omega arith)
zip-both (x ∷ xs) (y ∷ ys) h zero = refl
zip-both (x ∷ xs) (y ∷ ys) h (suc k) = zip-both xs ys (omega arith) k

module _ {E P : Type 0} (eq : E → E → Bool) (e : E) where
  -- the cite at a place cites it
  abbrev cites-at : List (RequestedCite E P) → ℕ → Bool
  cites-at cs k = option_map_or (λ c. eq e c.entry) (slice_get cs k) false

  any-from : (cs all : List (RequestedCite E P)) (a : ℕ) → ((k : ℕ) → slice_get all (a + k) ≡ slice_get cs k) → list_any (cites-at all) (range_with_len a (length cs)) ≡ list_any (eq e) (entries_of cs)
  any-from [] all a h = refl
  any-from (c ∷ cs) all a h =
      let first : a ≡ a + 0 = omega arith in
      let here : slice_get all a ≡ Some c = ap (slice_get all) first ∙ h 0 in
      let later : (k : ℕ) → slice_get all ((a + 1) + k) ≡ slice_get cs k = λ k. let next : (a + 1) + k ≡ a + suc k = omega arith in ap (slice_get all) next ∙ h (suc k) in
      λ i. option_map_or (λ c. eq e c.entry) (here i) false || any-from cs all (a + 1) later i

module _ {E P L : Type 0} (told : ToldValue) (eq : E → E → Bool) (e : E) where
  told-any : (r : Request E P) (notes : List CiteNotes) → length notes ≡ length r.cites → (fs : List (FinalCite L))
      → list_any (eq e) (map (λ i. i.entry) (filter_map (told_at told r notes) fs)) ≡ list_any (cites-at eq e r.cites) (map (λ f. f.placed.place) fs)
  told-any r notes long [] = refl
  told-any r notes long (f ∷ fs) =
      by (slice_get (zip r.cites notes) f.placed.place) (zip-both r.cites notes long f.placed.place) (told-any r notes long fs)
    where
      by : (o : Option (RequestedCite E P × CiteNotes)) → slice_get r.cites f.placed.place ≡ option_map (λ p. p.0) o
          → list_any (eq e) (map (λ i. i.entry) (filter_map (told_at told r notes) fs)) ≡ list_any (cites-at eq e r.cites) (map (λ f. f.placed.place) fs)
          → list_any (eq e) (map (λ i. i.entry) (cons_option (option_map (λ p. told_cite told r.note_number f.cite.entry f.placed.place p.0 p.1) o) (filter_map (told_at told r notes) fs)))
          ≡ (option_map_or (λ c. eq e c.entry) (slice_get r.cites f.placed.place) false || list_any (cites-at eq e r.cites) (map (λ f. f.placed.place) fs))
      by None h more = more ∙ ap (λ o. option_map_or (λ c. eq e c.entry) o false || list_any (cites-at eq e r.cites) (map (λ f. f.placed.place) fs)) (sym h)
      by (Some p) h more =
          ap (λ b. eq e p.0.entry || b) more ∙ ap (λ o. option_map_or (λ c. eq e c.entry) o false || list_any (cites-at eq e r.cites) (map (λ f. f.placed.place) fs)) (sym h)

  -- each cite of a request stands once in its final order
  abbrev pub IsWhole : Request E P → Arranged (FinalCite L) → Type 0
  IsWhole r f = IsPermutation (range_with_len 0 (length r.cites)) (map (λ c. c.placed.place) f.cites)

  told-request : (r : Request E P) (notes : List CiteNotes) (f : Arranged (FinalCite L)) → length notes ≡ length r.cites → IsWhole r f
      → list_any (eq e) (map (λ i. i.entry) (filter_map (told_at told r notes) f.cites)) ≡ list_any (eq e) (entries_of r.cites)
  told-request r notes f long whole =
      told-any r notes long f.cites ∙ sym (list_any-IsPermutation (cites-at eq e r.cites) (range_with_len 0 (length r.cites)) (map (λ c. c.placed.place) f.cites) whole)
      ∙ any-from eq e r.cites r.cites 0 (λ k. let same : 0 + k ≡ k = omega arith in ap (slice_get r.cites) same)

  pub told-cited : (rs : List (Request E P)) (ns : List (List CiteNotes)) (fs : List (Arranged (FinalCite L))) → map (λ n. length n) ns ≡ map (λ r. length r.cites) rs → AllZip IsWhole rs fs
      → is_in eq e (flat_map (λ r. map (λ i. i.entry) r.items) (told_cites told rs ns fs)) ≡ is_in eq e (cited rs)
  told-cited [] ns [] h w = refl
  told-cited [] ns (f ∷ fs) h w = absurd w
  told-cited (r ∷ rs) ns [] h w = absurd w
  told-cited (r ∷ rs) [] (f ∷ fs) h w = cc
  told-cited (r ∷ rs) (n ∷ ns) (f ∷ fs) h w =
      let first : length n ≡ length r.cites = cc in
      let later : map (λ n. length n) ns ≡ map (λ r. length r.cites) rs = cc in
      list_any-append (eq e) (map (λ i. i.entry) (filter_map (told_at told r n) f.cites)) (flat_map (λ r. map (λ i. i.entry) r.items) (told_cites told rs ns fs))
      ∙ (λ i. told-request r n f first w.0 i || told-cited rs ns fs later w.1 i)
      ∙ sym (list_any-append (eq e) (entries_of r.cites) (cited rs))

-- they cite the entries of the table
pub told-same : {E P L : Type 0} (told : ToldValue) (eq : E → E → Bool) → IsEquivalence eq → (rs : List (Request E P)) (ns : List (List CiteNotes)) (fs : List (Arranged (FinalCite L)))
    → map (λ n. length n) ns ≡ map (λ r. length r.cites) rs → AllZip (λ r f. IsPermutation (range_with_len 0 (length r.cites)) (map (λ c. c.placed.place) f.cites)) rs fs → (e : E)
    → is_in eq e (flat_map (λ r. map (λ i. i.entry) r.items) (told_cites told rs ns fs)) ≡ is_in eq e (table_of eq rs).entries
told-same told eq laws rs ns fs h w e = told-cited told eq e rs ns fs h w ∙ sym (is_in-distinct eq laws e (cited rs))
