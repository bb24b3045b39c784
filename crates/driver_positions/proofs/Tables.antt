-- The table of requests, at one of them.
use mathlib.Core.Bool.{or-true}
use Rattle.std.proofs.Common.{◌≡◌, ℕ, zero, suc, ◌+◌, ◌<◌, Bool, true, ◌||◌, List, [], ◌∷◌, ◌++◌, length, map, take, drop, get_or, Vec, Global, refl, ap, sym, subst, ◌∙◌, append-nil}
use Rattle.std.specs.Cmp.{IsEquivalence}
use Rattle.std.proofs.lemmas.Grind.{flat_map-append}
use Rattle.std.proofs.lemmas.List.{drop_more, get_or_at, length-map, map-append, take-append-drop, take_more}
use Rattle.driver_entries.specs.Entries.{distinct, is_in}
use Rattle.driver_entries.specs.Laws.{NoTwoEqual}
use Rattle.driver_entries.specs.Table.{Table, places_in}
use Rattle.driver_entries.proofs.Distinct.{is_in-append, is_in-distinct}
use Rattle.driver_entries.proofs.Once.{NoTwoEqual-distinct}
use Rattle.driver_passes.specs.Request.{Request, cited, cites_of, entries_of}
use Rattle.driver_positions.specs.Seen.{IsTableOf}

pub cited-push : {E P : Type 0} (rs : List (Request E P)) (r : Request E P) → cited (rs ++ r ∷ []) ≡ cited rs ++ entries_of r.cites
cited-push rs r = flat_map-append (λ q. entries_of q.cites) rs (r ∷ []) ∙ ap (λ l. cited rs ++ l) (append-nil (entries_of r.cites))

pub cites-push : {E P : Type 0} (rs : List (Request E P)) (r : Request E P) → cites_of (rs ++ r ∷ []) ≡ cites_of rs ++ r.cites
cites-push rs r = flat_map-append (λ q. q.cites) rs (r ∷ []) ∙ ap (λ l. cites_of rs ++ l) (append-nil r.cites)

module _ {X : Type 0} (xs : List X) (k : ℕ) (x : X) (within : k < length xs) (here : x ≡ get_or xs k x) where
  pub parted : {V : Type 0} (view : X → V) → map view xs ≡ map view (take k xs) ++ view x ∷ map view (drop (k + 1) xs)
  parted view =
      let rest : drop k xs ≡ x ∷ drop (k + 1) xs = drop_more xs k x within ∙ ap (λ y. y ∷ drop (k + 1) xs) (sym here) in
      ap (λ l. map view l) (sym (take-append-drop k xs) ∙ ap (λ l. take k xs ++ l) rest) ∙ map-append view (take k xs) (x ∷ drop (k + 1) xs)

module _ {E P : Type 0} (eq : E → E → Bool) (laws : IsEquivalence eq) (before : List (Request E P)) (r : Request E P) (table : Table E) (of : IsTableOf eq before r table) where
  entries-are : table.entries ≡ distinct eq (cited (before ++ r ∷ of.0))
  entries-are = ap (λ t. t.entries) of.1

  pub table-once : NoTwoEqual eq table.entries
  table-once = subst (NoTwoEqual eq) (sym entries-are) (NoTwoEqual-distinct eq laws (cited (before ++ r ∷ of.0)))

  -- what r cites is there
  pub table-lists : (e : E) → is_in eq e (entries_of r.cites) ≡ true → is_in eq e table.entries ≡ true
  table-lists e there =
      let all : cited (before ++ r ∷ of.0) ≡ cited before ++ (entries_of r.cites ++ cited of.0) = flat_map-append (λ q. entries_of q.cites) before (r ∷ of.0) in
      ap (λ l. is_in eq e l) entries-are ∙ is_in-distinct eq laws e (cited (before ++ r ∷ of.0)) ∙ ap (λ l. is_in eq e l) all
      ∙ is_in-append eq laws e (cited before) (entries_of r.cites ++ cited of.0)
      ∙ ap (λ b. is_in eq e (cited before) || b) (is_in-append eq laws e (entries_of r.cites) (cited of.0) ∙ ap (λ b. b || is_in eq e (cited of.0)) there)
      ∙ or-true (is_in eq e (cited before))

  module _ (rows : List (Vec ℕ Global)) (are : map (λ ps. ps.items) rows ≡ table.places) where
    rows-are : map (λ ps. ps.items) rows ≡ map (λ q. places_in eq table.entries q.cites) before ++ places_in eq table.entries r.cites ∷ map (λ q. places_in eq table.entries q.cites) of.0
    rows-are =
        are ∙ ap (λ t. t.places) of.1 ∙ ap (λ es. map (λ q. places_in eq es q.cites) (before ++ r ∷ of.0)) (sym entries-are)
        ∙ map-append (λ q. places_in eq table.entries q.cites) before (r ∷ of.0)

    -- the row of r
    pub row-is : (k : ℕ) → length before ≡ k → (row : Vec ℕ Global) → row ≡ get_or rows k row → row.items ≡ places_in eq table.entries r.cites
    row-is k count row here =
        ap (λ ps. ps.items) (here ∙ ap (λ j. get_or rows j row) (sym count)) ∙ sym (get_or-map-same rows (length before) row)
        ∙ ap (λ l. get_or l (length before) row.items) rows-are
        ∙ get_or_at (map (λ q. places_in eq table.entries q.cites) before) (places_in eq table.entries r.cites) (map (λ q. places_in eq table.entries q.cites) of.0) row.items (length before) (length-map before (λ q. places_in eq table.entries q.cites))
      where
        get_or-map-same : (vs : List (Vec ℕ Global)) (k : ℕ) (d : Vec ℕ Global) → get_or (map (λ ps. ps.items) vs) k d.items ≡ (get_or vs k d).items
        get_or-map-same [] k d = refl
        get_or-map-same (v ∷ vs) zero d = refl
        get_or-map-same (v ∷ vs) (suc k) d = get_or-map-same vs k d
