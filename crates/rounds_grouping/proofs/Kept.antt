-- What grouping keeps: the entries that are cited, and what each cite knows of its place.
use Rattle.std.proofs.Common.{◌≡◌, ℕ, zero, suc, ◌+◌, ◌<◌, Bool, true, false, ◌||◌, Some, None, List, [], ◌∷◌, All, length, map, get_or, slice_get, refl, ap, sym, subst, ◌∙◌, arith}
use Rattle.std.specs.Prelude.{Option, flat_map, if◌then◌else◌}
use Rattle.std.specs.Cmp.{IsEquivalence}
use Rattle.std.specs.List.{AllZip, list_any, range_with_len}
use Rattle.std.specs.List.Sorted.{IsPermutation}
use Rattle.std.specs.Option.{option_map_or}
use Rattle.std.proofs.lemmas.List.Sorted.{All-permutation, IsPermutation-map, list_any-IsPermutation}
use Rattle.driver_entries.specs.Entries.{is_in}
use Rattle.driver_entries.specs.PlacedItems.{ArePlaced, IsPlaced}
use Rattle.driver_entries.specs.Table.{Table}
use Rattle.driver_entries.proofs.Distinct.{is_in-append}
use Rattle.driver_passes.specs.Renders.{CiteRender, ItemRender}
use Rattle.rounds_grouping.specs.Blocks.{final_order, group_delimiter, grouped, grouped_cites, is_grouped}
use Rattle.rounds_grouping.specs.Laws.{bare}
use Rattle.rounds_grouping.proofs.OrderLaws.{ordered}
use Rattle.rounds_grouping.proofs.Whole.{final-permuted}

all-mapped : {X Y : Type 0} (P : Y → Type 0) (f : X → Y) (xs : List X) → All (λ x. P (f x)) xs → (k : ℕ) (d : Y) → k < length (map f xs) → P (get_or (map f xs) k d)
all-mapped P f [] all k d w = absurd (omega (arith, w))
all-mapped P f (x ∷ xs) all zero d w = all 0 x (omega arith)
all-mapped P f (x ∷ xs) all (suc k) d w = all-mapped P f xs (λ j e u. all (suc j) e (omega (arith, u))) k d (omega (arith, w))

all-unmapped : {X Y : Type 0} (P : Y → Type 0) (f : X → Y) (xs : List X) → All P (map f xs) → (k : ℕ) (d : X) → k < length xs → P (f (get_or xs k d))
all-unmapped P f [] all k d w = absurd (omega (arith, w))
all-unmapped P f (x ∷ xs) all zero d w = all 0 (f x) (omega arith)
all-unmapped P f (x ∷ xs) all (suc k) d w = all-unmapped P f xs (λ j e u. all (suc j) e (omega (arith, u))) k d (omega (arith, w))

module _ {E P : Type 0} where
  abbrev seen : List (ItemRender E P) → List (Option (ItemRender E P))
  seen = map (λ c. Some (bare c))

  pub places-seen : (b : ℕ) (front xs : List (ItemRender E P)) → ((k : ℕ) → slice_get (map bare front) (b + k) ≡ slice_get (map bare xs) k)
      → map (λ k. slice_get (map bare front) k) (range_with_len b (length xs)) ≡ seen xs
  places-seen b front [] h = refl
  places-seen b front (x ∷ xs) h =
      let n : b ≡ b + 0 = omega arith in
      let first : slice_get (map bare front) b ≡ Some (bare x) = ap (slice_get (map bare front)) n ∙ h 0 in
      λ i. first i ∷ places-seen (b + 1) front xs (λ k. let m : b + 1 + k ≡ b + suc k = omega arith in ap (slice_get (map bare front)) m ∙ h (suc k)) i

  -- but for overrides and indexes, the grouped cites are the same in another order
  seen-permuted : (delimiter : Option (List ℕ)) (cites : List (ItemRender E P)) → IsPermutation (seen cites) (seen (grouped_cites delimiter cites))
  seen-permuted delimiter cites =
      subst (λ xs. IsPermutation xs (seen (grouped_cites delimiter cites))) (places-seen 0 cites cites (λ k. let m : 0 + k ≡ k = omega arith in ap (slice_get (map bare cites)) m))
      (subst (IsPermutation (map (λ k. slice_get (map bare cites) k) (range_with_len 0 (length cites)))) (sym (ordered cites delimiter))
      (IsPermutation-map (λ k. slice_get (map bare cites) k) (range_with_len 0 (length cites)) (final_order cites) (final-permuted cites)))

  module _ (eq : E → E → Bool) where
    any-seen : (e : E) (cites : List (ItemRender E P)) → list_any (λ o. option_map_or (λ c. eq e c.entry) o false) (seen cites) ≡ is_in eq e (map (λ c. c.entry) cites)
    any-seen e [] = refl
    any-seen e (c ∷ cites) = ap (λ b. eq e c.entry || b) (any-seen e cites)

    cites-same : (e : E) (delimiter : Option (List ℕ)) (cites : List (ItemRender E P))
        → is_in eq e (map (λ c. c.entry) (grouped_cites delimiter cites)) ≡ is_in eq e (map (λ c. c.entry) cites)
    cites-same e delimiter cites =
        sym (any-seen e (grouped_cites delimiter cites))
        ∙ sym (list_any-IsPermutation (λ o. option_map_or (λ c. eq e c.entry) o false) (seen cites) (seen (grouped_cites delimiter cites)) (seen-permuted delimiter cites))
        ∙ any-seen e cites

    pub request-same : (e : E) (r : CiteRender E P) → is_in eq e (map (λ c. c.entry) (grouped r).items) ≡ is_in eq e (map (λ c. c.entry) r.items)
    request-same e r = by (is_grouped r.request.style.citation)
      where
        by : (b : Bool) → is_in eq e (map (λ c. c.entry) (if b then record r { items = grouped_cites (group_delimiter r.request.style.citation) r.items } else r).items) ≡ is_in eq e (map (λ c. c.entry) r.items)
        by true = cites-same e (group_delimiter r.request.style.citation) r.items
        by false = refl

    -- grouping keeps which entries are cited
    pub cited-same : IsEquivalence eq → (e : E) (renders : List (CiteRender E P))
        → is_in eq e (flat_map (λ r. map (λ c. c.entry) r.items) (map grouped renders)) ≡ is_in eq e (flat_map (λ r. map (λ c. c.entry) r.items) renders)
    cited-same laws e [] = refl
    cited-same laws e (r ∷ renders) =
        is_in-append eq laws e (map (λ c. c.entry) (grouped r).items) (flat_map (λ r. map (λ c. c.entry) r.items) (map grouped renders))
        ∙ (λ i. request-same e r i || cited-same laws e renders i)
        ∙ sym (is_in-append eq laws e (map (λ c. c.entry) r.items) (flat_map (λ r. map (λ c. c.entry) r.items) renders))

    abbrev SeenPlaced : List E → List ℕ → Option (ItemRender E P) → Type 0
    SeenPlaced entries places None = Unit {0}
    SeenPlaced entries places (Some c) = IsPlaced eq entries places c

    cites-placed : (entries : List E) (places : List ℕ) (delimiter : Option (List ℕ)) (cites : List (ItemRender E P)) → All (IsPlaced eq entries places) cites
        → All (IsPlaced eq entries places) (grouped_cites delimiter cites)
    cites-placed entries places delimiter cites all =
        all-unmapped (SeenPlaced entries places) (λ c. Some (bare c)) (grouped_cites delimiter cites)
        (All-permutation (SeenPlaced entries places) (seen cites) (seen (grouped_cites delimiter cites)) (seen-permuted delimiter cites)
        (all-mapped (SeenPlaced entries places) (λ c. Some (bare c)) cites all))

    pub request-placed : (entries : List E) (places : List ℕ) (r : CiteRender E P) → All (IsPlaced eq entries places) r.items → All (IsPlaced eq entries places) (grouped r).items
    request-placed entries places r all = by (is_grouped r.request.style.citation)
      where
        by : (b : Bool) → All (IsPlaced eq entries places) (if b then record r { items = grouped_cites (group_delimiter r.request.style.citation) r.items } else r).items
        by true = cites-placed entries places (group_delimiter r.request.style.citation) r.items all
        by false = all

    rows-placed : (entries : List E) (rows : List (List ℕ)) (renders : List (CiteRender E P)) → AllZip (λ places r. All (IsPlaced eq entries places) r.items) rows renders
        → AllZip (λ places r. All (IsPlaced eq entries places) r.items) rows (map grouped renders)
    rows-placed entries [] [] h = h
    rows-placed entries [] (r ∷ renders) h = absurd h
    rows-placed entries (places ∷ rows) [] h = absurd h
    rows-placed entries (places ∷ rows) (r ∷ renders) h = (request-placed entries places r h.0, rows-placed entries rows renders h.1)

    -- grouped cites know their places
    pub grouped-placed : (table : Table E) (renders : List (CiteRender E P)) → ArePlaced eq table renders → ArePlaced eq table (map grouped renders)
    grouped-placed table renders h = rows-placed table.entries table.places renders h
