-- The cites of a final order are those of their request, each once.
use Rattle.std.proofs.Common.{◌≡◌, ℕ, zero, suc, ◌+◌, ◌<◌, Bool, true, false, Option, Some, None, List, [], ◌∷◌, All, flat_map, length, map, refl, ap, sym, subst, ◌∙◌, arith}
use Rattle.std.specs.Prelude.{filter_map, if◌then◌else◌, nat_eq, option_map, slice_get, unwrap_or, zip}
use Rattle.std.specs.List.{AllZip, cons_option, range_with_len}
use Rattle.std.specs.List.Sorted.{IsPermutation}
use Rattle.std.proofs.Math.ListN.{length-map}
use Rattle.std.proofs.lemmas.List.{get_or-map}
use Rattle.std.proofs.lemmas.List.FromFn.{get_or-range_with_len, length-range_with_len}
use Rattle.std.proofs.lemmas.List.Elements.{All-append, All-cons, All-filter, All-head, All-nil, All-tail}
use Rattle.std.proofs.lemmas.List.Sorted.{All-permutation, IsPermutation-map, IsPermutation-refl, length_permutation}
use Rattle.std.proofs.lemmas.Option.{none-some, same_Some}
use Rattle.std.proofs.lemmas.Slice.Zip.{length-zip}
use Rattle.mentions_arranging.specs.Order.{cites_in_order, final_cites, final_order, grouped_cite, handed_order, is_grouped, with_place}
use Rattle.mentions_arranging.specs.Requests.{Request as Arranged}
use Rattle.mentions_arranging.specs.declared.request.CiteStyle.{CiteStyle}
use Rattle.mentions_arranging.specs.declared.request.FinalCite.{FinalCite}
use Rattle.mentions_arranging.specs.declared.request.RequestedCite.{RequestedCite as PlainCite}
use Rattle.mentions_arranging.proofs.Ordering.{handed-once, places-within}
use Rattle.mentions_blocks.specs.Blocks.{block, block_order, placed_cites}
use Rattle.mentions_blocks.specs.declared.blocks.GroupedCite.{GroupedCite}
use Rattle.mentions_blocks.specs.declared.blocks.PlacedCite.{PlacedCite}
use Rattle.mentions_blocks.proofs.Placing.{places-from}
use Rattle.csl_driver.specs.AnswerLaws.{HasOwnCites, cite_of}
use Rattle.driver_lookup.specs.Properties.{LocatorValue}
use Rattle.mentions_notes.specs.declared.notes.CiteNotes.{CiteNotes}
use Rattle.driver_passes.specs.Request.{RequestedCite, Request, placed_from}
use Rattle.mentions_cited.specs.Handed.{cite_counts}
use Rattle.mentions_cites.specs.Cites.{ToldValue, told_at, told_cite, told_cites, told_request}
use Rattle.mentions_table_laws.proofs.Placing.{ends-there}

-- ---- the final order of a request

abbrev pub place_of : PlacedCite → ℕ
place_of p = p.place

-- its place is that of one of so many cites
abbrev Inside : ℕ → PlacedCite → Type 0
Inside n p = p.place < n

blocks-inside : (cites : List GroupedCite) → All (Inside (length cites)) (block_order cites)
blocks-inside cites = by (range_with_len 0 (length cites))
  where
    once : IsPermutation (range_with_len 0 (length cites)) (map place_of (placed_cites cites))
    once = subst (IsPermutation (range_with_len 0 (length cites))) (sym (places-from cites 0 cites)) (IsPermutation-refl (range_with_len 0 (length cites)))

    by : (ks : List ℕ) → All (Inside (length cites)) (flat_map (block cites) ks)
    by [] = All-nil (Inside (length cites))
    by (k ∷ ks) =
        All-append (Inside (length cites)) (block cites k) (flat_map (block cites) ks)
        (All-filter (λ (c : PlacedCite). nat_eq k c.block) (Inside (length cites)) (placed_cites cites) (places-within (length cites) (placed_cites cites) once)) (by ks)

module _ {L : Type 0} where
  order-inside : (style : CiteStyle) (cites : List (PlainCite L)) → All (Inside (length cites)) (final_order style cites)
  order-inside style cites = by (is_grouped style)
    where
      by : (b : Bool) → All (Inside (length cites)) (if b then block_order (map grouped_cite cites) else handed_order (length cites))
      by true = subst (λ n. All (Inside n) (block_order (map grouped_cite cites))) (length-map cites grouped_cite) (blocks-inside (map grouped_cite cites))
      by false = places-within (length cites) (handed_order (length cites)) (handed-once (length cites) (handed_order (length cites)) refl)

  -- where a cite of the final order was handed in
  abbrev pub handed_at : FinalCite L → ℕ
  handed_at f = f.placed.place

  places-found : (cites : List (PlainCite L)) (order : List PlacedCite) → All (Inside (length cites)) order → map handed_at (cites_in_order cites order) ≡ map place_of order
  places-found cites [] h = refl
  places-found cites (p ∷ order) h = by (slice_get cites p.place) refl (places-found cites order (All-tail (Inside (length cites)) p order h))
    where
      by : (o : Option (PlainCite L)) → slice_get cites p.place ≡ o → map handed_at (cites_in_order cites order) ≡ map place_of order
          → map handed_at (cons_option (option_map (with_place p) o) (cites_in_order cites order)) ≡ p.place ∷ map place_of order
      by None e more =
          let inside : p.place < length cites = All-head (Inside (length cites)) p order h in
          absurd (omega (arith, ends-there cites p.place e, inside))
      by (Some c) e more = ap (λ l. p.place ∷ l) more

  -- the places of the cites in the final order
  pub places-ordered : (style : CiteStyle) (cites : List (PlainCite L)) → map handed_at (final_cites style cites) ≡ map place_of (final_order style cites)
  places-ordered style cites = places-found cites (final_order style cites) (order-inside style cites)

  -- each was handed in among the cites of the request
  pub handed-within : (n : ℕ) (fs : List (FinalCite L)) → IsPermutation (range_with_len 0 n) (map handed_at fs) → All (λ f. handed_at f < n) fs
  handed-within n fs once k d l =
      let below : All (λ i. i < n) (range_with_len 0 n) = λ j e h. let inside : j < n = omega (arith, h, length-range_with_len 0 n) in omega (arith, get_or-range_with_len 0 n j e inside, inside) in
      subst (λ i. i < n) (get_or-map handed_at fs k d (handed_at d) l)
      (All-permutation (λ i. i < n) (range_with_len 0 n) (map handed_at fs) once below k (handed_at d) (subst (λ m. k < m) (sym (length-map fs handed_at)) l))

-- ---- of all requests

pub first-of-both : {A B : Type 0} (xs : List A) (ys : List B) → length ys ≡ length xs → length (zip xs ys) ≡ length xs
first-of-both xs ys h = let both = length-zip xs ys in omega (arith, h, both)

module _ {E P : Type 0} where
  -- each cite of a request stands once in this order of its cites
  abbrev pub IsWhole : Request E P → Arranged (FinalCite (LocatorValue P)) → Type 0
  IsWhole r f = IsPermutation (range_with_len 0 (length r.cites)) (map (λ c. c.placed.place) f.cites)

  abbrev pub AreWhole : List (Request E P) → List (Arranged (FinalCite (LocatorValue P))) → Type 0
  AreWhole = AllZip IsWhole

  -- ---- the cites are those of their request

  -- a cite with this place
  abbrev placed : ℕ → RequestedCite E P → RequestedCite E P
  placed k c = record c { place = k }

  -- the one at a place
  module _ (d : RequestedCite E P) where
    abbrev cite_at : List (RequestedCite E P) → ℕ → RequestedCite E P
    cite_at cites k = unwrap_or (slice_get cites k) d

    each-at : (all xs : List (RequestedCite E P)) (b : ℕ) → ((k : ℕ) → slice_get all (b + k) ≡ slice_get xs k) → map (cite_at all) (range_with_len b (length xs)) ≡ xs
    each-at all [] b h = refl
    each-at all (x ∷ xs) b h =
        let here : b ≡ b + 0 = omega arith in
        let first : cite_at all b ≡ x = ap (cite_at all) here ∙ ap (λ o. unwrap_or o d) (h 0) in
        let next : (k : ℕ) → slice_get all (b + 1 + k) ≡ slice_get xs k = λ k. let at : b + 1 + k ≡ b + suc k = omega arith in ap (slice_get all) at ∙ h (suc k) in
        λ i. first i ∷ each-at all xs (b + 1) next i

    placed-at : (a : ℕ) (cites : List (RequestedCite E P)) (k : ℕ) → slice_get (placed_from a cites) k ≡ option_map (placed (a + k)) (slice_get cites k)
    placed-at a [] k = refl
    placed-at a (c ∷ cs) zero = let same : a ≡ a + 0 = omega arith in ap (λ n. Some (placed n c)) same
    placed-at a (c ∷ cs) (suc k) =
        let same : a + 1 + k ≡ a + suc k = omega arith in
        placed-at (a + 1) cs k ∙ ap (λ n. option_map (placed n) (slice_get cs k)) same

    placed-long : (a : ℕ) (cites : List (RequestedCite E P)) → length (placed_from a cites) ≡ length cites
    placed-long a [] = refl
    placed-long a (c ∷ cs) = ap suc (placed-long (a + 1) cs)

    zipped-first : {B : Type 0} (xs : List (RequestedCite E P)) (ys : List B) (k : ℕ) (p : RequestedCite E P × B) → slice_get (zip xs ys) k ≡ Some p → slice_get xs k ≡ Some p.0
    zipped-first [] ys k p h = absurd (none-some p h)
    zipped-first (x ∷ xs) [] k p h = absurd (none-some p h)
    zipped-first (x ∷ xs) (y ∷ ys) zero p h = ap (λ q. Some q.0) (same_Some (x, y) p h)
    zipped-first (x ∷ xs) (y ∷ ys) (suc k) p h = zipped-first xs ys k p h

    module _ (told : ToldValue) (r : Request E P) (notes : List CiteNotes) (long : length notes ≡ length r.cites) where
      abbrev own_cites : List (RequestedCite E P)
      own_cites = placed_from 0 r.cites

      told-cites : (fs : List (FinalCite (LocatorValue P))) → All (λ f. handed_at f < length r.cites) fs → map cite_of (filter_map (told_at told r notes) fs) ≡ map (cite_at own_cites) (map handed_at fs)
      told-cites [] h = refl
      told-cites (f ∷ fs) h = by (slice_get (zip r.cites notes) f.placed.place) refl (told-cites fs (All-tail (λ f. handed_at f < length r.cites) f fs h))
        where
          by : (o : Option (RequestedCite E P × CiteNotes)) → slice_get (zip r.cites notes) f.placed.place ≡ o → map cite_of (filter_map (told_at told r notes) fs) ≡ map (cite_at own_cites) (map handed_at fs)
              → map cite_of (cons_option (option_map (λ p. told_cite told r.note_number f.cite.entry f.placed.place p.0 p.1) o) (filter_map (told_at told r notes) fs)) ≡ cite_at own_cites f.placed.place ∷ map (cite_at own_cites) (map handed_at fs)
          by None e more =
              absurd (omega (arith, ends-there (zip r.cites notes) f.placed.place e, All-head (λ f. handed_at f < length r.cites) f fs h, first-of-both r.cites notes long))
          by (Some p) e more =
              let zeroed : 0 + f.placed.place ≡ f.placed.place = omega arith in
              let there : cite_at own_cites f.placed.place ≡ placed f.placed.place p.0 =
              ap (λ o. unwrap_or o d) (placed-at 0 r.cites f.placed.place ∙ ap (option_map (placed (0 + f.placed.place))) (zipped-first r.cites notes f.placed.place p e))
              ∙ ap (λ n. placed n p.0) zeroed in
              λ i. sym there i ∷ more i

      told-own : (fs : List (FinalCite (LocatorValue P))) → IsPermutation (range_with_len 0 (length r.cites)) (map handed_at fs) → All (λ f. handed_at f < length r.cites) fs
          → IsPermutation own_cites (map cite_of (filter_map (told_at told r notes) fs))
      told-own fs once within =
          let all : map (cite_at own_cites) (range_with_len 0 (length r.cites)) ≡ own_cites =
          ap (λ n. map (cite_at own_cites) (range_with_len 0 n)) (sym (placed-long 0 r.cites)) ∙ each-at own_cites own_cites 0 (λ k. let same : 0 + k ≡ k = omega arith in ap (slice_get own_cites) same) in
          subst (λ l. IsPermutation l (map cite_of (filter_map (told_at told r notes) fs))) all
          (subst (IsPermutation (map (cite_at own_cites) (range_with_len 0 (length r.cites)))) (sym (told-cites fs within)) (IsPermutation-map (cite_at own_cites) (range_with_len 0 (length r.cites)) (map handed_at fs) once))

  module _ (told : ToldValue) where
    row-own : (r : Request E P) (notes : List CiteNotes) (fs : List (FinalCite (LocatorValue P))) → length notes ≡ length r.cites → IsPermutation (range_with_len 0 (length r.cites)) (map handed_at fs)
        → HasOwnCites (told_request told r notes fs)
    row-own r notes fs long once = by r.cites refl
      where
        none : r.cites ≡ [] → (gs : List (FinalCite (LocatorValue P))) → length gs ≡ 0 → IsPermutation (placed_from 0 r.cites) (map cite_of (filter_map (told_at told r notes) gs))
        none e [] h = subst (λ cs. IsPermutation (placed_from 0 cs) []) (sym e) (IsPermutation-refl [])
        none e (g ∷ gs) h = absurd (omega (arith, h))

        as-many : length fs ≡ length r.cites
        as-many = sym (length-map fs handed_at) ∙ length_permutation (range_with_len 0 (length r.cites)) (map handed_at fs) once ∙ length-range_with_len 0 (length r.cites)

        by : (cs : List (RequestedCite E P)) → r.cites ≡ cs → IsPermutation (placed_from 0 r.cites) (map cite_of (filter_map (told_at told r notes) fs))
        by [] e = none e fs (as-many ∙ ap length e)
        by (c ∷ cs) e = told-own c told r notes long fs once (handed-within (length r.cites) fs once)

    pub rows-own : (rs : List (Request E P)) (ns : List (List CiteNotes)) (fs : List (Arranged (FinalCite (LocatorValue P)))) → map length ns ≡ cite_counts rs → AreWhole rs fs
        → All HasOwnCites (told_cites told rs ns fs)
    rows-own [] ns fs h w = All-nil HasOwnCites
    rows-own (r ∷ rs) [] fs h w = All-nil HasOwnCites
    rows-own (r ∷ rs) (n ∷ ns) [] h w = All-nil HasOwnCites
    rows-own (r ∷ rs) (n ∷ ns) (f ∷ fs) h w =
        let first : length n ≡ length r.cites = cc in
        let later : map length ns ≡ cite_counts rs = cc in
        All-cons HasOwnCites (told_request told r n f.cites) (told_cites told rs ns fs) (row-own r n f.cites first w.0) (rows-own rs ns fs later w.1)
