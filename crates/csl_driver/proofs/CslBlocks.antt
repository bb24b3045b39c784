-- Cites that are brought together stand block by block.
use Rattle.std.proofs.Common.{◌≡◌, ℕ, zero, suc, ◌+◌, ◌<◌, ◌≤◌, Bool, true, false, cond, Option, Some, None, List, [], ◌∷◌, ◌++◌, All, filter, flat_map, length, map, refl, ap, sym, subst, ◌∙◌, arith, append-nil, append_assoc, true≢false}
use Rattle.std.specs.Prelude.{filter_map, if◌then◌else◌, nat_eq, nat_lt, option_map, slice_get, zip}
use Rattle.std.specs.List.{AllZip, cons_option, range_with_len}
use Rattle.std.proofs.Math.ListN.{length-map}
use Rattle.std.proofs.lemmas.Bool.Decides.{nat_tests}
use Rattle.std.proofs.lemmas.List.{map-append}
use Rattle.std.proofs.lemmas.List.Elements.{All-head, All-tail}
use Rattle.mentions_arranging.specs.Order.{alone, final_order, final_request, grouped_cite, handed_order, is_grouped}
use Rattle.mentions_arranging.specs.Requests.{Request as Arranged}
use Rattle.mentions_arranging.specs.declared.request.CiteStyle.{CiteStyle}
use Rattle.mentions_arranging.specs.declared.request.FinalCite.{FinalCite}
use Rattle.mentions_arranging.specs.declared.request.RequestedCite.{RequestedCite as PlainCite}
use Rattle.mentions_arranging.specs.declared.request.Shown.{Shown}
use Rattle.mentions_blocks.specs.Blocks.{block, block_order, placed_cites}
use Rattle.mentions_blocks.specs.declared.blocks.GroupedCite.{GroupedCite}
use Rattle.mentions_blocks.specs.declared.blocks.PlacedCite.{PlacedCite}
use Rattle.mentions_blocks.proofs.Placing.{blocks-within}
use Rattle.csl_driver.specs.AnswerLaws.{places_of}
use Rattle.csl_driver.specs.CslCitations.{StandInBlocks}
use Rattle.csl_driver.proofs.CslOnce.{AreWhole, IsWhole, first-of-both, handed-within, handed_at, place_of, places-ordered}
use Rattle.rounds_grouping.specs.Laws.{StandsTogether}
use Rattle.driver_lookup.specs.Properties.{LocatorValue}
use Rattle.mentions_notes.specs.declared.notes.CiteNotes.{CiteNotes}
use Rattle.driver_passes.specs.Renders.{CiteRender}
use Rattle.driver_passes.specs.Request.{RequestedCite, Request}
use Rattle.mentions_cited.specs.Handed.{cite_counts}
use Rattle.mentions_tables.specs.Steps.{all_changed}
use Rattle.mentions_cites.specs.Cites.{ToldValue, told_at, told_cite, told_cites, told_request}
use Rattle.mentions_cites.specs.Repeats.{cites_with_shown, with_shown}
use Rattle.mentions_table_laws.proofs.Placing.{ends-there}

-- ---- a part of a list of parts

module _ {X : Type 0} (part : ℕ → List X) where
  part-within : (a n k : ℕ) → a ≤ k → k < a + n
      → (before : List X) × (after : List X) × (flat_map part (range_with_len a n) ≡ before ++ (part k ++ after))
  part-within a zero k low high = absurd (omega (arith, low, high))
  part-within a (suc n) k low high = by (nat_eq a k) refl (λ above. part-within (a + 1) n k above (omega (arith, high)))
    where
      by : (b : Bool) → nat_eq a k ≡ b
          → (a + 1 ≤ k → (before : List X) × (after : List X) × (flat_map part (range_with_len (a + 1) n) ≡ before ++ (part k ++ after)))
          → (before : List X) × (after : List X) × (part a ++ flat_map part (range_with_len (a + 1) n) ≡ before ++ (part k ++ after))
      by true e more =
          let same : a ≡ k = grind (arith, nat_tests) in
          ([], flat_map part (range_with_len (a + 1) n), ap (λ j. part j ++ flat_map part (range_with_len (a + 1) n)) same)
      by false e more =
          let above : a + 1 ≤ k = grind (arith, nat_tests) in
          let rest = more above in
          (part a ++ rest.0, rest.1, ap (λ l. part a ++ l) rest.2 ∙ sym (append_assoc (part a) rest.0 (part k ++ rest.1)))

module _ (cites : List GroupedCite) where
  -- no block begins behind all cites
  none-there : (k n : ℕ) (ps : List PlacedCite) → n ≤ k → All (λ (c : PlacedCite). c.block < n) ps → filter (λ (c : PlacedCite). nat_eq k c.block) ps ≡ []
  none-there k n [] low h = refl
  none-there k n (p ∷ ps) low h =
      let here : p.block < n = All-head (λ (c : PlacedCite). c.block < n) p ps h in
      ap (λ b. cond b (p ∷ filter (λ (c : PlacedCite). nat_eq k c.block) ps) (filter (λ (c : PlacedCite). nat_eq k c.block) ps)) (apart k p.block n here low)
      ∙ none-there k n ps low (All-tail (λ (c : PlacedCite). c.block < n) p ps h)
    where
      apart : (k b n : ℕ) → b < n → n ≤ k → nat_eq k b ≡ false
      apart k b n lt le = grind (arith, nat_tests)

  together : (k : ℕ) → StandsTogether (map place_of (block_order cites)) (map place_of (block cites k))
  together k = by (nat_lt k (length cites)) refl
    where
      all : List ℕ
      all = map place_of (block_order cites)

      by : (b : Bool) → nat_lt k (length cites) ≡ b → StandsTogether (map place_of (block_order cites)) (map place_of (block cites k))
      by true e =
          let within : k < length cites = grind (arith, nat_tests) in
          let parts = part-within (block cites) 0 (length cites) k (omega arith) (omega (arith, within)) in (
            map place_of parts.0,
            map place_of parts.1,
            ap (map place_of) parts.2 ∙ map-append place_of parts.0 (block cites k ++ parts.1) ∙ ap (λ l. map place_of parts.0 ++ l) (map-append place_of (block cites k) parts.1),
          )
      by false e =
          let past : length cites ≤ k = grind (arith, nat_tests) in
          (all, [], sym (append-nil all) ∙ ap (λ l. all ++ (map place_of l ++ [])) (sym (none-there k (length cites) (placed_cites cites) past (blocks-within cites))))

as-handed : (a n : ℕ) → map place_of (map alone (range_with_len a n)) ≡ range_with_len a n
as-handed a zero = refl
as-handed a (suc n) = ap (λ l. a ∷ l) (as-handed (a + 1) n)

module _ {L : Type 0} (style : CiteStyle) (cites : List (PlainCite L)) where
  order-in-blocks : StandInBlocks (is_grouped style) (map grouped_cite cites) (map place_of (final_order style cites))
  order-in-blocks = by (is_grouped style)
    where
      by : (b : Bool) → StandInBlocks b (map grouped_cite cites) (map place_of (if b then block_order (map grouped_cite cites) else handed_order (length cites)))
      by true = record { together = λ e k. together (map grouped_cite cites) k; as_handed_in = λ e. absurd (true≢false e) }
      by false = record {
        together = λ e k. absurd (true≢false (sym e));
        as_handed_in = λ e. as-handed 0 (length cites) ∙ ap (range_with_len 0) (sym (length-map cites grouped_cite));
      }

-- ---- of all requests

module _ {L : Type 0} where
  -- cites stand in the final order of a request
  abbrev pub IsPlaced : Arranged (PlainCite L) → Arranged (FinalCite L) → Type 0
  IsPlaced plain f = map handed_at f.cites ≡ map place_of (final_order plain.facts.style plain.cites)

  abbrev pub ArePlaced : List (Arranged (PlainCite L)) → List (Arranged (FinalCite L)) → Type 0
  ArePlaced = AllZip IsPlaced

  pub finals-placed : (plains : List (Arranged (PlainCite L))) → ArePlaced plains (map final_request plains)
  finals-placed [] = tt
  finals-placed (plain ∷ plains) = (places-ordered plain.facts.style plain.cites, finals-placed plains)

  -- whatever they show
  pub places-stay : (shown : List (Option Shown)) (fs : List (FinalCite L)) → map handed_at (all_changed with_shown shown fs) ≡ map handed_at fs
  places-stay [] fs = refl
  places-stay (s ∷ shown) [] = refl
  places-stay (None ∷ shown) (f ∷ fs) = ap (λ l. handed_at f ∷ l) (places-stay shown fs)
  places-stay (Some s ∷ shown) (f ∷ fs) = ap (λ l. handed_at f ∷ l) (places-stay shown fs)

  pub shown-placed : (shown : List (List (Option Shown))) (plains : List (Arranged (PlainCite L))) (fs : List (Arranged (FinalCite L))) → ArePlaced plains fs → ArePlaced plains (all_changed cites_with_shown shown fs)
  shown-placed [] plains fs h = h
  shown-placed (s ∷ shown) plains [] h = h
  shown-placed (s ∷ shown) [] (f ∷ fs) h = absurd h
  shown-placed (s ∷ shown) (plain ∷ plains) (f ∷ fs) h = (places-stay s f.cites ∙ h.0, shown-placed shown plains fs h.1)

module _ {E P : Type 0} (told : ToldValue) where
  places-told : (r : Request E P) (notes : List CiteNotes) → length notes ≡ length r.cites → (fs : List (FinalCite (LocatorValue P))) → All (λ f. handed_at f < length r.cites) fs
      → places_of (filter_map (told_at told r notes) fs) ≡ map handed_at fs
  places-told r notes long [] h = refl
  places-told r notes long (f ∷ fs) h = by (slice_get (zip r.cites notes) f.placed.place) refl (places-told r notes long fs (All-tail (λ f. handed_at f < length r.cites) f fs h))
    where
      by : (o : Option (RequestedCite E P × CiteNotes)) → slice_get (zip r.cites notes) f.placed.place ≡ o → places_of (filter_map (told_at told r notes) fs) ≡ map handed_at fs
          → places_of (cons_option (option_map (λ p. told_cite told r.note_number f.cite.entry f.placed.place p.0 p.1) o) (filter_map (told_at told r notes) fs)) ≡ f.placed.place ∷ map handed_at fs
      by None e more =
          absurd (omega (arith, ends-there (zip r.cites notes) f.placed.place e, All-head (λ f. handed_at f < length r.cites) f fs h, first-of-both r.cites notes long))
      by (Some p) e more = ap (λ l. f.placed.place ∷ l) more

  abbrev InBlocks : Arranged (PlainCite (LocatorValue P)) → CiteRender E P → Type 0
  InBlocks r ordered = StandInBlocks (is_grouped r.facts.style) (map grouped_cite r.cites) (places_of ordered.items)

  row-in-blocks : (r : Request E P) (n : List CiteNotes) (plain : Arranged (PlainCite (LocatorValue P))) (f : Arranged (FinalCite (LocatorValue P))) → length n ≡ length r.cites → IsWhole r f → IsPlaced plain f
      → InBlocks plain (told_request told r n f.cites)
  row-in-blocks r n plain f long whole placed =
      let places : places_of (filter_map (told_at told r n) f.cites) ≡ map place_of (final_order plain.facts.style plain.cites) =
      places-told r n long f.cites (handed-within (length r.cites) f.cites whole) ∙ placed in
      subst (StandInBlocks (is_grouped plain.facts.style) (map grouped_cite plain.cites)) (sym places) (order-in-blocks plain.facts.style plain.cites)

  pub rows-in-blocks : (rs : List (Request E P)) (ns : List (List CiteNotes)) (plains : List (Arranged (PlainCite (LocatorValue P)))) (fs : List (Arranged (FinalCite (LocatorValue P)))) → map length ns ≡ cite_counts rs
      → AreWhole rs fs → ArePlaced plains fs → AllZip InBlocks plains (told_cites told rs ns fs)
  rows-in-blocks [] ns [] fs h w p = tt
  rows-in-blocks [] ns (plain ∷ plains) [] h w p = absurd p
  rows-in-blocks [] ns (plain ∷ plains) (f ∷ fs) h w p = absurd w
  rows-in-blocks (r ∷ rs) ns plains [] h w p = absurd w
  rows-in-blocks (r ∷ rs) ns [] (f ∷ fs) h w p = absurd p
  rows-in-blocks (r ∷ rs) [] (plain ∷ plains) (f ∷ fs) h w p = cc
  rows-in-blocks (r ∷ rs) (n ∷ ns) (plain ∷ plains) (f ∷ fs) h w p =
      let first : length n ≡ length r.cites = cc in
      let later : map length ns ≡ cite_counts rs = cc in
      (row-in-blocks r n plain f first w.0 p.0, rows-in-blocks rs ns plains fs later w.1 p.1)
