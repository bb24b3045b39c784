-- The final order of cites, and what is made of them in it, doesn't depend on what their locators are.
use Rattle.std.proofs.Common.{◌≡◌, ℕ, cond, List, [], ◌∷◌, Option, Some, None, map, refl, ap, sym, ◌∙◌}
use Rattle.std.specs.Prelude.{filter_map, option_map, slice_get}
use Rattle.std.specs.List.{cons_option, zip}
use Rattle.std.proofs.lemmas.List.{length-map}
use Rattle.std.proofs.lemmas.Option.{slice_get-map}
use Rattle.std.proofs.lemmas.Simd.{map-map}
use Rattle.mentions_arranging.specs.Order.{cites_in_order, final_order, final_request, grouped_cite, handed_order, is_grouped, with_place}
use Rattle.mentions_arranging.specs.Requests.{Request as Arranged}
use Rattle.mentions_arranging.specs.declared.arranged.ArrangedCite.{ArrangedCite}
use Rattle.mentions_arranging.specs.declared.request.CiteStyle.{CiteStyle}
use Rattle.mentions_arranging.specs.declared.request.FinalCite.{FinalCite}
use Rattle.mentions_arranging.specs.declared.request.RequestedCite.{RequestedCite as PlainCite}
use Rattle.mentions_arranging.specs.declared.request.Shown.{Shown}
use Rattle.mentions_blocks.specs.Blocks.{block_order}
use Rattle.mentions_blocks.specs.declared.blocks.PlacedCite.{PlacedCite}
use Rattle.mentions_notes.specs.declared.notes.CiteNotes.{CiteNotes}
use Rattle.driver_passes.specs.Renders.{CiteRender, ItemRender}
use Rattle.driver_passes.specs.Request.{Request}
use Rattle.value_styles.specs.Style.{CitationValue}
use Rattle.mentions_tables.specs.Steps.{all_changed}
use Rattle.mentions_cites.specs.Arranging.{arranged_by, arranged_finally}
use Rattle.mentions_cites.specs.Cites.{ToldValue, told_at, told_cites}
use Rattle.mentions_cites.specs.Repeats.{cites_with_shown, with_first_key, with_key, with_shown}

module _ {L M : Type 0} (f : L → M) where
  -- a cite with another locator
  abbrev pub seen : PlainCite L → PlainCite M
  seen c = record {
    entry = c.entry;
    is_first = c.is_first;
    locator = option_map f c.locator;
    hidden = c.hidden;
    apart = c.apart;
    key = c.key;
    shown = c.shown;
    suffix = c.suffix;
  }

  abbrev pub seen_finally : FinalCite L → FinalCite M
  seen_finally c = record { placed = c.placed; cite = seen c.cite }

  abbrev pub seen_request : Arranged (PlainCite L) → Arranged (PlainCite M)
  seen_request r = record { facts = r.facts; cites = map seen r.cites }

  abbrev pub seen_in_order : Arranged (FinalCite L) → Arranged (FinalCite M)
  seen_in_order r = record { facts = r.facts; cites = map seen_finally r.cites }

  -- the same order
  in-order : (cites : List (PlainCite L)) (order : List PlacedCite) → map seen_finally (cites_in_order cites order) ≡ cites_in_order (map seen cites) order
  in-order cites [] = refl
  in-order cites (p ∷ order) = by (slice_get cites p.place) (slice_get-map seen cites p.place) (in-order cites order)
    where
      by : (o : Option (PlainCite L)) → slice_get (map seen cites) p.place ≡ option_map seen o → map seen_finally (cites_in_order cites order) ≡ cites_in_order (map seen cites) order
          → map seen_finally (cons_option (option_map (with_place p) o) (cites_in_order cites order)) ≡ cons_option (option_map (with_place p) (slice_get (map seen cites) p.place)) (cites_in_order (map seen cites) order)
      by None e rest = rest ∙ sym (ap (λ o. cons_option (option_map (with_place p) o) (cites_in_order (map seen cites) order)) e)
      by (Some c) e rest = ap (λ cs. with_place p (seen c) ∷ cs) rest ∙ sym (ap (λ o. cons_option (option_map (with_place p) o) (cites_in_order (map seen cites) order)) e)

  same-order : (style : CiteStyle) (cites : List (PlainCite L)) → final_order style (map seen cites) ≡ final_order style cites
  same-order style cites =
      let grouped = ap block_order (map-map grouped_cite seen cites) in
      let handed = ap handed_order (length-map cites seen) in
      λ i. cond (is_grouped style) (grouped i) (handed i)

  pub final-seen : (rs : List (Arranged (PlainCite L))) → map seen_in_order (map final_request rs) ≡ map final_request (map seen_request rs)
  final-seen [] = refl
  final-seen (r ∷ rs) =
      let own = in-order r.cites (final_order r.facts.style r.cites) ∙ sym (ap (cites_in_order (map seen r.cites)) (same-order r.facts.style r.cites)) in
      λ i. record { facts = r.facts; cites = own i } ∷ final-seen rs i

  -- whatever they show, and by whatever first cites are brought together
  key-row : (names : Option ℕ) (cites : List (PlainCite L)) → map seen (with_key names cites) ≡ with_key names (map seen cites)
  key-row names [] = refl
  key-row names (c ∷ cites) = refl

  key-seen : (key : Option Shown) (r : Arranged (PlainCite L)) → seen_request (with_first_key key r) ≡ with_first_key key (seen_request r)
  key-seen None r = refl
  key-seen (Some s) r = ap (λ cs. record { facts = r.facts; cites = cs }) (key-row s.names r.cites)

  pub keyed-seen : (keys : List (Option Shown)) (rs : List (Arranged (PlainCite L))) → map seen_request (all_changed with_first_key keys rs) ≡ all_changed with_first_key keys (map seen_request rs)
  keyed-seen [] rs = refl
  keyed-seen (key ∷ keys) [] = refl
  keyed-seen (key ∷ keys) (r ∷ rs) = λ i. key-seen key r i ∷ keyed-seen keys rs i

  one-shown : (s : Option Shown) (c : FinalCite L) → seen_finally (with_shown s c) ≡ with_shown s (seen_finally c)
  one-shown None c = refl
  one-shown (Some s) c = refl

  row-shown : (shown : List (Option Shown)) (cites : List (FinalCite L)) → map seen_finally (all_changed with_shown shown cites) ≡ all_changed with_shown shown (map seen_finally cites)
  row-shown [] cites = refl
  row-shown (s ∷ shown) [] = refl
  row-shown (s ∷ shown) (c ∷ cites) = λ i. one-shown s c i ∷ row-shown shown cites i

  pub shown-seen : (shown : List (List (Option Shown))) (fs : List (Arranged (FinalCite L)))
      → map seen_in_order (all_changed cites_with_shown shown fs) ≡ all_changed cites_with_shown shown (map seen_in_order fs)
  shown-seen [] fs = refl
  shown-seen (s ∷ shown) [] = refl
  shown-seen (s ∷ shown) (f ∷ fs) = λ i. record { facts = f.facts; cites = row-shown s f.cites i } ∷ shown-seen shown fs i

  -- the same cites, before they are arranged and then
  module _ {E P : Type 0} (told : ToldValue) where
    told-row : (r : Request E P) (notes : List CiteNotes) (cites : List (FinalCite L)) → filter_map (told_at told r notes) (map seen_finally cites) ≡ filter_map (told_at told r notes) cites
    told-row r notes [] = refl
    told-row r notes (c ∷ cites) = ap (cons_option (told_at told r notes c)) (told-row r notes cites)

    pub told-seen : (rs : List (Request E P)) (ns : List (List CiteNotes)) (fs : List (Arranged (FinalCite L))) → told_cites told rs ns (map seen_in_order fs) ≡ told_cites told rs ns fs
    told-seen [] ns fs = refl
    told-seen (r ∷ rs) [] fs = refl
    told-seen (r ∷ rs) (n ∷ ns) [] = refl
    told-seen (r ∷ rs) (n ∷ ns) (c ∷ fs) = λ i. record { items = told-row r n c.cites i; request = r } ∷ told-seen rs ns fs i

  module _ {E P : Type 0} (numbers : List ℕ) where
    arranged-row : (citation : CitationValue) (cs : List (FinalCite L)) (xs : List ArrangedCite) (items : List (ItemRender E P))
        → all_changed (arranged_by numbers citation) (zip (map seen_finally cs) xs) items ≡ all_changed (arranged_by numbers citation) (zip cs xs) items
    arranged-row citation [] xs items = refl
    arranged-row citation (c ∷ cs) [] items = refl
    arranged-row citation (c ∷ cs) (x ∷ xs) [] = refl
    arranged-row citation (c ∷ cs) (x ∷ xs) (item ∷ items) = ap (λ is. arranged_by numbers citation (c, x) item ∷ is) (arranged-row citation cs xs items)

    pub arranged-seen : (fs : List (Arranged (FinalCite L))) (xs : List (List ArrangedCite)) (cites : List (CiteRender E P))
        → arranged_finally numbers (map seen_in_order fs) xs cites ≡ arranged_finally numbers fs xs cites
    arranged-seen [] xs cites = refl
    arranged-seen (r ∷ fs) [] cites = refl
    arranged-seen (r ∷ fs) (x ∷ xs) [] = refl
    arranged-seen (r ∷ fs) (x ∷ xs) (c ∷ cites) =
        λ i. record c { items = arranged-row c.request.style.citation r.cites x c.items i } ∷ arranged-seen fs xs cites i
