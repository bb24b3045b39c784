-- Cites of requests in their final order, one more.
use Rattle.std.proofs.Common.{◌≡◌, ℕ, ◌+◌, ◌<◌, ◌≤◌, min, Option, List, [], ◌∷◌, ◌++◌, length, map, take, get_or, refl, ap, sym, subst, ◌∙◌, arith}
use Rattle.std.specs.Prelude.{filter_map, option_map}
use Rattle.std.specs.List.{cons_option, zip}
use Rattle.std.proofs.lemmas.List.{get_or_default, length-map}
use Rattle.std.proofs.lemmas.List.Elements.{filter_map-append}
use Rattle.std.proofs.lemmas.Option.{slice_get_past, slice_get_read}
use Rattle.std.proofs.lemmas.Slice.Zip.{length-zip}
use Rattle.mentions_notes.specs.declared.notes.CiteNotes.{CiteNotes}
use Rattle.mentions_arranging.specs.Requests.{Request as Arranged}
use Rattle.mentions_arranging.specs.declared.request.FinalCite.{FinalCite}
use Rattle.driver_passes.specs.Renders.{CiteRender, ItemRender}
use Rattle.driver_passes.specs.Request.{RequestedCite, Request}
use Rattle.mentions_tables.proofs.Changing.{take-next, zip-at}
use Rattle.mentions_cites.specs.Cites.{ToldValue, told_at, told_cite, told_request}
use Rattle.mentions_cites.proofs.Triples.{seen-here, seen-there, triple-more}

module _ {E P L : Type 0} (told : ToldValue) (r : Request E P) (notes : List CiteNotes) (f : FinalCite L) where
  -- the cite that it is of a request
  pub told-there : {X : Type 0} (seen : X → RequestedCite E P) (items given : List X) (item : X) (n m : CiteNotes) (number : Option ℕ) (one : ItemRender E P) → map seen given ≡ r.cites → items ≡ given
      → f.placed.place < length items → f.placed.place < length notes → item ≡ get_or items f.placed.place item → n ≡ get_or notes f.placed.place m → number ≡ r.note_number
      → one ≡ told_cite told number f.cite.entry f.placed.place (seen item) n → one ∷ [] ≡ filter_map (told_at told r notes) (f ∷ [])
  told-there seen items given item n m number one are same v w is_item is_note is_number is =
      let place = f.placed.place in
      let all : map seen items ≡ r.cites = ap (map seen) same ∙ are in
      let first : place < length r.cites = subst (λ cs. place < length cs) all (seen-there seen items place v) in
      let here : seen item ≡ get_or r.cites place (seen item) = seen-here seen items place item is_item ∙ ap (λ cs. get_or cs place (seen item)) all in
      let both : place < length (zip r.cites notes) = omega (arith, length-zip r.cites notes) in
      ap (λ i. i ∷ []) (is ∙ ap (λ k. told_cite told k f.cite.entry place (seen item) n) is_number)
      ∙ sym (ap (λ o. cons_option (option_map (λ p. told_cite told r.note_number f.cite.entry place p.0 p.1) o) [])
      (slice_get_read (zip r.cites notes) (length (zip r.cites notes)) place (seen item, n) refl both
      (zip-at place r.cites notes (seen item) n first w here (is_note ∙ get_or_default notes place m n w))))

  -- there is none
  pub told-past : {X : Type 0} (seen : X → RequestedCite E P) (items given : List X) → map seen given ≡ r.cites → items ≡ given → min (length items) (length notes) ≤ f.placed.place
      → filter_map (told_at told r notes) (f ∷ []) ≡ []
  told-past seen items given are same past =
      let place = f.placed.place in
      let all : length r.cites ≡ length items = ap length (sym (ap (map seen) same ∙ are)) ∙ length-map items seen in
      let none : length (zip r.cites notes) ≤ place = omega (arith, all, length-zip r.cites notes) in
      ap (λ o. cons_option (option_map (λ p. told_cite told r.note_number f.cite.entry place p.0 p.1) o) []) (slice_get_past (zip r.cites notes) place none)

-- one more of a request
pub told-next : {E P L : Type 0} (told : ToldValue) (r : Request E P) (notes : List CiteNotes) (cites : List (FinalCite L)) (k : ℕ) (f : FinalCite L) → k < length cites → f ≡ get_or cites k f
    → (found all : List (ItemRender E P)) → found ≡ filter_map (told_at told r notes) (take k cites) → all ≡ found ++ filter_map (told_at told r notes) (f ∷ [])
    → all ≡ filter_map (told_at told r notes) (take (k + 1) cites)
told-next told r notes cites k f within here found all so_far pushed =
    pushed ∙ ap (λ xs. xs ++ filter_map (told_at told r notes) (f ∷ [])) so_far
    ∙ sym (ap (filter_map (told_at told r notes)) (take-next k cites f within here) ∙ filter_map-append (told_at told r notes) (take k cites) (f ∷ []))

-- one more request
pub cites-next : {E P L X N F : Type 0} (told : ToldValue) (seen : X → Request E P) (lists : N → List CiteNotes) (final : F → Arranged (FinalCite L)) (requests : List X) (notes : List N) (finals : List F) (k : ℕ)
    (r : X) (n : N) (f : F) (known : List CiteNotes) (order : List (FinalCite L)) → k < length requests → k < length notes → k < length finals → r ≡ get_or requests k r → n ≡ get_or notes k n → f ≡ get_or finals k f
    → known ≡ lists n → order ≡ (final f).cites → (found all : List (CiteRender E P)) (one : CiteRender E P)
    → found ≡ map (λ p. told_request told p.0.0 p.0.1 p.1.cites) (take k (zip (zip (map seen requests) (map lists notes)) (map final finals)))
    → all ≡ found ++ one ∷ [] → one ≡ told_request told (seen r) known order
    → all ≡ map (λ p. told_request told p.0.0 p.0.1 p.1.cites) (take (k + 1) (zip (zip (map seen requests) (map lists notes)) (map final finals)))
cites-next told seen lists final requests notes finals k r n f known order v w u is_request is_note is_final is_known is_order found all one so_far pushed is =
    triple-more (map seen requests) (map lists notes) (map final finals) k (λ p. told_request told p.0.0 p.0.1 p.1.cites) (seen r) (lists n) (final f)
    (seen-there seen requests k v) (seen-there lists notes k w) (seen-there final finals k u) (seen-here seen requests k r is_request) (seen-here lists notes k n is_note)
    (seen-here final finals k f is_final) found all one so_far pushed (is ∙ (λ i. told_request told (seen r) (is_known i) (is_order i)))
