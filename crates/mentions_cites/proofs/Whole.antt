-- In its final order each cite of a request stands once, so that there are as many as in the request.
use Rattle.std.proofs.Common.{◌≡◌, ℕ, zero, suc, ◌+◌, ◌<◌, ◌≤◌, min, Bool, true, false, cond, not, Option, Some, List, [], ◌∷◌, ◌++◌, All, filter, flat_map, length, map, refl, ap, sym, subst, ◌∙◌, arith, zero-le}
use Rattle.std.specs.Prelude.{filter_map, nat_eq, option_map, slice_get}
use Rattle.std.specs.List.{AllZip, cons_option, range_with_len, zip}
use Rattle.std.specs.List.Sorted.{IsPermutation}
use Rattle.std.proofs.lemmas.Bool.{eqb-true}
use Rattle.std.proofs.lemmas.Bool.Decides.{nat_tests}
use Rattle.std.proofs.lemmas.List.{length-map}
use Rattle.std.proofs.lemmas.List.Elements.{All-cons, All-nil, All-tail}
use Rattle.std.proofs.lemmas.List.FromFn.{length-range_with_len}
use Rattle.std.proofs.lemmas.List.Sorted.{IsPermutation-append_right, IsPermutation-filter_both, IsPermutation-map, IsPermutation-refl, IsPermutation-trans, length_permutation}
use Rattle.std.proofs.lemmas.Simd.{map-map}
use Rattle.std.proofs.lemmas.Slice.Zip.{length-zip}
use Rattle.mentions_blocks.specs.Blocks.{block_order, placed_cites}
use Rattle.mentions_blocks.specs.declared.blocks.GroupedCite.{GroupedCite}
use Rattle.mentions_blocks.specs.declared.blocks.PlacedCite.{PlacedCite}
use Rattle.mentions_blocks.proofs.Placing.{blocks-within, places-from}
use Rattle.mentions_blocks.proofs.Sorting.{class}
use Rattle.mentions_arranging.specs.Order.{cites_in_order, final_cites, final_order, final_request, grouped_cite, handed_order, is_grouped, with_place}
use Rattle.mentions_arranging.specs.Requests.{Request as Arranged}
use Rattle.mentions_arranging.specs.declared.request.CiteStyle.{CiteStyle}
use Rattle.mentions_arranging.specs.declared.request.FinalCite.{FinalCite}
use Rattle.mentions_arranging.specs.declared.request.RequestedCite.{RequestedCite as PlainCite}
use Rattle.mentions_arranging.proofs.Ordering.{handed-once, places-within}
use Rattle.driver_entries.specs.Entries.{place}
use Rattle.driver_lookup.specs.Properties.{LocatorValue}
use Rattle.mentions_notes.specs.declared.notes.CiteNotes.{CiteNotes}
use Rattle.driver_passes.specs.Renders.{CiteRender}
use Rattle.driver_passes.specs.Request.{Request, RequestedCite}
use Rattle.mentions_cites.specs.Cites.{ToldValue, told_at, told_cite, told_cites}
use Rattle.mentions_cites.specs.Requests.{plain_cite, plain_request, plain_requests}
use Rattle.mentions_cites.specs.declared.mentions.ToldMention.{ToldMention}

other : (a b : ℕ) → a < b → nat_eq b a ≡ false
other a b h = grind (arith, nat_tests)

more : (a b : ℕ) → a ≤ b → nat_eq a b ≡ false → a + 1 ≤ b
more a b h e = grind (arith, nat_tests)

-- members class by class, where each is of one of the classes
module _ {X : Type 0} (key : X → ℕ) where
  abbrev rest : ℕ → List X → List X
  rest a xs = filter (λ (x : X). not (nat_eq a (key x))) xs

  class-of-rest : (a b : ℕ) → a < b → (xs : List X) → class key (rest a xs) b ≡ class key xs b
  class-of-rest a b lt [] = refl
  class-of-rest a b lt (x ∷ xs) = by (nat_eq a (key x)) refl (class-of-rest a b lt xs)
    where
      by : (t : Bool) → nat_eq a (key x) ≡ t → class key (rest a xs) b ≡ class key xs b
          → class key (cond (not t) (x ∷ rest a xs) (rest a xs)) b ≡ cond (nat_eq b (key x)) (x ∷ class key xs b) (class key xs b)
      by false e same = ap (λ (ys : List X). cond (nat_eq b (key x)) (x ∷ ys) ys) same
      by true e same =
          let own : a ≡ key x = eqb-true a (key x) e in
          let apart : nat_eq b (key x) ≡ false = ap (nat_eq b) (sym own) ∙ other a b lt in
          same ∙ sym (ap (λ (t : Bool). cond t (x ∷ class key xs b) (class key xs b)) apart)

  classes-of-rest : (a n c : ℕ) → a < c → (xs : List X) → flat_map (class key (rest a xs)) (range_with_len c n) ≡ flat_map (class key xs) (range_with_len c n)
  classes-of-rest a zero c lt xs = refl
  classes-of-rest a (suc n) c lt xs = λ i. class-of-rest a c lt xs i ++ classes-of-rest a n (c + 1) (omega arith) xs i

  abbrev IsWithin : ℕ → ℕ → X → Type 0
  IsWithin a n x = (a ≤ key x) × (key x < a + n)

  rest-within : (a n : ℕ) (xs : List X) → All (IsWithin a (suc n)) xs → All (IsWithin (a + 1) n) (rest a xs)
  rest-within a n [] all = All-nil (IsWithin (a + 1) n)
  rest-within a n (x ∷ xs) all = by (nat_eq a (key x)) refl (all 0 x (omega arith)) (rest-within a n xs (All-tail (IsWithin a (suc n)) x xs all))
    where
      by : (t : Bool) → nat_eq a (key x) ≡ t → IsWithin a (suc n) x → All (IsWithin (a + 1) n) (rest a xs) → All (IsWithin (a + 1) n) (cond (not t) (x ∷ rest a xs) (rest a xs))
      by true e h later = later
      by false e h later =
          let low : a ≤ key x = h.0 in
          let high : key x < a + suc n = h.1 in
          let next : a + 1 ≤ key x = more a (key x) low e in
          All-cons (IsWithin (a + 1) n) x (rest a xs) (next, omega arith) later

  pub class-by-class : (n a : ℕ) (xs : List X) → All (IsWithin a n) xs → IsPermutation xs (flat_map (class key xs) (range_with_len a n))
  class-by-class zero a [] all = IsPermutation-refl []
  class-by-class zero a (x ∷ xs) all =
      let h = all 0 x (omega arith) in
      let low : a ≤ key x = h.0 in
      let high : key x < a + 0 = h.1 in
      absurd (omega arith)
  class-by-class (suc n) a xs all =
      let own = class key xs a in
      let others = rest a xs in
      let lt : a < a + 1 = omega arith in
      let later = class-by-class n (a + 1) others (rest-within a n xs all) in
      IsPermutation-trans xs (own ++ others) (own ++ flat_map (class key xs) (range_with_len (a + 1) n))
      (IsPermutation-filter_both (λ (x : X). nat_eq a (key x)) (λ (x : X). not (nat_eq a (key x))) (λ x. refl) xs)
      (subst (λ (ys : List X). IsPermutation (own ++ others) (own ++ ys)) (classes-of-rest a n (a + 1) lt xs)
      (IsPermutation-append_right own others (flat_map (class key others) (range_with_len (a + 1) n)) later))

blocks-once : (cites : List GroupedCite) → IsPermutation (range_with_len 0 (length cites)) (map (λ (p : PlacedCite). p.place) (block_order cites))
blocks-once cites =
    let place = λ (p : PlacedCite). p.place in
    let block = λ (p : PlacedCite). p.block in
    let within : All (IsWithin block 0 (length cites)) (placed_cites cites) = λ k d h. let high = blocks-within cites k d h in (zero-le, omega arith) in
    subst (λ (ps : List ℕ). IsPermutation ps (map place (block_order cites))) (places-from cites 0 cites)
    (IsPermutation-map place (placed_cites cites) (block_order cites) (class-by-class block (length cites) 0 (placed_cites cites) within))

there : {X : Type 0} (xs : List X) (k : ℕ) → k < length xs → (x : X) × (slice_get xs k ≡ Some x)
there [] k h = absurd (omega arith)
there (x ∷ xs) zero h = (x, refl)
there (x ∷ xs) (suc k) h = there xs k (omega arith)

module _ {L : Type 0} where
  order-once : (style : CiteStyle) (cites : List (PlainCite L)) → IsPermutation (range_with_len 0 (length cites)) (map (λ (p : PlacedCite). p.place) (final_order style cites))
  order-once style cites = by (is_grouped style)
    where
      by : (b : Bool) → IsPermutation (range_with_len 0 (length cites)) (map (λ (p : PlacedCite). p.place) (cond b (block_order (map grouped_cite cites)) (handed_order (length cites))))
      by true =
          subst (λ (n : ℕ). IsPermutation (range_with_len 0 n) (map (λ (p : PlacedCite). p.place) (block_order (map grouped_cite cites)))) (length-map cites grouped_cite)
          (blocks-once (map grouped_cite cites))
      by false = handed-once (length cites) (handed_order (length cites)) refl

  in-order : (cites : List (PlainCite L)) (order : List PlacedCite) → All (λ (p : PlacedCite). p.place < length cites) order
      → map (λ (f : FinalCite L). f.placed.place) (cites_in_order cites order) ≡ map (λ (p : PlacedCite). p.place) order
  in-order cites [] all = refl
  in-order cites (p ∷ order) all =
      let within : p.place < length cites = all 0 p (omega arith) in
      let found = there cites p.place within in
      ap (λ (o : Option (PlainCite L)). map (λ (f : FinalCite L). f.placed.place) (cons_option (option_map (with_place p) o) (cites_in_order cites order))) found.1
      ∙ ap (λ (ps : List ℕ). p.place ∷ ps) (in-order cites order (All-tail (λ (p : PlacedCite). p.place < length cites) p order all))

  pub final-once : (style : CiteStyle) (cites : List (PlainCite L)) → IsPermutation (range_with_len 0 (length cites)) (map (λ (f : FinalCite L). f.placed.place) (final_cites style cites))
  final-once style cites =
      let once = order-once style cites in
      let within = places-within (length cites) (final_order style cites) once in
      subst (λ (ps : List ℕ). IsPermutation (range_with_len 0 (length cites)) ps) (sym (in-order cites (final_order style cites) within)) once

-- so it is with those of all requests
module _ {E P L : Type 0} where
  pub finals-once : (rs : List (Request E P)) (plains : List (Arranged (PlainCite L))) → map (λ (p : Arranged (PlainCite L)). length p.cites) plains ≡ map (λ (r : Request E P). length r.cites) rs
      → AllZip (λ (r : Request E P) (f : Arranged (FinalCite L)). IsPermutation (range_with_len 0 (length r.cites)) (map (λ (c : FinalCite L). c.placed.place) f.cites)) rs (map final_request plains)
  finals-once [] [] h = tt
  finals-once [] (p ∷ plains) h = cc
  finals-once (r ∷ rs) [] h = cc
  finals-once (r ∷ rs) (p ∷ plains) h =
      let long : length p.cites ≡ length r.cites = cc in
      let later : map (λ (p : Arranged (PlainCite L)). length p.cites) plains ≡ map (λ (r : Request E P). length r.cites) rs = cc in (
        subst (λ (n : ℕ). IsPermutation (range_with_len 0 n) (map (λ (c : FinalCite L). c.placed.place) (final_cites p.facts.style p.cites))) long (final-once p.facts.style p.cites),
        finals-once rs plains later,
      )

-- requests as they are arranged have as many cites as were handed in
module _ {E P : Type 0} (mentions : List ToldMention) (suffixes : List (Option ℕ)) (eq : E → E → Bool) (listed : List E) where
  pub plain-lengths : (rs : List (Request E P)) (ns : List (List CiteNotes)) → map (λ (n : List CiteNotes). length n) ns ≡ map (λ (r : Request E P). length r.cites) rs
      → map (λ (p : Arranged (PlainCite (LocatorValue P))). length p.cites) (plain_requests mentions suffixes eq listed rs ns) ≡ map (λ (r : Request E P). length r.cites) rs
  plain-lengths [] ns h = refl
  plain-lengths (r ∷ rs) [] h = cc
  plain-lengths (r ∷ rs) (n ∷ ns) h =
      let long : length n ≡ length r.cites = cc in
      let later : map (λ (n : List CiteNotes). length n) ns ≡ map (λ (r : Request E P). length r.cites) rs = cc in
      let pairs = zip r.cites n in
      let made : length (plain_request mentions suffixes eq listed r n).cites ≡ length pairs = length-map pairs (λ p. plain_cite mentions suffixes (place eq p.0.entry listed) p.0 p.1) in
      let paired : length pairs ≡ min (length r.cites) (length n) = length-zip r.cites n in
      let one : length (plain_request mentions suffixes eq listed r n).cites ≡ length r.cites = omega (arith, made, paired, long) in
      λ i. one i ∷ plain-lengths rs ns later i

-- and so they have in their final order
module _ {E P L : Type 0} (told : ToldValue) where
  told-length : (r : Request E P) (notes : List CiteNotes) → length notes ≡ length r.cites → (fs : List (FinalCite L))
      → All (λ (p : PlacedCite). p.place < length r.cites) (map (λ (f : FinalCite L). f.placed) fs) → length (filter_map (told_at told r notes) fs) ≡ length fs
  told-length r notes long [] all = refl
  told-length r notes long (f ∷ fs) all =
      let place = f.placed.place in
      let within : place < length r.cites = all 0 f.placed (omega arith) in
      let paired : length (zip r.cites notes) ≡ min (length r.cites) (length notes) = length-zip r.cites notes in
      let both : place < length (zip r.cites notes) = omega (arith, within, paired, long) in
      let found = there (zip r.cites notes) place both in
      ap (λ (o : Option (RequestedCite E P × CiteNotes)). length (cons_option (option_map (λ p. told_cite told r.note_number f.cite.entry place p.0 p.1) o) (filter_map (told_at told r notes) fs))) found.1
      ∙ ap suc (told-length r notes long fs (All-tail (λ (p : PlacedCite). p.place < length r.cites) f.placed (map (λ (f : FinalCite L). f.placed) fs) all))

  request-length : (r : Request E P) (notes : List CiteNotes) → length notes ≡ length r.cites → (fs : List (FinalCite L))
      → IsPermutation (range_with_len 0 (length r.cites)) (map (λ (f : FinalCite L). f.placed.place) fs) → length (filter_map (told_at told r notes) fs) ≡ length r.cites
  request-length r notes long fs whole =
      let order = map (λ (f : FinalCite L). f.placed) fs in
      let once : IsPermutation (range_with_len 0 (length r.cites)) (map (λ (p : PlacedCite). p.place) order) =
      subst (λ (ps : List ℕ). IsPermutation (range_with_len 0 (length r.cites)) ps) (sym (map-map (λ (p : PlacedCite). p.place) (λ (f : FinalCite L). f.placed) fs)) whole in
      told-length r notes long fs (places-within (length r.cites) order once)
      ∙ sym (length-map fs (λ (f : FinalCite L). f.placed.place)) ∙ length_permutation (range_with_len 0 (length r.cites)) (map (λ (f : FinalCite L). f.placed.place) fs) whole
      ∙ length-range_with_len 0 (length r.cites)

  pub told-lengths : (rs : List (Request E P)) (ns : List (List CiteNotes)) (fs : List (Arranged (FinalCite L))) → map (λ (n : List CiteNotes). length n) ns ≡ map (λ (r : Request E P). length r.cites) rs
      → AllZip (λ (r : Request E P) (f : Arranged (FinalCite L)). IsPermutation (range_with_len 0 (length r.cites)) (map (λ (c : FinalCite L). c.placed.place) f.cites)) rs fs
      → map (λ (c : CiteRender E P). length c.items) (told_cites told rs ns fs) ≡ map (λ (r : Request E P). length r.cites) rs
  told-lengths [] ns fs h w = refl
  told-lengths (r ∷ rs) ns [] h w = absurd w
  told-lengths (r ∷ rs) [] (f ∷ fs) h w = cc
  told-lengths (r ∷ rs) (n ∷ ns) (f ∷ fs) h w =
      let long : length n ≡ length r.cites = cc in
      let later : map (λ (n : List CiteNotes). length n) ns ≡ map (λ (r : Request E P). length r.cites) rs = cc in
      λ i. request-length r n long f.cites w.0 i ∷ told-lengths rs ns fs later w.1 i
