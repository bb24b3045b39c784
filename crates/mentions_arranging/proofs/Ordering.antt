-- Cites in an order of their places.
use Rattle.std.proofs.Common.{◌≡◌, ℕ, zero, suc, ◌+◌, ◌<◌, List, [], ◌∷◌, ◌++◌, All, length, map, take, get_or, refl, ap, sym, subst, ◌∙◌, arith}
use Rattle.std.specs.Prelude.{option_map}
use Rattle.std.specs.List.{cons_option, range_with_len}
use Rattle.std.specs.List.Sorted.{IsPermutation}
use Rattle.std.proofs.lemmas.List.{get_or_default, get_or-map, length-map}
use Rattle.std.proofs.lemmas.List.Elements.{filter_map-append}
use Rattle.std.proofs.lemmas.List.FromFn.{get_or-range_with_len, length-range_with_len, map-range_with_len_more}
use Rattle.std.proofs.lemmas.List.Sorted.{All-permutation, IsPermutation-refl}
use Rattle.std.proofs.lemmas.Option.{slice_get_read}
use Rattle.list_lemmas.proofs.Stepping.{next}
use Rattle.mentions_blocks.specs.declared.blocks.PlacedCite.{PlacedCite}
use Rattle.mentions_arranging.specs.Order.{alone, cites_in_order, final_cite, handed_order, with_place}
use Rattle.mentions_arranging.specs.declared.request.FinalCite.{FinalCite}
use Rattle.mentions_arranging.specs.declared.request.RequestedCite.{RequestedCite}

-- the order handed in, one more place
pub handed-next : (k : ℕ) (order all : List PlacedCite) → order ≡ handed_order k → all ≡ order ++ alone k ∷ [] → all ≡ handed_order (k + 1)
handed-next k order all so_far pushed =
    let e : 0 + k ≡ k = omega arith in
    pushed ∙ ap (λ o. o ++ alone k ∷ []) so_far ∙ sym (map-range_with_len_more alone 0 k k e)

handed-places : (a n : ℕ) → map (λ (p : PlacedCite). p.place) (map alone (range_with_len a n)) ≡ range_with_len a n
handed-places a zero = refl
handed-places a (suc n) = ap (λ l. a ∷ l) (handed-places (a + 1) n)

pub handed-once : (n : ℕ) (order : List PlacedCite) → order ≡ handed_order n → IsPermutation (range_with_len 0 n) (map (λ (p : PlacedCite). p.place) order)
handed-once n order is =
    subst (λ ps. IsPermutation (range_with_len 0 n) (map (λ (p : PlacedCite). p.place) ps)) (sym is) (subst (λ ps. IsPermutation (range_with_len 0 n) ps) (sym (handed-places 0 n)) (IsPermutation-refl (range_with_len 0 n)))

-- where each place stands once, each is one of a list
range-within : (n : ℕ) → All (λ i. i < n) (range_with_len 0 n)
range-within n k d h =
    let inside : k < n = omega (arith, length-range_with_len 0 n) in
    omega (arith, get_or-range_with_len 0 n k d inside)

pub places-within : (n : ℕ) (order : List PlacedCite) → IsPermutation (range_with_len 0 n) (map (λ (p : PlacedCite). p.place) order) → All (λ (p : PlacedCite). p.place < n) order
places-within n order once k d h =
    let all = All-permutation (λ i. i < n) (range_with_len 0 n) (map (λ (p : PlacedCite). p.place) order) once (range-within n) in
    subst (λ i. i < n) (get_or-map (λ (p : PlacedCite). p.place) order k d d.place h) (all k d.place (subst (λ m. k < m) (sym (length-map order (λ (p : PlacedCite). p.place))) h))

-- the cites of an order, one more
module _ {L : Type 0} (cites : List (RequestedCite L)) (order : List PlacedCite) (k : ℕ) (p d : PlacedCite) (within : k < length order) (given : p ≡ get_or order k d) where
  pub place-within : All (λ (q : PlacedCite). q.place < length cites) order → p.place < length cites
  place-within all = subst (λ (q : PlacedCite). q.place < length cites) (sym given) (all k d within)

  pub ordered-next : (c : RequestedCite L) → p.place < length cites → c ≡ get_or cites p.place c → (found all : List (FinalCite L)) → found ≡ cites_in_order cites (take k order)
      → all ≡ found ++ with_place p c ∷ [] → all ≡ cites_in_order cites (take (k + 1) order)
  ordered-next c inside is found all so_far pushed =
      let here : p ≡ get_or order k p = given ∙ get_or_default order k d p within in
      pushed ∙ ap (λ xs. xs ++ with_place p c ∷ []) so_far
      ∙ sym (ap (cites_in_order cites) (next order k p within here) ∙ filter_map-append (final_cite cites) (take k order) (p ∷ [])
      ∙ ap (λ o. cites_in_order cites (take k order) ++ cons_option (option_map (with_place p) o) []) (slice_get_read cites (length cites) p.place c refl inside is))
