-- The cites of an answer are those of its requests, each once.
use Rattle.std.proofs.Common.{◌≡◌, ℕ, ◌+◌, ◌≤◌, Bool, List, [], ◌∷◌, ◌++◌, Option, Some, None, length, map, take, refl, ap, sym, subst, arith}
use Rattle.std.specs.Prelude.{All, slice_get, zip}
use Rattle.std.specs.List.{range_with_len}
use Rattle.std.specs.List.Sorted.{IsPermutation}
use Rattle.std.specs.Option.{option_map_or}
use Rattle.std.proofs.Math.Seq.{length-take-le}
use Rattle.std.proofs.lemmas.List.Elements.{All-cons, All-nil}
use Rattle.std.proofs.lemmas.List.Sorted.{IsPermutation-map, IsPermutation-refl, IsPermutation-trans}
use Rattle.std.proofs.lemmas.Simd.{map-map}
use Rattle.csl_driver.specs.Answer.{Job, entries_listed, in_final_order, rendered_first}
use Rattle.csl_driver.specs.AnswerLaws.{HasOwnCites, cite_of}
use Rattle.csl_driver.proofs.FirstPlaced.{from}
use Rattle.csl_driver.proofs.Standing.{all-changed, all-mapped, grouped-request, same-changed}
use Rattle.driver_entries.specs.Entries.{number}
use Rattle.rounds_grouping.specs.Blocks.{grouped, is_grouped}
use Rattle.rounds_grouping.specs.FinalOrder.{HasFinalOrder}
use Rattle.rounds_grouping.specs.Laws.{bare}
use Rattle.rounds_grouping.proofs.Kept.{places-seen}
use Rattle.driver_lookup.specs.declared.state.DisambiguateState.{DisambiguateState}
use Rattle.driver_passes.specs.Renders.{CiteRender, ItemRender}
use Rattle.driver_passes.specs.Request.{Request, RequestedCite, placed_from}
use Rattle.driver_positions.specs.FinalProperties.{items_before, with_final, with_final_items, with_final_properties}
use Rattle.driver_positions.specs.FirstProperties.{cite_properties, first_properties, request_properties}
use Rattle.rounds_runs.specs.FirstRenders.{first_render, first_renders, first_renders_of}
use Rattle.rounds_runs.specs.Rounds.{StateTable, request_at, with_any}
use Rattle.rounds_runs.specs.Tables.{disambiguated, last_states}
use Rattle.rounds_runs.specs.declared.mode.RoundMode.{RoundMode}
use Rattle.driver_writers.specs.Writing.{Writing}

module _ {E P : Type 0} where
  abbrev requested_in : List (ItemRender E P) → List (RequestedCite E P)
  requested_in = map cite_of

  -- it matters only which cites they are, in any order
  own-permuted : (c d : CiteRender E P) → d.request ≡ c.request → IsPermutation (requested_in c.items) (requested_in d.items) → HasOwnCites c → HasOwnCites d
  own-permuted c d same moved own =
      IsPermutation-trans (placed_from 0 d.request.cites) (requested_in c.items) (requested_in d.items)
      (subst (λ r. IsPermutation (placed_from 0 r.cites) (requested_in c.items)) (sym same) own) moved

  own-same : (c d : CiteRender E P) → d.request ≡ c.request → requested_in d.items ≡ requested_in c.items → HasOwnCites c → HasOwnCites d
  own-same c d same items own = own-permuted c d same (subst (IsPermutation (requested_in c.items)) (sym items) (IsPermutation-refl (requested_in c.items))) own

  -- in a final order they are the same
  module _ (groups : Bool) where
    moved-with : (d : RequestedCite E P) (cites grouped : List (ItemRender E P)) → HasFinalOrder groups cites grouped → IsPermutation (requested_in cites) (requested_in grouped)
    moved-with d cites grouped h =
        let seen : List (ItemRender E P) → List (Option (ItemRender E P)) = map (λ c. Some (bare c)) in
        let requested : Option (ItemRender E P) → RequestedCite E P = λ o. option_map_or cite_of o d in
        let at : ℕ → Option (ItemRender E P) = λ k. slice_get (map bare cites) k in
        let in_order : map at (range_with_len 0 (length cites)) ≡ seen cites =
        places-seen 0 cites cites (λ k. let m : 0 + k ≡ k = omega arith in ap (slice_get (map bare cites)) m) in
        let moved : IsPermutation (map at (range_with_len 0 (length cites))) (map at h.final_order) = IsPermutation-map at (range_with_len 0 (length cites)) h.final_order h.each_place_once in
        let both : IsPermutation (seen cites) (seen grouped) =
        subst (λ l. IsPermutation l (seen grouped)) in_order (subst (IsPermutation (map at (range_with_len 0 (length cites)))) (sym h.cites_in_this_order) moved) in
        subst (λ l. IsPermutation l (requested_in grouped)) (map-map requested (λ c. Some (bare c)) cites)
        (subst (IsPermutation (map requested (seen cites))) (map-map requested (λ c. Some (bare c)) grouped)
        (IsPermutation-map requested (seen cites) (seen grouped) both))

    moved-cites : (cites grouped : List (ItemRender E P)) → HasFinalOrder groups cites grouped → IsPermutation (requested_in cites) (requested_in grouped)
    moved-cites (c ∷ cs) grouped h = moved-with (cite_of c) (c ∷ cs) grouped h
    moved-cites [] (c ∷ cs) h = moved-with (cite_of c) [] (c ∷ cs) h
    moved-cites [] [] h = IsPermutation-refl []

module _ {E P : Type 0} (eq : E → E → Bool) (payload_eq : P → P → Bool) (writing : Writing E P) (number_of : E → ℕ) where
  -- the first renders of a request
  row-own : (before : List (Request E P)) (r : Request E P) (xs : List (RequestedCite E P)) (n : ℕ) → n + length xs ≤ length r.cites
      → requested_in (map (λ c. first_render writing r c.0 c.1) (zip xs (from (cite_properties eq payload_eq number_of before r) r.cites n xs))) ≡ placed_from n xs
  row-own before r [] n h = refl
  row-own before r (x ∷ xs) n h =
      let here : length (take n r.cites) ≡ n = length-take-le n r.cites (omega (arith, h)) in
      λ i. record x { place = here i } ∷ row-own before r xs (n + 1) (omega (arith, h)) i

  -- and of all
  rows-own : (ys : List (Request E P)) (n : ℕ) (requests : List (Request E P)) → All HasOwnCites (first_renders writing requests (from (request_properties eq payload_eq number_of) ys n requests))
  rows-own ys n [] = All-nil HasOwnCites
  rows-own ys n (r ∷ requests) =
      let all : length r.cites ≤ length r.cites = omega arith in
      let same = row-own (take n ys) r r.cites 0 (omega arith) in
      All-cons HasOwnCites (first_renders_of writing r (request_properties eq payload_eq number_of (take n ys) r)) _
      (subst (IsPermutation (placed_from 0 r.cites)) (sym same) (IsPermutation-refl (placed_from 0 r.cites)))
      (rows-own ys (n + 1) requests)

  pub first-own : (requests : List (Request E P)) → All HasOwnCites (first_renders writing requests (first_properties eq payload_eq number_of requests))
  first-own requests = rows-own requests 0 requests

module _ {E P : Type 0} (writing : Writing E P) (table : StateTable E) where
  again-own : (r : Request E P) (s : Option DisambiguateState) (i : ItemRender E P) → cite_of (with_any writing r s i) ≡ cite_of i
  again-own r None i = refl
  again-own r (Some s) i = refl

  items-again : (r : Request E P) (items : List (ItemRender E P)) → requested_in (map (λ i. with_any writing r (table i.entry) i) items) ≡ requested_in items
  items-again r [] = refl
  items-again r (i ∷ items) = λ j. again-own r (table i.entry) i j ∷ items-again r items j

  request-own : (c : CiteRender E P) → HasOwnCites c → HasOwnCites (request_at writing table c)
  request-own c own = own-same c (request_at writing table c) refl (items-again c.request c.items) own

module _ {E P : Type 0} (eq : E → E → Bool) (payload_eq : P → P → Bool) (writing : Writing E P) (mode : RoundMode) (job : Job E P)
    (brought : (c : CiteRender E P) → HasFinalOrder (is_grouped c.request.style.citation) c.items (grouped c).items) where
  told-own : All HasOwnCites (disambiguated mode eq writing (rendered_first eq payload_eq writing job))
  unfolding disambiguated
  told-own =
      let firsts = rendered_first eq payload_eq writing job in
      let table : StateTable E = last_states mode eq writing firsts in
      all-mapped (request_at writing table) HasOwnCites (request-own writing table) firsts
      (first-own eq payload_eq writing (number eq job.offset (entries_listed eq job.wanted job.requests)) job.requests)

  ordered-own : All HasOwnCites (in_final_order eq payload_eq writing mode job)
  ordered-own =
      all-mapped grouped HasOwnCites (λ c own. own-permuted c (grouped c) (grouped-request c) (moved-cites (is_grouped c.request.style.citation) c.items (grouped c).items (brought c)) own)
      (disambiguated mode eq writing (rendered_first eq payload_eq writing job)) told-own

  -- as they stand in the end
  pub settled-own : (number_of : E → ℕ) → All HasOwnCites (with_final_properties eq payload_eq number_of (in_final_order eq payload_eq writing mode job))
  settled-own number_of =
      let cites = in_final_order eq payload_eq writing mode job in
      let settled : ℕ → CiteRender E P → CiteRender E P = λ k c. record c { items = with_final_items eq payload_eq number_of (items_before cites k) c.items } in
      all-changed settled HasOwnCites
      (λ k c own. own-same c (settled k c) refl (same-changed (λ j i. with_final eq payload_eq number_of (items_before cites k ++ take j c.items) i) cite_of (λ j i. refl) 0 c.items) own)
      0 cites ordered-own
