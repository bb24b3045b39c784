-- The first cites, gathered one after another.
use Rattle.std.proofs.Common.{◌≡◌, ℕ, ◌+◌, ◌<◌, ◌≤◌, List, [], ◌∷◌, ◌++◌, filter, length, map, drop, get_or, ap, sym, ◌∙◌, append-nil, append_assoc}
use Rattle.std.specs.Prelude.{flat_map}
use Rattle.std.specs.List.{enumerate_from, zip}
use Rattle.std.proofs.lemmas.List.{drop_all, drop_more}
use Rattle.std.proofs.lemmas.List.Elements.{filter-append}
use Rattle.mentions_notes.specs.declared.notes.CiteNotes.{CiteNotes}
use Rattle.driver_passes.specs.Request.{RequestedCite, Request}
use Rattle.mentions_cited.specs.Homes.{HomeValue, standing_cite, standing_in}
use Rattle.mentions_cited.specs.Steps.{is_first_cite}
use Rattle.mentions_cited.proofs.Walking.{opened}

module _ {E P : Type 0} where
  -- the cites of a request from a place on
  abbrev pub standing_from : Request E P → ℕ → List (RequestedCite E P) → List CiteNotes → List (HomeValue E P)
  standing_from r k cs ns = map (λ p. standing_cite r p.0 p.1) (enumerate_from k (zip cs ns))

  module _ {X : Type 0} (view : X → RequestedCite E P) (r : Request E P) (xs : List X) (ns : List CiteNotes) (k : ℕ) where
    pub first-more : (x : X) (n : CiteNotes) → k < length xs → x ≡ get_or xs k x → k < length ns → n ≡ get_or ns k n → (made now all : List (HomeValue E P))
        → made ++ filter is_first_cite (standing_from r k (map view (drop k xs)) (drop k ns)) ≡ all
        → now ≡ made ++ filter is_first_cite (standing_cite r k (view x, n) ∷ [])
        → now ++ filter is_first_cite (standing_from r (k + 1) (map view (drop (k + 1) xs)) (drop (k + 1) ns)) ≡ all
    first-more x n within here inside there made now all so_far pushed =
        let one = standing_cite r k (view x, n) in
        let rest = standing_from r (k + 1) (map view (drop (k + 1) xs)) (drop (k + 1) ns) in
        let split : drop k ns ≡ n ∷ drop (k + 1) ns = drop_more ns k n inside ∙ ap (λ m. m ∷ drop (k + 1) ns) (sym there) in
        ap (λ l. l ++ filter is_first_cite rest) pushed ∙ append_assoc made (filter is_first_cite (one ∷ [])) (filter is_first_cite rest)
        ∙ ap (λ l. made ++ l) (sym (filter-append is_first_cite (one ∷ []) rest))
        ∙ (λ i. made ++ filter is_first_cite (standing_from r k (sym (opened view xs k x within here) i) (sym split i))) ∙ so_far

    pub first-all : (made all : List (HomeValue E P)) → length xs ≤ k → made ++ filter is_first_cite (standing_from r k (map view (drop k xs)) (drop k ns)) ≡ all → made ≡ all
    first-all made all past so_far =
        sym (append-nil made) ∙ ap (λ l. made ++ filter is_first_cite (standing_from r k (map view l) (drop k ns))) (sym (drop_all k xs past)) ∙ so_far

  -- those of all requests
  module _ {X Y : Type 0} (view : X → Request E P) (row : Y → List CiteNotes) (xs : List X) (ys : List Y) (k : ℕ) where
    abbrev pub standing_rest : List (HomeValue E P)
    standing_rest = flat_map (λ p. standing_in p.0 p.1) (zip (map view (drop k xs)) (map row (drop k ys)))

  module _ {X Y : Type 0} (view : X → Request E P) (row : Y → List CiteNotes) (xs : List X) (ys : List Y) (k : ℕ) where
    pub request-more : (v : Request E P) (y : Y) → map view (drop k xs) ≡ v ∷ map view (drop (k + 1) xs) → k < length ys → y ≡ get_or ys k y → (made now all : List (HomeValue E P))
        → made ++ filter is_first_cite (standing_rest view row xs ys k) ≡ all → now ≡ made ++ filter is_first_cite (standing_in v (row y))
        → now ++ filter is_first_cite (standing_rest view row xs ys (k + 1)) ≡ all
    request-more v y split inside there made now all so_far pushed =
        let own = standing_in v (row y) in
        let rest = standing_rest view row xs ys (k + 1) in
        ap (λ l. l ++ filter is_first_cite rest) pushed ∙ append_assoc made (filter is_first_cite own) (filter is_first_cite rest)
        ∙ ap (λ l. made ++ l) (sym (filter-append is_first_cite own rest))
        ∙ (λ i. made ++ filter is_first_cite (flat_map (λ p. standing_in p.0 p.1) (zip (sym split i) (sym (opened row ys k y inside there) i)))) ∙ so_far

    pub request-all : (made all : List (HomeValue E P)) → length xs ≤ k → made ++ filter is_first_cite (standing_rest view row xs ys k) ≡ all → made ≡ all
    request-all made all past so_far =
        sym (append-nil made)
        ∙ ap (λ l. made ++ filter is_first_cite (flat_map (λ p. standing_in p.0 p.1) (zip (map view l) (map row (drop k ys))))) (sym (drop_all k xs past)) ∙ so_far
