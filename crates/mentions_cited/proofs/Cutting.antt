-- A list cut into parts, one after another.
use Rattle.std.proofs.Common.{◌≡◌, ℕ, ◌+◌, ◌<◌, ◌≤◌, List, [], ◌∷◌, ◌++◌, length, map, take, drop, get_or, refl, ap, sym, ◌∙◌, append-nil, append_assoc, arith}
use Rattle.std.proofs.lemmas.List.{drop_all, length-append, length-drop, length-take-le}
use Rattle.driver_passes.specs.Request.{Request, cites_of}
use Rattle.mentions_cited.specs.Handed.{cite_counts, parts}
use Rattle.mentions_cited.proofs.Walking.{opened}

module _ {E P X Y : Type 0} (view : X → Request E P) (xs : List X) (k : ℕ) (rest : List Y) where
  module _ (x : X) (within : k < length xs) (here : x ≡ get_or xs k x) (long : length rest ≡ length (cites_of (map view (drop k xs)))) where
    rest-long : length rest ≡ length (view x).cites + length (cites_of (map view (drop (k + 1) xs)))
    rest-long = long ∙ ap (λ l. length (cites_of l)) (opened view xs k x within here) ∙ length-append (view x).cites (cites_of (map view (drop (k + 1) xs)))

    pub part-fits : length (view x).cites ≤ length rest
    part-fits = omega (arith, rest-long)

    pub rest-counted : (n : ℕ) (behind : List Y) → n ≡ length (view x).cites → behind ≡ drop n rest → length behind ≡ length (cites_of (map view (drop (k + 1) xs)))
    rest-counted n behind count is = omega (arith, ap length is, length-drop n rest, rest-long, count)

    pub parts-more : (n : ℕ) (made now all : List (List Y)) (own behind : List Y) → n ≡ length (view x).cites → made ++ parts (cite_counts (map view (drop k xs))) rest ≡ all
        → own ≡ take n rest → behind ≡ drop n rest → now ≡ made ++ own ∷ [] → now ++ parts (cite_counts (map view (drop (k + 1) xs))) behind ≡ all
    parts-more n made now all own behind count so_far taken left pushed =
        let counts = cite_counts (map view (drop (k + 1) xs)) in
        ap (λ l. l ++ parts counts behind) pushed ∙ append_assoc made (own ∷ []) (parts counts behind)
        ∙ (λ i. made ++ taken i ∷ parts counts (left i)) ∙ ap (λ m. made ++ take m rest ∷ parts counts (drop m rest)) count
        ∙ ap (λ l. made ++ parts (cite_counts l) rest) (sym (opened view xs k x within here)) ∙ so_far

  pub parts-all : (made all : List (List Y)) → length xs ≤ k → made ++ parts (cite_counts (map view (drop k xs))) rest ≡ all → made ≡ all
  parts-all made all past so_far =
      sym (append-nil made) ∙ ap (λ l. made ++ parts (cite_counts (map view l)) rest) (sym (drop_all k xs past)) ∙ so_far

-- as many in each as were asked for
pub parts-counted : {E P Y : Type 0} (rs : List (Request E P)) (ys : List Y) → length ys ≡ length (cites_of rs) → map length (parts (cite_counts rs) ys) ≡ cite_counts rs
parts-counted [] ys long = refl
parts-counted (r ∷ rs) ys long =
    let all : length ys ≡ length r.cites + length (cites_of rs) = long ∙ length-append r.cites (cites_of rs) in
    let own : length (take (length r.cites) ys) ≡ length r.cites = length-take-le (length r.cites) ys (omega (arith, all)) in
    let others : length (drop (length r.cites) ys) ≡ length (cites_of rs) = omega (arith, all, length-drop (length r.cites) ys) in
    λ i. own i ∷ parts-counted rs (drop (length r.cites) ys) others i
