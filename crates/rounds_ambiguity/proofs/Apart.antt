-- The cites of a document stand at different places, and so do those of a class.
use Rattle.std.proofs.Common.{◌≡◌, ◌≢◌, ℕ, zero, suc, ◌+◌, ◌<◌, List, [], ◌∷◌, ◌++◌, map, ap, arith}
use Rattle.std.specs.Prelude.{All, AllPairs, bytes_eq}
use Rattle.std.specs.List.{AllByRecursion, enumerate_from, flat_map}
use Rattle.std.proofs.lemmas.List.Elements.{All-append, All-cons, All-map, All-nil, All-weaker}
use Rattle.std.proofs.lemmas.List.Kept.{AllPairs-cons, AllPairs-filter}
use Rattle.driver_lookup.specs.States.{may_get_suffix}
use Rattle.driver_passes.specs.Places.{AreDistinct}
use Rattle.driver_passes.specs.Renders.{CiteRender, ItemRender, Place}
use Rattle.rounds_ambiguity.specs.Ambiguity.{class_of, classes, seconds, without_suffix}
use Rattle.rounds_ambiguity.specs.Members.{Member, document, place_of, request_cites, state_of, shown_text}

module _ {E P : Type 0} where
  abbrev StandApart : Member E P → Member E P → Type 0
  StandApart a b = a.place ≢ b.place

  -- the cites of the r-th request from the k-th on, where those are these
  abbrev cites_from : ℕ → CiteRender E P → ℕ → List (ItemRender E P) → List (Member E P)
  cites_from r c k items = map (λ p. record { place = (r, p.0); item = p.1; style = c.request.style }) (enumerate_from k items)

  -- the cites of these requests, the first of which is the r-th
  abbrev requests_from : ℕ → List (CiteRender E P) → List (Member E P)
  requests_from r cs = flat_map (λ p. request_cites p.0 p.1) (enumerate_from r cs)

  later-cites : (r k j : ℕ) (c : CiteRender E P) (items : List (ItemRender E P)) → k < j → All (λ m. (r, k) ≢ place_of m) (cites_from r c j items)
  later-cites r k j c [] h = All-nil (λ (m : Member E P). (r, k) ≢ place_of m)
  later-cites r k j c (i ∷ is) h =
      All-cons (λ (m : Member E P). (r, k) ≢ place_of m) _ (cites_from r c (j + 1) is)
      (λ e. absurd (let same : k ≡ j = ap (λ p. p.1) e in omega arith)) (later-cites r k (j + 1) c is (omega arith))

  in-request : (b r k : ℕ) (c : CiteRender E P) (items : List (ItemRender E P)) → b < r → All (λ m. b < (place_of m).0) (cites_from r c k items)
  in-request b r k c [] h = All-nil (λ (m : Member E P). b < (place_of m).0)
  in-request b r k c (i ∷ is) h =
      All-cons (λ (m : Member E P). b < (place_of m).0) _ (cites_from r c (k + 1) is) h (in-request b r (k + 1) c is h)

  later-requests : (b r : ℕ) (cs : List (CiteRender E P)) → b < r → All (λ m. b < (place_of m).0) (requests_from r cs)
  later-requests b r [] h = All-nil (λ (m : Member E P). b < (place_of m).0)
  later-requests b r (c ∷ cs) h =
      All-append (λ (m : Member E P). b < (place_of m).0) (request_cites r c) (requests_from (r + 1) cs)
      (in-request b r 0 c c.items h) (later-requests b (r + 1) cs (omega arith))

  before-later : (r k : ℕ) (c : CiteRender E P) (items : List (ItemRender E P)) (later : List (Member E P)) → All (λ m. r < (place_of m).0) later → AllPairs StandApart later
      → AllPairs StandApart (cites_from r c k items ++ later)
  before-later r k c [] later after h = h
  before-later r k c (i ∷ is) later after h =
      let first : Member E P = record { place = (r, k); item = i; style = c.request.style } in
      AllPairs-cons StandApart first (cites_from r c (k + 1) is ++ later)
      (All-append (StandApart first) (cites_from r c (k + 1) is) later (later-cites r k (k + 1) c is (omega arith))
      (All-weaker (λ m. r < (place_of m).0) (StandApart first) (λ m below e. let same : r ≡ (place_of m).0 = ap (λ p. p.0) e in absurd (omega arith)) later after))
      (before-later r (k + 1) c is later after h)

  document-apart : (r : ℕ) (cs : List (CiteRender E P)) → AllPairs StandApart (requests_from r cs)
  document-apart r [] = λ i j d below within. absurd (omega (arith, within))
  document-apart r (c ∷ cs) = before-later r 0 c c.items (requests_from (r + 1) cs) (later-requests r (r + 1) cs (omega arith)) (document-apart (r + 1) cs)

  places-apart : (ms : List (Member E P)) → AllPairs StandApart ms → AreDistinct (map place_of ms)
  places-apart [] h = λ i j d below within. absurd (omega (arith, within))
  places-apart (m ∷ ms) h =
      AllPairs-cons (λ (a b : Place). a ≢ b) m.place (map place_of ms)
      (All-map (λ p. m.place ≢ p) place_of ms (λ k d within. h zero (suc k) d (omega arith) (omega arith)))
      (places-apart ms (λ i j d below within. h (suc i) (suc j) d (omega arith) (omega arith)))

  pub classes-apart : (cites : List (CiteRender E P)) → AllByRecursion (λ c. AreDistinct (map place_of c)) (classes (without_suffix (document cites)))
  classes-apart cites = by (seconds (without_suffix (document cites)))
    where
      by : (ms : List (Member E P)) → AllByRecursion (λ c. AreDistinct (map place_of c)) (map (λ m. class_of (without_suffix (document cites)) (shown_text m)) ms)
      by [] = tt
      by (m ∷ ms) = (
        places-apart (class_of (without_suffix (document cites)) (shown_text m))
            (AllPairs-filter StandApart (λ x. bytes_eq (shown_text m) (shown_text x)) (without_suffix (document cites))
            (AllPairs-filter StandApart (λ x. may_get_suffix (state_of x)) (document cites) (document-apart 0 cites))),
        by ms,
      )
