-- Two of each member, one member more.
use Rattle.std.proofs.Common.{◌≡◌, ℕ, zero, suc, ◌+◌, ◌*◌, ◌<◌, ◌≤◌, Bool, true, false, List, [], ◌∷◌, ◌++◌, length, map, drop, get_or, refl, ap, sym, ◌∙◌, append-nil, append_assoc, arith}
use Rattle.std.specs.Prelude.{flat_map, nat_eq}
use Rattle.std.specs.List.{enumerate_from, list_any}
use Rattle.std.proofs.lemmas.List.{drop_all, get_or-map, length-map, map-append}
use Rattle.mentions_tables.specs.declared.subject.Subject.{Subject}
use Rattle.driver_writers.specs.Tasks.{CiteTaskValue}
use Rattle.mentions_cited.specs.Homes.{HomeValue}
use Rattle.mentions_cited.specs.Mentions.{mention}
use Rattle.mentions_cited.proofs.Walking.{opened}

-- the mentions of an entry by its index, where these are cited again
abbrev pub by_index : {E P : Type 0} → ℕ → List ℕ → ℕ → HomeValue E P → Bool → Subject (CiteTaskValue E P)
by_index offset again n = mention offset (list_any (nat_eq n) again) n

module _ {H Y : Type 0} (f : ℕ → H → Bool → Y) where
  -- of each with its number
  abbrev pub two_of_each : ℕ → List H → List Y
  two_of_each n hs = flat_map (λ p. f p.0 p.1 true ∷ f p.0 p.1 false ∷ []) (enumerate_from n hs)

  pub length-two : (n : ℕ) (hs : List H) → length (two_of_each n hs) ≡ 2 * length hs
  length-two n [] = refl
  length-two n (h ∷ hs) =
      let more = length-two (n + 1) hs in
      let all : suc (suc (length (two_of_each (n + 1) hs))) ≡ 2 * suc (length hs) = omega (arith, more) in
      all

  module _ {X V : Type 0} (view : X → H) (seen : V → Y) (xs : List X) (k : ℕ) (n : ℕ) where
    pub two-more : (x : X) → k < length xs → x ≡ get_or xs k x → (made once twice : List V) (p q : V) (all : List Y)
        → map seen made ++ two_of_each n (map view (drop k xs)) ≡ all → once ≡ made ++ p ∷ [] → twice ≡ once ++ q ∷ [] → seen p ≡ f n (view x) true → seen q ≡ f n (view x) false
        → (m : ℕ) → n + 1 ≡ m → map seen twice ++ two_of_each m (map view (drop (k + 1) xs)) ≡ all
    two-more x within here made once twice p q all so_far first second is_p is_q m next =
        let rest = two_of_each m (map view (drop (k + 1) xs)) in
        let pushed : twice ≡ made ++ p ∷ q ∷ [] = second ∙ ap (λ l. l ++ q ∷ []) first ∙ append_assoc made (p ∷ []) (q ∷ []) in
        ap (λ l. map seen l ++ rest) pushed ∙ ap (λ l. l ++ rest) (map-append seen made (p ∷ q ∷ []))
        ∙ append_assoc (map seen made) (seen p ∷ seen q ∷ []) rest ∙ (λ i. map seen made ++ is_p i ∷ is_q i ∷ rest)
        ∙ ap (λ j. map seen made ++ f n (view x) true ∷ f n (view x) false ∷ two_of_each j (map view (drop (k + 1) xs))) (sym next)
        ∙ ap (λ l. map seen made ++ two_of_each n l) (sym (opened view xs k x within here)) ∙ so_far

    pub two-all : (made : List V) (all : List Y) → length xs ≤ k → map seen made ++ two_of_each n (map view (drop k xs)) ≡ all → map seen made ≡ all
    two-all made all past so_far =
        sym (append-nil (map seen made)) ∙ ap (λ l. map seen made ++ two_of_each n (map view l)) (sym (drop_all k xs past)) ∙ so_far

  -- what stands at the places of a member
  first-of : (n : ℕ) (hs : List H) (k : ℕ) (h : H) (d : Y) → k < length hs → h ≡ get_or hs k h → get_or (two_of_each n hs) (2 * k) d ≡ f (n + k) h true
  first-of n [] k h d w q = absurd (omega (arith, w))
  first-of n (x ∷ xs) zero h d w q = let same : n ≡ n + 0 = omega arith in ap (λ m. f m x true) same ∙ ap (λ y. f (n + 0) y true) (sym q)
  first-of n (x ∷ xs) (suc k) h d w q =
      let at : 2 * suc k ≡ suc (suc (2 * k)) = omega arith in
      let same : n + 1 + k ≡ n + suc k = omega arith in
      ap (λ j. get_or (two_of_each n (x ∷ xs)) j d) at ∙ first-of (n + 1) xs k h d (omega (arith, w)) q ∙ ap (λ m. f m h true) same

  second-of : (n : ℕ) (hs : List H) (k : ℕ) (h : H) (d : Y) → k < length hs → h ≡ get_or hs k h → get_or (two_of_each n hs) (2 * k + 1) d ≡ f (n + k) h false
  second-of n [] k h d w q = absurd (omega (arith, w))
  second-of n (x ∷ xs) zero h d w q = let same : n ≡ n + 0 = omega arith in ap (λ m. f m x false) same ∙ ap (λ y. f (n + 0) y false) (sym q)
  second-of n (x ∷ xs) (suc k) h d w q =
      let at : 2 * suc k + 1 ≡ suc (suc (2 * k + 1)) = omega arith in
      let same : n + 1 + k ≡ n + suc k = omega arith in
      ap (λ j. get_or (two_of_each n (x ∷ xs)) j d) at ∙ second-of (n + 1) xs k h d (omega (arith, w)) q ∙ ap (λ m. f m h false) same

  module _ {X V : Type 0} (view : X → H) (seen : V → Y) (xs : List X) (vs : List V) (n : ℕ) (same : map seen vs ≡ two_of_each n (map view xs)) (k : ℕ) (x : X) (within : k < length xs) (here : x ≡ get_or xs k x) where
    inside : k < length (map view xs)
    inside = omega (arith, within, length-map xs view)

    stands : view x ≡ get_or (map view xs) k (view x)
    stands = ap view here ∙ sym (get_or-map view xs k x (view x) within)

    pub first-seen : (v : V) → 2 * k < length vs → v ≡ get_or vs (2 * k) v → seen v ≡ f (n + k) (view x) true
    first-seen v w h =
        ap seen h ∙ sym (get_or-map seen vs (2 * k) v (seen v) w) ∙ ap (λ l. get_or l (2 * k) (seen v)) same ∙ first-of n (map view xs) k (view x) (seen v) inside stands

    pub second-seen : (v : V) → 2 * k + 1 < length vs → v ≡ get_or vs (2 * k + 1) v → seen v ≡ f (n + k) (view x) false
    second-seen v w h =
        ap seen h ∙ sym (get_or-map seen vs (2 * k + 1) v (seen v) w) ∙ ap (λ l. get_or l (2 * k + 1) (seen v)) same
        ∙ second-of n (map view xs) k (view x) (seen v) inside stands
