-- The cites of a request in blocks, from where each of them goes.
use Rattle.std.proofs.Common.{◌≡◌, ℕ, suc, ◌+◌, ◌<◌, Bool, true, false, cond, not, ◌||◌, Some, None, List, [], ◌∷◌, ◌++◌, filter, length, map, get_or, refl, ap, sym, ◌∙◌, subst, append_assoc, append-nil, arith}
use Rattle.std.specs.Prelude.{Option, if◌then◌else◌}
use Rattle.std.specs.List.{enumerate_from, flat_map, range_with_len}
use Rattle.std.specs.List.Sorted.{IsPermutation}
use Rattle.std.proofs.Math.ListN.{length-map}
use Rattle.std.proofs.lemmas.List.{length-append, map-append}
use Rattle.std.proofs.lemmas.List.Elements.{filter-append}
use Rattle.driver_entries.specs.Entries.{is_in, place}
use Rattle.driver_entries.specs.Laws.{NoTwoEqual}
use Rattle.driver_entries.proofs.Once.{NoTwoEqual-distinct, kept_out}
use Rattle.driver_passes.specs.Renders.{ItemRender}
use Rattle.rounds_grouping.specs.BlockKeys.{BlockKey, is_named, key_of, same_key}
use Rattle.rounds_grouping.specs.Blocks.{block, block_index, block_keys, final_order, grouped_cites, in_block, with_block}
use Rattle.rounds_grouping.specs.Moves.{IsPicked}
use Rattle.rounds_grouping.specs.Steps.{all_marked, blocks_of, marked_in_block, placed_block, placed_blocks}
use Rattle.rounds_grouping.specs.declared.blocks.Placed.{Placed}
use Rattle.rounds_grouping.proofs.Classes.{classes-permuted, numbers}
use Rattle.rounds_grouping.proofs.KeyLaws.{key_laws}

-- of each member
abbrev pub Every : {X : Type 0} → (X → Type 0) → List X → Type 0
Every P [] = Unit {0}
Every P (x ∷ xs) = P x × Every P xs

module _ {X : Type 0} (P : X → Type 0) where
  pub every-filter : (p : X → Bool) (xs : List X) → Every P xs → Every P (filter p xs)
  every-filter p [] h = tt
  every-filter p (x ∷ xs) h = by (p x) (every-filter p xs h.1)
    where
      by : (b : Bool) → Every P (filter p xs) → Every P (cond b (x ∷ filter p xs) (filter p xs))
      by true k = (h.0, k)
      by false k = k

  every-append : (xs ys : List X) → Every P xs → Every P ys → Every P (xs ++ ys)
  every-append [] ys h k = k
  every-append (x ∷ xs) ys h k = (h.0, every-append xs ys h.1 k)

  pub every-flat : {Y : Type 0} (f : Y → List X) → ((y : Y) → Every P (f y)) → (ys : List Y) → Every P (flat_map f ys)
  every-flat f h [] = tt
  every-flat f h (y ∷ ys) = every-append (f y) (flat_map f ys) (h y) (every-flat f h ys)

-- the members of a list that stand at places, by these
module _ {X Y : Type 0} (view : X → Y) (old : List X) where
  abbrev StandsAt : ℕ × Y → Type 0
  StandsAt w = (d : X) → view (get_or old w.0 d) ≡ w.1

  every-enumerated : (b : ℕ) (xs : List X) → ((k : ℕ) (d : X) → k < length xs → get_or old (b + k) d ≡ get_or xs k d) → Every StandsAt (enumerate_from b (map view xs))
  every-enumerated b [] h = tt
  every-enumerated b (x ∷ xs) h = (
    (λ d. let e : b ≡ b + 0 = omega arith in ap (λ k. view (get_or old k d)) e ∙ ap view (h 0 d (omega arith))),
    every-enumerated (b + 1) xs (λ k d w. let e : b + 1 + k ≡ b + suc k = omega arith in ap (λ j. get_or old j d) e ∙ h (suc k) d (omega arith)),
  )

  picked-pairs : (ws : List (ℕ × Y)) (now : List X) → IsPicked old (map (λ w. w.0) ws) now → Every StandsAt ws → map view now ≡ map (λ w. w.1) ws
  picked-pairs [] [] h s = refl
  picked-pairs [] (x ∷ xs) h s = let c = h.count in absurd (omega arith)
  picked-pairs (w ∷ ws) [] h s = let c = h.count in absurd (omega arith)
  picked-pairs (w ∷ ws) (x ∷ xs) h s =
      let c : suc (length xs) ≡ suc (length (map (λ w. w.0) ws)) = h.count in
      let first : view x ≡ w.1 = ap view (h.members 0 x (omega arith)) ∙ s.0 x in
      let rest : IsPicked old (map (λ w. w.0) ws) xs = record { count = omega arith; members = λ k d u. h.members (suc k) d (omega arith) } in
      λ i. first i ∷ picked-pairs ws xs rest s.1 i

-- the index of a key is how many keys with names stand before it
not-before : (pre : List BlockKey) (key : BlockKey) (suf : List BlockKey) → NoTwoEqual same_key (pre ++ key ∷ suf) → is_in same_key key pre ≡ false
not-before [] key suf h = refl
not-before (p ∷ pre) key suf h = by (same_key key p) refl (not-before pre key suf h.1)
  where
    apart : (xs : List BlockKey) → is_in same_key p (xs ++ key ∷ suf) ≡ false → same_key p key ≡ false
    apart [] e = by (same_key p key) e
      where
        by : (b : Bool) → (b || is_in same_key p suf) ≡ false → b ≡ false
        by true e = cc
        by false e = refl
    apart (x ∷ xs) e = by (same_key p x) e (apart xs)
      where
        by : (b : Bool) → (b || is_in same_key p (xs ++ key ∷ suf)) ≡ false → (is_in same_key p (xs ++ key ∷ suf) ≡ false → same_key p key ≡ false) → same_key p key ≡ false
        by true e k = cc
        by false e k = k e

    by : (b : Bool) → same_key key p ≡ b → is_in same_key key pre ≡ false → (b || is_in same_key key pre) ≡ false
    by true e k = let f : same_key key p ≡ false = key_laws.symm key p ∙ apart pre h.0 in cc
    by false e k = k

place-past : (xs : List BlockKey) (key : BlockKey) (ys : List BlockKey) → is_in same_key key xs ≡ false → place same_key key (xs ++ key ∷ ys) ≡ length xs
place-past [] key ys h = rw (key_laws.refl key) refl
place-past (x ∷ xs) key ys h = by (same_key key x) h (place-past xs key ys)
  where
    by : (b : Bool) → (b || is_in same_key key xs) ≡ false → (is_in same_key key xs ≡ false → place same_key key (xs ++ key ∷ ys) ≡ length xs)
        → cond (not b) (1 + place same_key key (xs ++ key ∷ ys)) 0 ≡ suc (length xs)
    by true h k = cc
    by false h k = omega (arith, k h)

index-of : (pre : List BlockKey) (key : BlockKey) (suf : List BlockKey) → NoTwoEqual same_key (pre ++ key ∷ suf) → is_named key ≡ true
    → place same_key key (filter is_named (pre ++ key ∷ suf)) ≡ length (filter is_named pre)
index-of pre key suf h e =
    ap (place same_key key) (filter-append is_named pre (key ∷ suf) ∙ ap (λ b. filter is_named pre ++ cond b (key ∷ filter is_named suf) (filter is_named suf)) e)
    ∙ place-past (filter is_named pre) key (filter is_named suf) (kept_out same_key key_laws is_named key pre (not-before pre key suf h))

module _ (all : List BlockKey) (f : BlockKey → List ℕ) where
  abbrev index : BlockKey → Option ℕ
  index key = if is_named key then Some (place same_key key (filter is_named all)) else None

  abbrev pair : BlockKey → BlockKey × List ℕ
  pair key = (key, f key)

  indexed : (pre suf : List BlockKey) (g : ℕ) → pre ++ suf ≡ all → NoTwoEqual same_key all → g ≡ length (filter is_named pre)
      → placed_blocks g (map pair suf) ≡ flat_map (λ key. placed_block (index key) (f key)) suf
  indexed pre [] g a h e = refl
  indexed pre (key ∷ suf) g a h e = by (is_named key) refl (λ n. indexed (pre ++ key ∷ []) suf n (append_assoc pre (key ∷ []) suf ∙ a) h)
    where
      count : (b : Bool) → is_named key ≡ b → length (filter is_named (pre ++ key ∷ [])) ≡ length (filter is_named pre ++ cond b (key ∷ []) [])
      count b q = ap length (filter-append is_named pre (key ∷ []) ∙ ap (λ c. filter is_named pre ++ cond c (key ∷ []) []) q)

      by : (b : Bool) → is_named key ≡ b
          → ((n : ℕ) → n ≡ length (filter is_named (pre ++ key ∷ [])) → placed_blocks n (map pair suf) ≡ flat_map (λ key. placed_block (index key) (f key)) suf)
          → placed_block (if b then Some g else None) (f key) ++ placed_blocks (if b then g + 1 else g) (map pair suf)
          ≡ placed_block (if b then Some (place same_key key (filter is_named all)) else None) (f key) ++ flat_map (λ key. placed_block (index key) (f key)) suf
      by true q k =
          let here : g ≡ place same_key key (filter is_named all) =
          e ∙ sym (index-of pre key suf (subst (NoTwoEqual same_key) (sym a) h) q) ∙ ap (λ xs. place same_key key (filter is_named xs)) a in
          let more : g + 1 ≡ length (filter is_named (pre ++ key ∷ [])) = omega (arith, e, count true q, length-append {A = BlockKey}) in
          λ i. placed_block (Some (here i)) (f key) ++ k (g + 1) more i
      by false q k =
          let same : g ≡ length (filter is_named (pre ++ key ∷ [])) = e ∙ ap length (sym (append-nil (filter is_named pre))) ∙ sym (count false q) in
          ap (λ os. placed_block None (f key) ++ os) (k g same)

length-placed : (group : Option ℕ) (ps : List ℕ) → length (placed_block group ps) ≡ length ps
length-placed group [] = refl
length-placed group (p ∷ ps) = ap suc (length-map ps (λ q. record { place = q; group = group; follows = true }))

module _ {E P : Type 0} (delimiter : Option (List ℕ)) where
  marked-rest : (group : Option ℕ) (ws : List (ℕ × ItemRender E P))
      → all_marked delimiter (map (λ q. record { place = q; group = group; follows = true }) (map (λ w. w.0) ws)) (map (λ w. w.1) ws) ≡ map (with_block delimiter group) (map (λ w. w.1) ws)
  marked-rest group [] = refl
  marked-rest group (w ∷ ws) = ap (λ cs. with_block delimiter group w.1 ∷ cs) (marked-rest group ws)

  marked-block : (group : Option ℕ) (ws : List (ℕ × ItemRender E P))
      → all_marked delimiter (placed_block group (map (λ w. w.0) ws)) (map (λ w. w.1) ws) ≡ in_block delimiter group (map (λ w. w.1) ws)
  marked-block group [] = refl
  marked-block group (w ∷ ws) = ap (λ cs. with_block None group w.1 ∷ cs) (marked-rest group ws)

  marked-append : (os more : List Placed) (cs rest : List (ItemRender E P)) → length os ≡ length cs
      → all_marked delimiter (os ++ more) (cs ++ rest) ≡ all_marked delimiter os cs ++ all_marked delimiter more rest
  marked-append [] more [] rest h = refl
  marked-append [] more (c ∷ cs) rest h = absurd (omega arith)
  marked-append (o ∷ os) more [] rest h = absurd (omega arith)
  marked-append (o ∷ os) more (c ∷ cs) rest h = ap (λ ds. marked_in_block delimiter o c ∷ ds) (marked-append os more cs rest (omega arith))

  marked-blocks : (group : BlockKey → Option ℕ) (ws : BlockKey → List (ℕ × ItemRender E P)) (keys : List BlockKey)
      → all_marked delimiter (flat_map (λ key. placed_block (group key) (map (λ w. w.0) (ws key))) keys) (map (λ w. w.1) (flat_map ws keys))
      ≡ flat_map (λ key. in_block delimiter (group key) (map (λ w. w.1) (ws key))) keys
  marked-blocks group ws [] = refl
  marked-blocks group ws (key ∷ keys) =
      ap (all_marked delimiter (placed_block (group key) (map (λ w. w.0) (ws key)) ++ flat_map (λ k. placed_block (group k) (map (λ w. w.0) (ws k))) keys))
      (map-append (λ w. w.1) (ws key) (flat_map ws keys))
      ∙ marked-append (placed_block (group key) (map (λ w. w.0) (ws key))) (flat_map (λ k. placed_block (group k) (map (λ w. w.0) (ws k))) keys)
      (map (λ w. w.1) (ws key)) (map (λ w. w.1) (flat_map ws keys))
      (length-placed (group key) (map (λ w. w.0) (ws key)) ∙ length-map (ws key) (λ w. w.0) ∙ sym (length-map (ws key) (λ w. w.1)))
      ∙ (λ i. marked-block (group key) (ws key) i ++ marked-blocks group ws keys i)

places-placed : (group : Option ℕ) (ps : List ℕ) → map (λ o. o.place) (placed_block group ps) ≡ ps
places-placed group [] = refl
places-placed group (p ∷ ps) = ap (λ qs. p ∷ qs) (rest ps)
  where
    rest : (qs : List ℕ) → map (λ o. o.place) (map (λ (q : ℕ). let o : Placed = record { place = q; group = group; follows = true } in o) qs) ≡ qs
    rest [] = refl
    rest (q ∷ qs) = ap (λ rs. q ∷ rs) (rest qs)

places-blocks : (g : ℕ) (bs : List (BlockKey × List ℕ)) → map (λ o. o.place) (placed_blocks g bs) ≡ numbers same_key bs
places-blocks g [] = refl
places-blocks g (b ∷ bs) =
    map-append (λ o. o.place) (placed_block (if is_named b.0 then Some g else None) b.1) (placed_blocks (if is_named b.0 then g + 1 else g) bs)
    ∙ (λ i. places-placed (if is_named b.0 then Some g else None) b.1 i ++ places-blocks (if is_named b.0 then g + 1 else g) bs i)

enumerated : {X : Type 0} (b : ℕ) (xs : List X) → map (λ p. p.0) (enumerate_from b xs) ≡ range_with_len b (length xs)
enumerated b [] = refl
enumerated b (x ∷ xs) = ap (λ ps. b ∷ ps) (enumerated (b + 1) xs)

module _ {E P : Type 0} (cites : List (ItemRender E P)) where
  numbers-blocks : (keys : List BlockKey) → numbers same_key (map (λ key. let b : BlockKey × List ℕ = (key, map (λ p. p.0) (block cites key)) in b) keys) ≡ map (λ p. p.0) (flat_map (block cites) keys)
  numbers-blocks [] = refl
  numbers-blocks (key ∷ keys) = ap (λ ns. map (λ p. p.0) (block cites key) ++ ns) (numbers-blocks keys) ∙ sym (map-append (λ p. p.0) (block cites key) (flat_map (block cites) keys))

  -- each place stands in the final order once
  pub final-permuted : IsPermutation (range_with_len 0 (length cites)) (final_order cites)
  final-permuted =
      subst (IsPermutation (range_with_len 0 (length cites))) (numbers-blocks (block_keys cites))
      (subst (λ ns. IsPermutation ns (numbers same_key (blocks_of cites))) (enumerated 0 cites)
      (classes-permuted same_key key_laws (λ p. key_of p.0 p.1) (λ p. p.0) (enumerate_from 0 cites)))

  pub places-final : map (λ o. o.place) (placed_blocks 0 (blocks_of cites)) ≡ final_order cites
  places-final = places-blocks 0 (blocks_of cites) ∙ numbers-blocks (block_keys cites)

  placed-final : placed_blocks 0 (blocks_of cites) ≡ flat_map (λ key. placed_block (block_index cites key) (map (λ p. p.0) (block cites key))) (block_keys cites)
  placed-final =
      indexed (block_keys cites) (λ key. map (λ p. p.0) (block cites key)) [] (block_keys cites) 0 refl
      (NoTwoEqual-distinct same_key key_laws (map (λ p. key_of p.0 p.1) (enumerate_from 0 cites))) refl

-- the cites that were moved and marked are the grouped ones
module _ {E P X : Type 0} (view : X → ItemRender E P) (old now : List X) where
  pub grouped-all : (delimiter : Option (List ℕ)) (placed : List Placed) → placed ≡ placed_blocks 0 (blocks_of (map view old)) → IsPicked old (map (λ o. o.place) placed) now
      → all_marked delimiter placed (map view now) ≡ grouped_cites delimiter (map view old)
  grouped-all delimiter placed p h =
      let cites = map view old in
      let stand : Every (StandsAt view old) (flat_map (block cites) (block_keys cites)) =
      every-flat (StandsAt view old) (block cites) (λ key. every-filter (StandsAt view old) (λ p. same_key key (key_of p.0 p.1)) (enumerate_from 0 cites)
      (every-enumerated view old 0 old (λ k d w. let e : 0 + k ≡ k = omega arith in ap (λ j. get_or old j d) e))) (block_keys cites) in
      let moved : map view now ≡ map (λ w. w.1) (flat_map (block cites) (block_keys cites)) =
      picked-pairs view old (flat_map (block cites) (block_keys cites)) now
      (subst (λ order. IsPicked old order now) (ap (map (λ o. o.place)) p ∙ places-final cites) h) stand in
      (λ i. all_marked delimiter ((p ∙ placed-final cites) i) (moved i)) ∙ marked-blocks delimiter (block_index cites) (block cites) (block_keys cites)

  pub order-permuted : (placed : List Placed) → placed ≡ placed_blocks 0 (blocks_of (map view old)) → IsPermutation (range_with_len 0 (length old)) (map (λ o. o.place) placed)
  order-permuted placed p =
      subst (IsPermutation (range_with_len 0 (length old))) (sym (ap (map (λ o. o.place)) p ∙ places-final (map view old)))
      (subst (λ n. IsPermutation (range_with_len 0 n) (final_order (map view old))) (length-map old view) (final-permuted (map view old)))
