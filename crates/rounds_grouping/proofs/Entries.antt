-- The code's blocks by their keys.
use Rattle.std.proofs.Common.{◌≡◌, ℕ, zero, suc, ◌+◌, ◌<◌, ◌≤◌, Bool, true, false, cond, not, nat_lt, Some, None, List, [], ◌∷◌, ◌++◌, map, length, take, get_or, refl, ap, ◌∙◌, sym, arith}
use Rattle.std.specs.Prelude.{Option, Vec}
use Rattle.std.specs.List.{enumerate_from, position, position_or_len}
use Rattle.std.proofs.lemmas.Bool.Decides.{nat_tests}
use Rattle.std.proofs.lemmas.List.{map-append, take_more}
use Rattle.std.proofs.lemmas.Grind.{common_steps}
use Rattle.std.proofs.Math.ListN.{length-map, set}
use Rattle.list_lemmas.proofs.Members.{enumerate-push}
use Rattle.ordered_set.specs.Keys.{with_key}
use Rattle.ordered_set.proofs.Adding.{with-new}
use Rattle.driver_passes.specs.Renders.{ItemRender}
use Rattle.rounds_grouping.specs.BlockKeys.{BlockKey, key_of, same_key}
use Rattle.rounds_grouping.specs.Steps.{blocks_of, keyed, key_view, with_place}
use Rattle.rounds_grouping.specs.contracts.blocks.KeyPartialEq.TheImpl as key_eq
use Rattle.rounds_grouping.specs.declared.blocks.Key.{Key}
use Rattle.rounds_grouping.proofs.Classes.{added, classes, classes-push}
use Rattle.rounds_grouping.proofs.KeyLaws.{key_laws, same, test_is}

module _ {A : Type 0} (key : Key) (k : ℕ) where
  -- a place is pushed in the block at i, which is that of the key
  pub pushed : (ks : List Key) (ps : List (Vec ℕ A)) (i : ℕ) (v w : Vec ℕ A) → length ks ≡ length ps → i ≡ position_or_len (same key) ks → i < length ks
      → v ≡ get_or ps i v → w.items ≡ v.items ++ k ∷ [] → keyed ks (set ps i w) ≡ with_place (keyed ks ps) (key_view key) k
  pushed [] ps i v w l p h at e = absurd (omega (arith, h))
  pushed (x ∷ ks) [] i v w l p h at e = absurd (omega (arith, l))
  pushed (x ∷ ks) (q ∷ ps) zero v w l p h at e = by (same key x) refl p
    where
      by : (b : Bool) → same key x ≡ b → zero ≡ cond (not b) (1 + position_or_len (same key) ks) 0
          → ((key_view x, w.items) ∷ keyed ks ps) ≡ with_place (keyed (x ∷ ks) (q ∷ ps)) (key_view key) k
      by true t p = rw (t) (ap (λ ns. (key_view x, ns) ∷ keyed ks ps) (e ∙ ap (λ u. u.items ++ k ∷ []) at))
      by false t p = absurd (omega (arith, p))
  pushed (x ∷ ks) (q ∷ ps) (suc i) v w l p h at e = by (same key x) refl p (pushed ks ps i v w (omega (arith, l)))
    where
      by : (b : Bool) → same key x ≡ b → suc i ≡ cond (not b) (1 + position_or_len (same key) ks) 0
          → (i ≡ position_or_len (same key) ks → i < length ks → v ≡ get_or ps i v → w.items ≡ v.items ++ k ∷ [] → keyed ks (set ps i w) ≡ with_place (keyed ks ps) (key_view key) k)
          → ((key_view x, q.items) ∷ keyed ks (set ps i w)) ≡ with_place (keyed (x ∷ ks) (q ∷ ps)) (key_view key) k
      by true t p r = absurd (omega (arith, p))
      by false t p r = rw (t) (ap (λ bs. (key_view x, q.items) ∷ bs) (r (omega (arith, p)) (omega (arith, h)) at e))

  -- a new block comes last
  pub inserted : (ks : List Key) (ps : List (Vec ℕ A)) (w : Vec ℕ A) → length ks ≡ length ps → length ks ≤ position_or_len (same key) ks → w.items ≡ k ∷ []
      → keyed (ks ++ key ∷ []) (ps ++ w ∷ []) ≡ with_place (keyed ks ps) (key_view key) k
  inserted [] [] w l h e = ap (λ ns. (key_view key, ns) ∷ []) e
  inserted [] (q ∷ ps) w l h e = absurd (omega (arith, l))
  inserted (x ∷ ks) [] w l h e = absurd (omega (arith, l))
  inserted (x ∷ ks) (q ∷ ps) w l h e = by (same key x) refl h (inserted ks ps w (omega (arith, l)))
    where
      by : (b : Bool) → same key x ≡ b → suc (length ks) ≤ cond (not b) (1 + position_or_len (same key) ks) 0
          → (length ks ≤ position_or_len (same key) ks → w.items ≡ k ∷ [] → keyed (ks ++ key ∷ []) (ps ++ w ∷ []) ≡ with_place (keyed ks ps) (key_view key) k)
          → ((key_view x, q.items) ∷ keyed (ks ++ key ∷ []) (ps ++ w ∷ [])) ≡ with_place (keyed (x ∷ ks) (q ∷ ps)) (key_view key) k
      by true t h r = absurd (omega (arith, h))
      by false t h r = rw (t) (ap (λ bs. (key_view x, q.items) ∷ bs) (r (omega (arith, h)) e))

found-at : (n len i : ℕ) → Some i ≡ cond (nat_lt n len) (Some n) None → (i ≡ n) × (i < len)
found-at n len i h = by (nat_lt n len) refl h
  where
    by : (b : Bool) → nat_lt n len ≡ b → Some i ≡ cond b (Some n) None → (i ≡ n) × (i < len)
    by true t h = let e : i ≡ n = cc in (e, grind (arith, nat_tests))
    by false t h = cc

missing-at : (n len : ℕ) → None ≡ cond (nat_lt n len) (Some n) None → len ≤ n
missing-at n len h = by (nat_lt n len) refl h
  where
    by : (b : Bool) → nat_lt n len ≡ b → None ≡ cond b (Some n) None → len ≤ n
    by true t h = cc
    by false t h = grind (arith, nat_tests)

-- the index at which the code finds a key
pub found-key : (key : Key) (ks : List Key) (r : Option ℕ) (i : ℕ) → r ≡ position ((key_eq.ghosts).eq key) ks → r ≡ Some i → (i ≡ position_or_len (same key) ks) × (i < length ks)
found-key key ks r i e h = found-at (position_or_len (same key) ks) (length ks) i (sym h ∙ e ∙ ap (λ t. position t ks) (test_is key))

-- and where it finds none
pub missing-key : (key : Key) (ks : List Key) (r : Option ℕ) → r ≡ position ((key_eq.ghosts).eq key) ks → r ≡ None → length ks ≤ position_or_len (same key) ks
missing-key key ks r e h = missing-at (position_or_len (same key) ks) (length ks) (sym h ∙ e ∙ ap (λ t. position t ks) (test_is key))

pub keys-after : (key : Key) (ks new : List Key) (r : Option ℕ) → r ≡ position ((key_eq.ghosts).eq key) ks → r ≡ None → new ≡ with_key (key_eq.ghosts).eq ks key → new ≡ ks ++ key ∷ []
keys-after key ks new r e h n = n ∙ sym (with-new (key_eq.ghosts).eq ks key (sym e ∙ h))

length-take-at : {X : Type 0} (k : ℕ) (xs : List X) → k < length xs → length (take k xs) ≡ k
length-take-at k xs h = grind (arith, common_steps)

with-added : (bs : List (BlockKey × List ℕ)) (key : BlockKey) (k : ℕ) → added same_key bs key k ≡ with_place bs key k
with-added [] key k = refl
with-added (b ∷ bs) key k = ap (λ cs. cond (same_key key b.0) ((b.0, b.1 ++ k ∷ []) ∷ bs) (b ∷ cs)) (with-added bs key k)

module _ {E P : Type 0} where
  -- one more cite
  pub blocks-push : (cites : List (ItemRender E P)) (n : ℕ) (c : ItemRender E P) → length cites ≡ n → blocks_of (cites ++ c ∷ []) ≡ with_place (blocks_of cites) (key_of n c) n
  blocks-push cites n c h =
      let place : 0 + length cites ≡ n = omega (arith, h) in
      let pairs : enumerate_from 0 (cites ++ c ∷ []) ≡ enumerate_from 0 cites ++ (n, c) ∷ [] = enumerate-push 0 cites c ∙ ap (λ m. enumerate_from 0 cites ++ (m, c) ∷ []) place in
      ap (classes same_key key_laws (λ p. key_of p.0 p.1) (λ p. p.0)) pairs
      ∙ classes-push same_key key_laws (λ p. key_of p.0 p.1) (λ p. p.0) (enumerate_from 0 cites) (n, c)
      ∙ with-added (blocks_of cites) (key_of n c) n

  -- the cites of a request, one after another
  pub cites-more : {X : Type 0} (view : X → ItemRender E P) (items : List X) (k : ℕ) (x d : X) (old : List (BlockKey × List ℕ)) (key : BlockKey) → k < length items → x ≡ get_or items k d
      → old ≡ blocks_of (map view (take k items)) → key ≡ key_of k (view x) → with_place old key k ≡ blocks_of (map view (take (k + 1) items))
  cites-more view items k x d old key w h o q =
      let count : length (map view (take k items)) ≡ k = length-map (take k items) view ∙ length-take-at k items w in
      (λ i. with_place (o i) (q i) k) ∙ sym (blocks-push (map view (take k items)) k (view x) count)
      ∙ ap blocks_of (ap (λ y. map view (take k items) ++ y ∷ []) (ap view h) ∙ sym (map-append view (take k items) (get_or items k d ∷ [])) ∙ ap (map view) (sym (take_more items k d w)))
