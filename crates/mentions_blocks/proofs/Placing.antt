-- Cites with their blocks, one more.
use Rattle.std.proofs.Common.{◌≡◌, ℕ, zero, suc, ◌+◌, ◌<◌, ◌≤◌, Bool, true, false, cond, ◌&&◌, Some, None, Option, List, [], ◌∷◌, ◌++◌, All, length, map, take, drop, get_or, refl, ap, sym, ◌∙◌, arith, add-one, take-append-drop, unwrap_or}
use Rattle.std.specs.Prelude.{find, nat_eq, option_map, slice_get}
use Rattle.std.specs.HashMap.{HashMap, get}
use Rattle.std.specs.Map.{lookup}
use Rattle.std.specs.List.{enumerate_from, range_with_len}
use Rattle.std.specs.Option.{option_map_or, option_or}
use Rattle.std.specs.Cmp.{nat_eq_equiv}
use Rattle.std.proofs.lemmas.Bool.{and_from}
use Rattle.std.proofs.lemmas.List.{get_or_default}
use Rattle.std.proofs.lemmas.List.Elements.{All-cons, All-nil}
use Rattle.std.proofs.lemmas.List.Folds.{find-append}
use Rattle.std.proofs.lemmas.Option.{slice_get_read}
use Rattle.mentions_ranges.specs.Stretches.{both}
use Rattle.list_lemmas.proofs.Stepping.{enumerate-next, made-next}
use Rattle.mentions_blocks.specs.Blocks.{are_in_one_block, block_of, is_parted, part, placed_cite}
use Rattle.mentions_blocks.specs.Firsts.{IsNoted, first_by, is_key, part_by, same_key}
use Rattle.mentions_blocks.specs.declared.blocks.BlockKey.{BlockKey}
use Rattle.mentions_blocks.specs.declared.blocks.GroupedCite.{GroupedCite}
use Rattle.mentions_blocks.specs.declared.blocks.PlacedCite.{PlacedCite}

-- the member before the one at k
abbrev pub before_at : {X : Type 0} → List X → ℕ → Option X
before_at xs zero = None
before_at xs (suc k) = slice_get xs k

pub stands : {X : Type 0} (xs : List X) (k : ℕ) (x : X) → k < length xs → x ≡ get_or xs k x → slice_get xs k ≡ Some x
stands xs k x within here = slice_get_read xs (length xs) k x refl within here

pub before-next : {X : Type 0} (xs : List X) (k : ℕ) (x d : X) → k < length xs → x ≡ get_or xs k d → Some x ≡ before_at xs (k + 1)
before-next xs k x d within given = sym (ap (before_at xs) (add-one k) ∙ stands xs k x within (given ∙ get_or_default xs k d x within))

-- the part of the cite before the one at k
abbrev pub part_before : List GroupedCite → ℕ → ℕ
part_before cites zero = zero
part_before cites (suc k) = part cites k

part-at : (cites : List GroupedCite) (k : ℕ) (c : GroupedCite) → slice_get cites k ≡ Some c → (p : ℕ) (b : Option GroupedCite) → p ≡ part_before cites k → b ≡ before_at cites k
    → part_by p k b c ≡ part cites k
part-at cites zero c s p b hp hb = ap (λ o. cond (both is_parted o (Some c)) zero p) hb ∙ hp
part-at cites (suc k) c s p b hp hb = λ i. cond (both is_parted (hb i) (sym s i)) (suc k) (hp i)

-- the first of the first k cites that has a key
abbrev pub known : List GroupedCite → ℕ → BlockKey → Option ℕ
known cites k q = option_map (λ p. p.0) (find (λ p. is_key q p.1.names (part cites p.0)) (take k (enumerate_from 0 cites)))

pub none-known : {S : Type 0} (firsts : HashMap BlockKey ℕ S) (cites : List GroupedCite) → firsts.entries ≡ [] → (q : BlockKey) → get same_key firsts q ≡ known cites 0 q
none-known firsts cites empty q = ap (λ es. lookup (same_key q) es) empty ∙ sym (by (enumerate_from 0 cites))
  where
    by : (ps : List (ℕ × GroupedCite)) → option_map (λ p. p.0) (find (λ p. is_key q p.1.names (part cites p.0)) (take 0 ps)) ≡ None
    by [] = refl
    by (p ∷ ps) = refl

find-none : {X : Type 0} (test : X → Bool) → ((x : X) → test x ≡ false) → (xs : List X) → find test xs ≡ None
find-none test none [] = refl
find-none test none (x ∷ xs) = ap (λ b. cond b (Some x) (find test xs)) (none x) ∙ find-none test none xs

none-both : (o : Option ℕ) (b : Bool) → (both nat_eq None o && b) ≡ false
none-both None b = refl
none-both (Some n) b = refl

pub part-kept : (cites : List GroupedCite) (k p : ℕ) → p ≡ part cites k → p ≡ part_before cites (k + 1)
part-kept cites k p h = h ∙ sym (ap (part_before cites) (add-one k))

module _ (cites : List GroupedCite) (k : ℕ) (c d : GroupedCite) (within : k < length cites) (given : c ≡ get_or cites k d) where
  here : c ≡ get_or cites k c
  here = given ∙ get_or_default cites k d c within

  pub part-next : (p : ℕ) (b : Option GroupedCite) → p ≡ part_before cites k → b ≡ before_at cites k → part_by p k b c ≡ part cites k
  part-next = part-at cites k c (stands cites k c within here)

  known-next : (q : BlockKey) → known cites (k + 1) q ≡ option_or (known cites k q) (cond (is_key q c.names (part cites k)) (Some k) None)
  known-next q =
      ap (λ l. option_map (λ p. p.0) (find (λ p. is_key q p.1.names (part cites p.0)) l)) (enumerate-next cites k c within here)
      ∙ ap (option_map (λ p. p.0)) (find-append (λ p. is_key q p.1.names (part cites p.0)) (take k (enumerate_from 0 cites)) ((k, c) ∷ []))
      ∙ by (find (λ p. is_key q p.1.names (part cites p.0)) (take k (enumerate_from 0 cites))) (is_key q c.names (part cites k))
    where
      by : (o : Option (ℕ × GroupedCite)) (b : Bool) → option_map (λ p. p.0) (option_or o (cond b (Some (k, c)) None)) ≡ option_or (option_map (λ p. p.0) o) (cond b (Some k) None)
      by (Some p) b = refl
      by None true = refl
      by None false = refl

  module _ {S : Type 0} (old : HashMap BlockKey ℕ S) (p : ℕ) (so_far : (q : BlockKey) → get same_key old q ≡ known cites k q) (is : p ≡ part cites k) where
    pub noted-next : (new : HashMap BlockKey ℕ S) → IsNoted old new p k c.names → (q : BlockKey) → get same_key new q ≡ known cites (k + 1) q
    noted-next new noted q = noted q ∙ (λ i. option_or (so_far q i) (cond (is_key q c.names (is i)) (Some k) None)) ∙ sym (known-next q)

    found-whole : (test : ℕ × GroupedCite → Bool) → test (k, c) ≡ true
        → unwrap_or (option_map (λ q. q.0) (find test (take k (enumerate_from 0 cites)))) k ≡ option_map_or (λ q. q.0) (find test (enumerate_from 0 cites)) k
    found-whole test own =
        let all = enumerate_from 0 cites in
        let behind = find test (drop (k + 1) all) in
        sym (ap (λ l. option_map_or (λ q. q.0) (find test l) k) (sym (take-append-drop (k + 1) all))
        ∙ ap (λ o. option_map_or (λ q. q.0) o k) (find-append test (take (k + 1) all) (drop (k + 1) all))
        ∙ ap (λ l. option_map_or (λ q. q.0) (option_or (find test l) behind) k) (enumerate-next cites k c within here)
        ∙ ap (λ o. option_map_or (λ q. q.0) (option_or o behind) k) (find-append test (take k all) ((k, c) ∷ []))
        ∙ ap (λ b. option_map_or (λ q. q.0) (option_or (option_or (find test (take k all)) (cond b (Some (k, c)) None)) behind) k) own
        ∙ by (find test (take k all)) behind)
      where
        by : (o r : Option (ℕ × GroupedCite)) → option_map_or (λ q. q.0) (option_or (option_or o (Some (k, c))) r) k ≡ unwrap_or (option_map (λ q. q.0) o) k
        by None r = refl
        by (Some q) r = refl

    pub block-next : first_by old p k c.names ≡ block_of cites (k, c)
    block-next = by c.names refl
      where
        by : (o : Option ℕ) → c.names ≡ o
            → first_by old p k o ≡ option_map_or (λ q. q.0) (find (λ q. both nat_eq o q.1.names && nat_eq (part cites k) (part cites q.0)) (enumerate_from 0 cites)) k
        by None e =
            sym (ap (λ o. option_map_or (λ q. q.0) o k)
            (find-none (λ q. both nat_eq None q.1.names && nat_eq (part cites k) (part cites q.0)) (λ q. none-both q.1.names (nat_eq (part cites k) (part cites q.0))) (enumerate_from 0 cites)))
        by (Some n) e =
            ap (λ o. unwrap_or o k) (so_far (record { names = n; part = p }))
            ∙ (λ i. unwrap_or (option_map (λ q. q.0) (find (λ q. both nat_eq (Some n) q.1.names && nat_eq (is i) (part cites q.0)) (take k (enumerate_from 0 cites)))) k)
            ∙ found-whole (λ q. both nat_eq (Some n) q.1.names && nat_eq (part cites k) (part cites q.0))
            (and_from (both nat_eq (Some n) c.names) (nat_eq (part cites k) (part cites k)) (ap (both nat_eq (Some n)) e ∙ nat_eq_equiv.refl n) (nat_eq_equiv.refl (part cites k)))

  pub placed-next : (found all : List PlacedCite) (b : ℕ) → found ≡ map (placed_cite cites) (take k (enumerate_from 0 cites)) → b ≡ block_of cites (k, c)
      → all ≡ found ++ record { place = k; block = b } ∷ [] → all ≡ map (placed_cite cites) (take (k + 1) (enumerate_from 0 cites))
  placed-next found all b so_far is pushed = pushed ∙ (λ i. so_far i ++ record { place = k; block = is i } ∷ []) ∙ sym (made-next cites k c within here (placed_cite cites))

-- each block begins at a place of the request
found-within : (test : ℕ × GroupedCite → Bool) (n d : ℕ) → d < n → (a : ℕ) (xs : List GroupedCite) → a + length xs ≤ n → option_map_or (λ q. q.0) (find test (enumerate_from a xs)) d < n
found-within test n d h a [] le = h
found-within test n d h a (x ∷ xs) le =
    let here : a < n = omega arith in
    by (test (a, x)) here (found-within test n d h (a + 1) xs (omega arith))
  where
    by : (b : Bool) → a < n → option_map_or (λ q. q.0) (find test (enumerate_from (a + 1) xs)) d < n → option_map_or (λ q. q.0) (cond b (Some (a, x)) (find test (enumerate_from (a + 1) xs))) d < n
    by true w r = w
    by false w r = r

made-within : (f : ℕ × GroupedCite → PlacedCite) (n : ℕ) → ((p : ℕ × GroupedCite) → p.0 < n → (f p).block < n) → (a : ℕ) (xs : List GroupedCite) → a + length xs ≤ n
    → All (λ c. c.block < n) (map f (enumerate_from a xs))
made-within f n h a [] le = All-nil (λ c. c.block < n)
made-within f n h a (x ∷ xs) le =
    All-cons (λ c. c.block < n) (f (a, x)) (map f (enumerate_from (a + 1) xs)) (h (a, x) (omega arith)) (made-within f n h (a + 1) xs (omega arith))

pub blocks-within : (cites : List GroupedCite) → All (λ c. c.block < length cites) (map (placed_cite cites) (enumerate_from 0 cites))
blocks-within cites =
    made-within (placed_cite cites) (length cites) (λ p h. found-within (are_in_one_block cites p) (length cites) p.0 h 0 cites (omega arith)) 0 cites (omega arith)

-- each place stands once in them
pub places-from : (cites : List GroupedCite) (a : ℕ) (xs : List GroupedCite) → map (λ c. c.place) (map (placed_cite cites) (enumerate_from a xs)) ≡ range_with_len a (length xs)
places-from cites a [] = refl
places-from cites a (x ∷ xs) = ap (λ l. a ∷ l) (places-from cites (a + 1) xs)
