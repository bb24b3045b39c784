-- Where the cites of blocks go, as they are pushed one after another.
use Rattle.std.proofs.Common.{◌≡◌, ℕ, ◌+◌, ◌<◌, ◌≤◌, Bool, true, false, List, [], ◌∷◌, ◌++◌, drop, take, length, Some, None, arith, get_or, refl, ap, ◌∙◌, sym, append_assoc}
use Rattle.std.specs.Prelude.{Option, Vec, if◌then◌else◌}
use Rattle.std.proofs.lemmas.List.{drop_more, take_more, map-append}
use Rattle.rounds_grouping.specs.Steps.{keyed, key_view, placed_block, placed_blocks}
use Rattle.rounds_grouping.specs.BlockKeys.{is_named}
use Rattle.rounds_grouping.specs.declared.blocks.Key.{Key}
use Rattle.rounds_grouping.specs.declared.blocks.Placed.{Placed}

abbrev pub is_more : List ℕ → Bool
is_more [] = false
is_more (x ∷ xs) = true

pub more-of : (xs : List ℕ) (x : ℕ) → true ≡ is_more (xs ++ x ∷ [])
more-of [] x = refl
more-of (y ∷ ys) x = refl

placed-push : (group : Option ℕ) (xs : List ℕ) (x : ℕ) → placed_block group (xs ++ x ∷ []) ≡ placed_block group xs ++ record { place = x; group = group; follows = is_more xs } ∷ []
placed-push group [] x = refl
placed-push group (y ∷ ys) x = ap (λ os. record { place = y; group = group; follows = false } ∷ os) (map-append (λ q. record { place = q; group = group; follows = true }) ys (x ∷ []))

-- one more cite of a block
pub block-more : (group : Option ℕ) (places : List ℕ) (i x : ℕ) (before now more : List Placed) (follows : Bool) → i < length places → x ≡ get_or places i 0
    → now ≡ before ++ placed_block group (take i places) → follows ≡ is_more (take i places)
    → more ≡ now ++ record { place = x; group = group; follows = follows } ∷ []
    → (more ≡ before ++ placed_block group (take (i + 1) places)) × (true ≡ is_more (take (i + 1) places))
block-more group places i x before now more follows w h n f m =
    let front : take (i + 1) places ≡ take i places ++ x ∷ [] = take_more places i 0 w ∙ ap (λ y. take i places ++ y ∷ []) (sym h) in (
      m ∙ (λ j. n j ++ record { place = x; group = group; follows = f j } ∷ []) ∙ append_assoc before (placed_block group (take i places)) (record { place = x; group = group; follows = is_more (take i places) } ∷ [])
          ∙ ap (λ os. before ++ os) (sym (placed-push group (take i places) x) ∙ ap (placed_block group) (sym front)),
      more-of (take i places) x ∙ ap is_more (sym front),
    )

-- the blocks from the next one on
blocks-here : {A : Type 0} (ks : List Key) (ps : List (Vec ℕ A)) (b : ℕ) (x : Key) (p : Vec ℕ A) → b < length ks → length ks ≡ length ps → x ≡ get_or ks b x → p ≡ get_or ps b p
    → keyed (drop b ks) (drop b ps) ≡ (key_view x, p.items) ∷ keyed (drop (b + 1) ks) (drop (b + 1) ps)
blocks-here ks ps b x p w l k q =
    let keys = drop_more ks b x w ∙ ap (λ y. y ∷ drop (b + 1) ks) (sym k) in
    let places = drop_more ps b p (omega (arith, w, l)) ∙ ap (λ y. y ∷ drop (b + 1) ps) (sym q) in
    λ i. keyed (keys i) (places i)

-- one more block
pub blocks-more : {A : Type 0} (ks : List Key) (ps : List (Vec ℕ A)) (b next n : ℕ) (x : Key) (p : Vec ℕ A) (order more all : List Placed) → b < length ks → length ks ≡ length ps
    → x ≡ get_or ks b x → p ≡ get_or ps b p → order ++ placed_blocks next (keyed (drop b ks) (drop b ps)) ≡ all
    → more ≡ order ++ placed_block (if is_named (key_view x) then Some next else None) p.items → n ≡ (if is_named (key_view x) then next + 1 else next)
    → more ++ placed_blocks n (keyed (drop (b + 1) ks) (drop (b + 1) ps)) ≡ all
blocks-more ks ps b next n x p order more all w l k q h m e =
    let rest = keyed (drop (b + 1) ks) (drop (b + 1) ps) in
    (λ i. m i ++ placed_blocks (e i) rest)
    ∙ append_assoc order (placed_block (if is_named (key_view x) then Some next else None) p.items) (placed_blocks (if is_named (key_view x) then next + 1 else next) rest)
    ∙ ap (λ bs. order ++ placed_blocks next bs) (sym (blocks-here ks ps b x p w l k q)) ∙ h

pub next-bound : (t : Bool) (next b n : ℕ) → n ≡ (if t then next + 1 else next) → next ≤ b → n ≤ b + 1
next-bound true next b n e h = omega arith
next-bound false next b n e h = omega arith
