-- For the code: blocks as lists of places, and where each cite goes.
use Rattle.std.specs.Prelude.{◌≡◌, ℕ, ◌+◌, true, false, List, [], ◌∷◌, ◌++◌, Option, None, Some, if◌then◌else◌, length, map, vec_len}
use Rattle.driver_passes.specs.Renders.{ItemRender}
use Rattle.rounds_grouping.specs.BlockKeys.{BlockKey, named, alone, is_named, same_key}
use Rattle.rounds_grouping.specs.Blocks.{block, block_keys, with_block}
use Rattle.rounds_grouping.specs.declared.blocks.Blocks.{Blocks}
use Rattle.rounds_grouping.specs.declared.blocks.Key.{Key}
use Rattle.rounds_grouping.specs.declared.blocks.Key.TheVariants as key
use Rattle.rounds_grouping.specs.declared.blocks.Placed.{Placed}
use Rattle.std.specs.declared.vec.Vec.{Vec}

abbrev pub key_view : Key → BlockKey
key_view (key.Named names) = named names
key_view (key.Alone k) = alone k

-- keys, each with the places of its block
abbrev pub keyed : {A : Type 0} → List Key → List (Vec ℕ A) → List (BlockKey × List ℕ)
keyed [] ps = []
keyed (k ∷ ks) [] = []
keyed (k ∷ ks) (p ∷ ps) = (key_view k, p.items) ∷ keyed ks ps

abbrev pub blocks_view : Blocks → List (BlockKey × List ℕ)
blocks_view blocks = keyed blocks.keys.keys blocks.places.items

-- each key has its places
abbrev pub IsPaired : Blocks → Type 0
IsPaired blocks = length blocks.keys.keys ≡ vec_len blocks.places

-- a place added to the block of its key, which comes last where there is none
abbrev pub with_place : List (BlockKey × List ℕ) → BlockKey → ℕ → List (BlockKey × List ℕ)
with_place [] key k = (key, k ∷ []) ∷ []
with_place (b ∷ bs) key k = if same_key key b.0 then (b.0, b.1 ++ k ∷ []) ∷ bs
    else b ∷ with_place bs key k

-- where the cites of a block go: each behind the one before, but for the first
abbrev pub placed_block : Option ℕ → List ℕ → List Placed
placed_block group [] = []
placed_block group (p ∷ ps) =
    record { place = p; group = group; follows = false }
    ∷ map (λ q. record { place = q; group = group; follows = true }) ps

-- where the cites of all blocks go, where those with names have the indexes from g on
abbrev pub placed_blocks : ℕ → List (BlockKey × List ℕ) → List Placed
placed_blocks g [] = []
placed_blocks g (b ∷ bs) = placed_block (if is_named b.0 then Some g else None) b.1
    ++ placed_blocks (if is_named b.0 then g + 1 else g) bs

-- a cite marked as one of its block
abbrev pub marked_in_block : {E P : Type 0} → Option (List ℕ) → Placed → ItemRender E P
    → ItemRender E P
marked_in_block delimiter placed c =
    with_block (if placed.follows then delimiter else None) placed.group c

-- cites marked one by one, as far as the list goes
abbrev pub all_marked : {E P : Type 0} → Option (List ℕ) → List Placed → List (ItemRender E P)
    → List (ItemRender E P)
all_marked delimiter [] cs = cs
all_marked delimiter (o ∷ os) [] = []
all_marked delimiter (o ∷ os) (c ∷ cs) = marked_in_block delimiter o c ∷ all_marked delimiter os cs

-- the blocks of a request's cites by their keys
abbrev pub blocks_of : {E P : Type 0} → List (ItemRender E P) → List (BlockKey × List ℕ)
blocks_of cites = map (λ key. (key, map (λ p. p.0) (block cites key))) (block_keys cites)
