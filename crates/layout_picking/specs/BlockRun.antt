-- For the code: names one after the other, of which the last waits until it is known whether
-- another follows, and blocks, where another one before them may have given a part.
use Rattle.std.specs.Prelude.{ℕ, zero, suc, List, [], ◌∷◌, ◌++◌, Bool, ◌||◌, Option, Some, None, if◌then◌else◌}
use Rattle.layout_picking.specs.Pieces.{LeafValue, Part, leaf_part}
use Rattle.layout_picking.specs.Picked.{gives}
use Rattle.layout_picking.specs.Names.{joint_part}

-- parts with a text before them, if there are any
abbrev pub before_parts : Option (List ℕ) → List Part
before_parts None = []
before_parts (Some words) = joint_part words ∷ []

abbrev pub preceded : Option (List ℕ) → List Part → List Part
preceded before [] = []
preceded before (p ∷ ps) = before_parts before ++ p ∷ ps

-- a text goes before each block that gives a part, where one before it did
abbrev pub blocks_after : List ℕ → Bool → List (List Part) → List Part
blocks_after words behind [] = []
blocks_after words behind (b ∷ bs) = preceded (if behind then Some words else None) b
    ++ blocks_after words (behind || gives b) bs

-- a name behind so many others, with a joint between
abbrev pub name_behind : LeafValue → ℕ → Part → List Part
name_behind joint zero p = p ∷ []
name_behind joint (suc n) p = leaf_part joint ∷ p ∷ []

-- the same of a name that waits, if one does
abbrev pub waiting_parts : LeafValue → ℕ → Option Part → List Part
waiting_parts joint n None = []
waiting_parts joint n (Some p) = name_behind joint n p
