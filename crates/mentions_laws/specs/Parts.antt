-- The parts of a request's cites in their final order, without reading how they are found.
use Rattle.std.specs.Prelude.{◌≡◌, ◌⊎◌, ℕ, suc, ◌<◌, Bool, true, List, None, Some, nat_eq, slice_get}
use Rattle.mentions_ranges.specs.Stretches.{both}
use Rattle.mentions_blocks.specs.Parts.{shown_at}
use Rattle.mentions_blocks.specs.declared.parts.ShownCite.{ShownCite}

-- of cites, by their blocks and the names that they show
module _ (cites : List ShownCite) where
  -- the cites at k and behind it are of one block
  abbrev pub are_of_one_block : ℕ → Bool
  are_of_one_block k =
      both (λ b c. nat_eq b.block c.block) (slice_get cites k) (slice_get cites (suc k))

  -- the cite behind the one at k goes on with a part that begins here: the first cite of the part
  -- shows names, and this one, which is of the same block, shows them too, or none
  pub record GoesOn (first k : ℕ) : Type 0 where
    pub names : ℕ
    pub first_shows : shown_at cites first ≡ Some names
    pub one_block : are_of_one_block k ≡ true
    pub shows_none_or_them :
        (shown_at cites (suc k) ≡ None) ⊎ (shown_at cites (suc k) ≡ Some names)

  -- the parts, one after another, are all cites in their order
  pub record HasParts : Type 0 where
    -- where the part begins in which the cite at k stands
    pub begins : ℕ → ℕ
    -- the first one begins with the first cite
    pub first : begins 0 ≡ 0
    -- a cite goes on with the part of the cite before it where it can
    pub goes_on : (k : ℕ) → GoesOn (begins k) k → begins (suc k) ≡ begins k
    -- else it begins one
    pub begins_one : (k : ℕ) → (GoesOn (begins k) k → ⊥) → begins (suc k) ≡ suc k
    -- the names that the cites of a part show are equal
    pub same_names : (j k m n : ℕ) → begins j ≡ begins k → shown_at cites j ≡ Some m
        → shown_at cites k ≡ Some n → m ≡ n
    -- a part of two or more begins with a cite that shows names
    pub begins_with_names : (k : ℕ) → begins k < k → (n : ℕ) × (shown_at cites (begins k) ≡ Some n)
