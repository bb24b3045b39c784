-- For the code: the first cites of parts that have certain names.
use Rattle.std.specs.Prelude.{◌≡◌, ℕ, Bool, ◌&&◌, Option, None, Some, if◌then◌else◌, nat_eq, unwrap_or}
use Rattle.std.specs.HashMap.{HashMap, get}
use Rattle.std.specs.Option.{option_or}
use Rattle.mentions_ranges.specs.Stretches.{both}
use Rattle.mentions_blocks.specs.Blocks.{is_parted}
use Rattle.mentions_blocks.specs.contracts.blocks.BlockKeyPartialEq.TheImpl as key_eq
use Rattle.mentions_blocks.specs.declared.blocks.BlockKey.{BlockKey}
use Rattle.mentions_blocks.specs.declared.blocks.GroupedCite.{GroupedCite}

abbrev pub same_key : BlockKey → BlockKey → Bool
same_key = (key_eq.ghosts).eq

-- the place at which a part begins, from that of the cite before
abbrev pub part_by : ℕ → ℕ → Option GroupedCite → GroupedCite → ℕ
part_by before place b c = if both is_parted b (Some c) then place else before

-- these are the names and the part of a key
abbrev pub is_key : BlockKey → Option ℕ → ℕ → Bool
is_key q names part = both nat_eq (Some q.names) names && nat_eq q.part part

module _ {S : Type 0} where
  -- the place of the first cite of a block, by those that were noted
  abbrev pub first_by : HashMap BlockKey ℕ S → ℕ → ℕ → Option ℕ → ℕ
  first_by firsts part place None = place
  first_by firsts part place (Some names) =
      unwrap_or (get same_key firsts (record { names = names; part = part })) place

  -- a cite with these names was noted, if none of its block was before
  abbrev pub IsNoted : HashMap BlockKey ℕ S → HashMap BlockKey ℕ S → ℕ → ℕ → Option ℕ → Type 0
  IsNoted old new part place names = (q : BlockKey) → get same_key new q
      ≡ option_or (get same_key old q) (if is_key q names part then Some place else None)
