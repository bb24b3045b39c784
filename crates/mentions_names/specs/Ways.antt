-- For the code: where the names of a mention lead, one after the other. Each step from a node by
-- a look has a number, that of the first equal step among all that were made.
use Rattle.std.specs.Prelude.{◌≡◌, ◌+◌, ◌<◌, ⊤, ℕ, Bool, true, List, [], ◌++◌, Option, None, Some, fold, length, map, slice_get, take}
use Rattle.std.specs.List.{list_any, position_or_len, range_with_len}
use Rattle.mentions_names.specs.contracts.ways.StepPartialEq.TheImpl as step_eq
use Rattle.mentions_names.specs.declared.look.Look.{Look}
use Rattle.mentions_names.specs.declared.reach.Reach.{Reach}
use Rattle.mentions_names.specs.declared.rivals.Node.{Node}
use Rattle.mentions_names.specs.declared.ways.Step.{Step}
use Rattle.mentions_names.specs.declared.ways.Stop.{Stop}
use Rattle.mentions_names.specs.declared.ways.Way.{Way}

abbrev pub same_step : Step → Step → Bool
same_step = (step_eq.ghosts).eq

abbrev pub step : Node → Look → Step
step n r = record { from = n; look = r }

module _ (steps : List Step) where
  -- the node behind a step
  abbrev pub next : Node → Look → Node
  next n r = Node.Step (position_or_len (same_step (step n r)) steps)

  -- where these names lead from a node
  abbrev pub lead : Node → List Look → Node
  lead n looks = fold next n looks

  -- the stop behind the first i names of a mention, before the next one if there is one
  abbrev pub stop_at : ℕ → List Look → ℕ → Stop
  stop_at g looks i = record { node = lead (Node.Start g) (take i looks); look = slice_get looks i }

  -- each of the first k steps of a mention was made
  abbrev pub AreMade : ℕ → List Look → ℕ → Type 0
  AreMade g looks k = (i : ℕ) (r : Look) → i < k → slice_get looks i ≡ Some r
      → list_any (same_step (step (lead (Node.Start g) (take i looks)) r)) steps ≡ true

  -- the stops of a mention, the last one behind all names; none where it is in no group
  abbrev pub stops_of : Option ℕ → List Look → List Stop
  stops_of None looks = []
  stops_of (Some g) looks = map (stop_at g looks) (range_with_len 0 (length looks + 1))

  abbrev pub way_of : Reach → Way
  way_of a =
      record { by_cite = a.by_cite; stops = stops_of a.group a.looks; occurs = a.occurs }

  -- all steps of a mention were made
  abbrev pub AllMadeBy : Option ℕ → List Look → Type 0
  AllMadeBy None looks = ⊤
  AllMadeBy (Some g) looks = AreMade g looks (length looks)

  abbrev pub AllMade : Reach → Type 0
  AllMade a = AllMadeBy a.group a.looks

-- more steps may have been made
pub record Extends (old new : List Step) : Type 0 where
  pub more : List Step
  pub is_more : new ≡ old ++ more
