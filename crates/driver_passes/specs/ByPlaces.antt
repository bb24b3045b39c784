-- A list whose members are changed by their places.
use Rattle.std.specs.Prelude.{ℕ, List, map}
use Rattle.std.specs.List.{enumerate_from}

-- each member changed by its place
abbrev pub by_places : {X : Type 0} → (ℕ → X → X) → List X → List X
by_places change xs = map (λ p. change p.0 p.1) (enumerate_from 0 xs)
