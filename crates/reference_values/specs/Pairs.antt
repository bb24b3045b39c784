-- What stands beside variables.
use Rattle.std.specs.Prelude.{Bool, List, Option, find, option_map}

-- what stands beside the variable, in the first pair that has it
abbrev pub value_at : {V T : Type 0} → (V → V → Bool) → List (V × T) → V → Option T
value_at same pairs variable = option_map (λ p. p.1) (find (λ p. same p.0 variable) pairs)
