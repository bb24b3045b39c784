-- Look-up in a list: by a test, and in pairs by a key.
use Rattle.std.specs.Prelude.{ℕ, suc, Bool, List, [], ◌∷◌, Option, None, Some, option_map, if◌then◌else◌}

-- the value of the first pair with this key
abbrev pub first_value : {K V : Type 0} → (K → K → Bool) → K → List (K × V) → Option V
first_value eq key [] = None
first_value eq key (p ∷ ps) = if eq p.0 key then Some p.1 else first_value eq key ps

-- the place of the first element that passes
abbrev pub first_at : {A : Type 0} → (A → Bool) → List A → Option ℕ
first_at test [] = None
first_at test (x ∷ xs) = if test x then Some 0 else option_map (λ i. suc i) (first_at test xs)
