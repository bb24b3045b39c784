-- A list cut into pieces.
use Rattle.std.specs.Prelude.{ℕ, List, [], ◌∷◌, take, drop}

-- a piece of each of these lengths, one behind the other, and what is left as the last one
abbrev pub cut : {T : Type 0} → List ℕ → List T → List (List T)
cut [] xs = xs ∷ []
cut (n ∷ ns) xs = take n xs ∷ cut ns (drop n xs)
