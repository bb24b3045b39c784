-- How what opens in a stream closes in it.
use Rattle.std.specs.Prelude.{◌≡◌, ℕ, zero, suc, Bool, true, false, List, [], ◌∷◌, Option, Some, None}
use Rattle.cite_pieces.specs.declared.piece.Piece.{Piece}
use Rattle.cite_pieces.specs.declared.piece.Piece.TheVariants.{Text, Open, Close}

-- where something opens in a stream (true), and where something closes, in order
abbrev pub edges : List Piece → List Bool
edges [] = []
edges (Text text ∷ pieces) = edges pieces
edges (Open wrap ∷ pieces) = true ∷ edges pieces
edges (Close ∷ pieces) = false ∷ edges pieces

-- how much is open behind them, where so much is open before them; none where one closes nothing
abbrev pub depth : ℕ → List Bool → Option ℕ
depth n [] = Some n
depth n (true ∷ es) = depth (suc n) es
depth zero (false ∷ es) = None
depth (suc n) (false ∷ es) = depth n es

-- each closing closes what opened before it, and all is closed at the end
abbrev pub IsNested : List Piece → Type 0
IsNested pieces = depth 0 (edges pieces) ≡ Some 0
