-- What is open in a stream whose quotes get their marks.
use Rattle.std.specs.Prelude.{◌≡◌, ℕ, suc, List, [], ◌∷◌, Some}
use Rattle.cite_pieces.specs.Nesting.{depth, edges}
use Rattle.cite_pieces.specs.declared.marked.Marker.{Marker}
use Rattle.cite_pieces.specs.declared.marked.Opened.{Opened}
use Rattle.cite_pieces.specs.declared.marked.Opened.TheVariants.{Marks, Quotes, Other}

-- how many of these stay wraps: quotes that got marks are texts now
abbrev pub wraps : List Opened → ℕ
wraps [] = 0
wraps (Marks ∷ opened) = wraps opened
wraps (Quotes ∷ opened) = suc (wraps opened)
wraps (Other ∷ opened) = suc (wraps opened)

-- so many are open in what is written
abbrev pub IsMarked : Marker → Type 0
IsMarked marker =
    depth 0 (edges marker.out.pieces.items) ≡ Some (wraps marker.«open».items)
