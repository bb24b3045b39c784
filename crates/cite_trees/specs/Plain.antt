-- The plain text of streams, and of trees that are being built.
use Rattle.std.specs.Prelude.{ℕ, List, [], ◌∷◌, ◌++◌, flat_map, string_bytes}
use Rattle.cite_pieces.specs.declared.piece.Piece.{Piece}
use Rattle.cite_pieces.specs.declared.piece.Piece.TheVariants.{Text, Open, Close}
use Rattle.cite_trees.specs.declared.trees.Builder.{Builder}
use Rattle.cite_trees.specs.declared.trees.Opened.{Opened}
use Rattle.cite_trees.specs.declared.trees.Opened.TheVariants.{Element}
use Rattle.value_trees.specs.Tree.{plain}

-- the texts of a stream, in order
abbrev pub texts : List Piece → List ℕ
texts [] = []
texts (Text text ∷ pieces) = string_bytes text ++ texts pieces
texts (Open wrap ∷ pieces) = texts pieces
texts (Close ∷ pieces) = texts pieces

-- the text before an element that is open; around other wraps there is none
abbrev pub before_opened : Opened → List ℕ
before_opened (Element display meta before) = plain before
before_opened _ = []

abbrev pub before_all : List Opened → List ℕ
before_all opened = flat_map before_opened opened

-- the text of a tree that is being built
abbrev pub written : Builder → List ℕ
written builder =
    before_all builder.«open».items ++ (plain builder.children ++ string_bytes builder.text)
