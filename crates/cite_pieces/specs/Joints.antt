-- What opens and closes in a stream whose punctuation is being put in order.
use Rattle.std.specs.Prelude.{Bool, true, false, List, ◌++◌, map}
use Rattle.cite_pieces.specs.Nesting.{edges}
use Rattle.cite_pieces.specs.declared.punctuation.Edge.{Edge}
use Rattle.cite_pieces.specs.declared.punctuation.Edge.TheVariants as waiting
use Rattle.cite_pieces.specs.declared.punctuation.Joints.{Joints}

abbrev pub waiting_edge : Edge → Bool
waiting_edge (waiting.Open wrap) = true
waiting_edge waiting.Close = false
waiting_edge waiting.CloseQuotes = false

-- of what was read: first what is in order, then what is behind the last text
abbrev pub read_edges : Joints → List Bool
read_edges joints = edges joints.out.pieces.items ++ map waiting_edge joints.behind.items
