-- The open nodes of `src/` as plain data.
use Rattle.std.specs.Prelude.{◌≡◌, ℕ, Bool, ◌+◌, ◌*◌, ◌-◌, List, length, map, slice_get, Some}
use Rattle.csl_writing.specs.declared.open_node.OpenNode.{OpenNode}
use Rattle.layout_picking.specs.PiecesView.{node_view}
use Rattle.layout_context.specs.declared.writing.WritingContext.{WritingContext}
use Rattle.layout_context.specs.WritingState.{state}
use Rattle.csl_writing.specs.PieceRun.{OpenValue, Run}

abbrev pub open_view : OpenNode → OpenValue
open_view o = record { node = node_view o.node; formats = o.elem.formats }

abbrev pub open_views : List OpenNode → List OpenValue
open_views = map open_view

-- each open node has two frames, one upon another, of the topmost `height`
abbrev pub IsNested : List OpenNode → ℕ → Type 0
IsNested nodes height = (i : ℕ) (o : OpenNode) → slice_get nodes i ≡ Some o
    → o.prefix.0.frames + 2 * (length nodes - i) ≡ height

-- how far writing has come
abbrev pub run_of : List OpenNode → Bool → WritingContext → Run
run_of nodes after_part c =
    record { nodes = open_views nodes; after_part = after_part; written = state c }
