-- What is written so far is what the tokens so far give.
use Rattle.std.proofs.Common.{◌≡◌, false, length}
use Rattle.driver_lookup.specs.SourceView.{lookup_view}
use Rattle.layout_picking.specs.PiecesView.{tokens_of}
use Rattle.layout_context.specs.WritingState.{state}
use Rattle.csl_writing.specs.PieceRun.{after_tokens}
use Rattle.csl_writing.specs.OpenNodes.{IsNested, run_of}
use Rattle.csl_writing.proofs.parts.write_all.Given as goal

abbrev pub invariant-loop-piece : goal.invariant-loop-piece
invariant-loop-piece l =
    record {
      run : run_of l.nodes.items l.after_part l.writing
          ≡ after_tokens (lookup_view l.style) (tokens_of l.yielded) (run_of l.initial.nodes.items false l.initial.writing);
      nested : IsNested l.nodes.items (length (state l.writing).frames);
    }
