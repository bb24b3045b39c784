-- What the pieces that are left make of the context is what all make of it.
use Rattle.std.proofs.Common.{◌≡◌, drop}
use Rattle.driver_lookup.specs.SourceView.{lookup_view}
use Rattle.layout_context.specs.WritingState.{state, heights}
use Rattle.layout_context.specs.Wording.{chunks_pushed}
use Rattle.layout_context.proofs.wording.push_chunked.Given as goal

abbrev pub invariant-loop-chunk : goal.invariant-loop-chunk
invariant-loop-chunk l =
    record {
      rest : chunks_pushed (lookup_view l.style) (drop l.chunk-index l.chunk-items) (state l.writing)
          ≡ chunks_pushed (lookup_view l.style) l.chunk-items (state l.initial.writing);
      heights : heights (state l.writing) ≡ heights (state l.initial.writing);
    }
