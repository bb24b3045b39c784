-- The pieces write the parts.
use Rattle.std.proofs.Common.{false, ap, ◌∙◌, []}
use Rattle.driver_lookup.specs.SourceView.{lookup_view}
use Rattle.layout_picking.specs.PiecesView.{tokens_of}
use Rattle.layout_context.specs.WritingState.{state}
use Rattle.csl_writing.specs.PieceRun.{Run, after_tokens}
use Rattle.csl_writing.specs.OpenNodes.{run_of}
use Rattle.csl_writing.proofs.PieceSteps.{run, parts_run}
use Rattle.csl_writing.proofs.parts.write_pieces.Goals as goal

pub returns : goal.returns
returns c = λ parts e.
    let k = lookup_view c.args.style.now in
    let w = c.args.writing.now in
    ap (λ (r : Run). r.written) (c.in_ok-write_all.ensures ∙ ap (λ ns. after_tokens k (tokens_of c.args.pieces.items) (run_of ns false w)) c.in_ok-nodes.ensures.items)
    ∙ ap (λ ts. (after_tokens k ts (run [] false (state w))).written) e
    ∙ parts_run k parts (state w)
