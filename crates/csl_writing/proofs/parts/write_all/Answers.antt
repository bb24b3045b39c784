-- One more piece.
use Rattle.std.proofs.Common.{false, ap, sym, ◌∙◌, ◌∷◌, []}
use Rattle.std.proofs.lemmas.List.{map-append}
use Rattle.driver_lookup.specs.SourceView.{lookup_view}
use Rattle.layout_picking.specs.PiecesView.{token_of, tokens_of}
use Rattle.csl_writing.specs.PieceRun.{after_token, after_tokens}
use Rattle.csl_writing.specs.OpenNodes.{run_of}
use Rattle.csl_writing.proofs.PieceSteps.{after_tokens_more}
use Rattle.csl_writing.proofs.parts.write_all.Goals as goal

pub loop-piece-preserved : goal.loop-piece-preserved
loop-piece-preserved c =
    let k = lookup_view c.args.style.now in
    let begun = run_of c.args.nodes.now.items false c.args.writing.now in
    record {
      run = c.in_ok-after_part.ensures.done
          ∙ ap (after_token k (token_of c.in-Some.piece)) c.loop-piece.invariant.run
          ∙ sym (after_tokens_more k (tokens_of c.loop-piece.yielded) (token_of c.in-Some.piece) begun)
          ∙ ap (λ ts. after_tokens k ts begun) (sym (map-append token_of c.loop-piece.yielded (c.in-Some.piece ∷ [])));
      nested = c.in_ok-after_part.ensures.nested;
    }
