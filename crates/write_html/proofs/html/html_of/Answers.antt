use Rattle.std.proofs.Common.{refl}
use Rattle.write_html.proofs.Streams.{page_begun, piece_step}
use Rattle.write_html.proofs.html.html_of.Goals as goal

pub loop-piece-init : goal.loop-piece-init
loop-piece-init c = page_begun (record { alloc = c.args.alloc; markup = c.new.result; marks = c.args.marks; wraps = c.new-2.result }) c.args.pieces.now c.args.marks c.new.ensures.text c.new.ensures.takes_space c.new-2.ensures.items refl

pub loop-piece-preserved : goal.loop-piece-preserved
loop-piece-preserved c =
    piece_step c.loop-piece.page c.push.new.self c.args.pieces.now c.loop-piece.piece-index c.piece-item.result _ c.loop-piece-test.true c.piece-item.is c.in_ok-push.ensures c.loop-piece.invariant
