use Rattle.std.proofs.Common.{ap, ◌∙◌, arith}
use Rattle.std.specs.Prelude.{Some}
use Rattle.cite_pieces.proofs.Depths.{none_open}
use Rattle.cite_pieces.proofs.marked.marked.Goals as goal

pub loop-piece-preserved : goal.loop-piece-preserved
loop-piece-preserved c = c.in_ok-read.ensures c.loop-piece.invariant

pub returns : goal.returns
returns c = record {
  nested =
      c.loop.invariant.0
      ∙ ap (λ n. Some n) (none_open c.loop.marker.«open».items
      (omega (arith, c.loop.invariant.1, c.loop-test.false, c.loop.auto.counter-end)));
}
