use Rattle.std.proofs.Common.{◌+◌, ap, sym, is_some}
use Rattle.cite_pieces.specs.Levels.{one_if}
use Rattle.cite_pieces.specs.Nesting.{edges}
use Rattle.cite_pieces.proofs.Levels.{by_sum}
use Rattle.cite_pieces.proofs.output.open_display.Goals as goal

pub returns-in-Some : goal.returns-in-Some
returns-in-Some c n h =
    by_sum c.open_if.result (edges c.open_if.new.out.pieces.items) (n + 1) (n + one_if (is_some c.args.display))
    (sym (ap (λ o. n + one_if (is_some o)) c.in-Some.is)) (c.open_if.ensures n h)
