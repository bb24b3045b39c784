use Rattle.std.proofs.Common.{◌+◌, ap, ◌∙◌}
use Rattle.cite_pieces.specs.Levels.{levels}
use Rattle.cite_pieces.specs.Nesting.{depth, edges}
use Rattle.cite_pieces.proofs.Levels.{nested_added}
use Rattle.cite_pieces.proofs.output.written.Goals as goal

pub returns : goal.returns
returns c h =
    c.in_ok-push_end.ensures 0
    (nested_added (edges c.push_pieces.new.self.pieces.items) (edges c.push_start.new.out.pieces.items) (edges c.in_ok-changed.changed.pieces.items)
    (0 + levels c.args.element) c.in_ok-push_pieces.ensures.edges (ap (λ es. depth 0 es) c.in_ok-changed.ensures ∙ h)
    (c.in_ok-push_start.ensures 0 (ap (λ ps. depth 0 (edges ps)) c.new-out.ensures)))
