use Rattle.std.proofs.Common.{ap, sym, ◌∙◌, append-nil}
use Rattle.cite_pieces.specs.Nesting.{edges}
use Rattle.cite_pieces.proofs.Joined.{edge_written}
use Rattle.cite_pieces.proofs.punctuation.Joints.write_last.Goals as goal

pub loop-edge-init : goal.loop-edge-init
loop-edge-init c = record {
  edges = c.write_text.ensures.edges ∙ sym (append-nil (edges c.args.self.now.out.pieces.items));
  behind = ap (λ v. v.items) c.replace-edge-items.ensures.after ∙ c.new.ensures.items;
}

pub loop-edge-preserved : goal.loop-edge-preserved
loop-edge-preserved c = record {
  edges = edge_written (edges c.args.self.now.out.pieces.items) (edges c.write_edge.new.self.out.pieces.items)
      (edges c.loop-edge.self.out.pieces.items) c.loop-edge.yielded c.in-Some.edge
      c.in_ok-write_edge.ensures.edges c.loop-edge.invariant.edges;
  behind = ap (λ v. v.items) c.write_edge.ensures.behind ∙ c.loop-edge.invariant.behind;
}
