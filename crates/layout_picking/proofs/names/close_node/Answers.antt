use Rattle.std.proofs.Common.{◌∙◌, ap, sym}
use Rattle.std.proofs.lemmas.List.{take-map}
use Rattle.layout_picking.specs.PiecesView.{token_of, tokens_of}
use Rattle.layout_picking.proofs.names.close_node.Goals as goal

pub returns-else-given : goal.returns-else-given
returns-else-given c = rw c.if-given.false (ap tokens_of c.truncate.ensures.items ∙ sym (take-map token_of c.args.start c.args.pieces.now.items))
