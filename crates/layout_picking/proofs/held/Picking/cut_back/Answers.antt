use Rattle.std.proofs.Common.{map, sym, ap, ◌∙◌, rules}
use Rattle.std.proofs.lemmas.List.{take-map}
use Rattle.layout_picking.specs.PiecesView.{token_of}
use Rattle.layout_picking.proofs.held.Picking.cut_back.Goals as goal

pub returns : goal.returns
returns c =
    let e = ap (map token_of) c.truncate.ensures.items ∙ sym (take-map token_of c.args.opened.before c.args.self.now.pieces.items) in
    search (rules, e)
