use Rattle.std.proofs.Common.{◌∙◌, ◌∷◌, [], ◌++◌, ap}
use Rattle.write_html.specs.Page.{are_quotes, with_pieces_in}
use Rattle.write_html.proofs.Streams.{are_quotes-push}
use Rattle.write_html.proofs.html.Page.open.Goals as goal

pub returns : goal.returns
returns c more =
    ap (λ q. with_pieces_in c.begin.new.self q more)
    (ap are_quotes (c.in_ok-push.ensures.items ∙ ap (λ ws. ws.items ++ c.in_ok-open.open ∷ []) c.begin.ensures.wraps)
    ∙ are_quotes-push c.args.self.now.wraps.items c.in_ok-open.open)
    ∙ c.in_ok-open.ensures.text more
