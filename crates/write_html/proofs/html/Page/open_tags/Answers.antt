use Rattle.std.proofs.Common.{◌∙◌}
use Rattle.write_html.proofs.Streams.{on_ok_map, same_continued}
use Rattle.write_html.proofs.html.Page.open_tags.Goals as goal

pub returns-clause-text : goal.returns-clause-text
returns-clause-text c =
    on_ok_map c.open_from.result
    (λ e. same_continued _ _ _ _ (e ∙ c.in_ok-close_from.ensures.text) (c.open_from.ensures.takes_space ∙ c.close_from.ensures.takes_space))
    c.open_from.ensures.text
