use Rattle.std.proofs.Common.{◌++◌, ap, ◌∙◌}
use Rattle.std.specs.Prelude.{Some, option_to_list}
use Rattle.cite_pieces.specs.Marked.{wraps}
use Rattle.cite_pieces.proofs.marked.Marker.close.Goals as goal

pub returns-in-Some-clause-marked : goal.returns-in-Some-clause-marked
returns-in-Some-clause-marked c h =
    c.end.ensures.marked
    (h ∙ ap (λ os. Some (wraps os))
    (c.pop.ensures.items ∙ ap (λ o. c.pop.new.self.items ++ option_to_list o) c.in-Some.is))
