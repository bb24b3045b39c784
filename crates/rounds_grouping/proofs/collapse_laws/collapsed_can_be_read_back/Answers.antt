use Rattle.rounds_grouping.proofs.ReadBack.{all-read-back}
use Rattle.rounds_grouping.proofs.collapse_laws.collapsed_can_be_read_back.Goals as goal

pub returns : goal.returns
returns g c = λ render. all-read-back render.request.style.citation.collapse render.request.style.citation render.items
