use Rattle.std.proofs.Common.{◌≡◌, ap, map, subst, ◌∙◌}
use Rattle.std.specs.Result.{IfOk}
use Rattle.mentions_notes.specs.Repeats.{positions}
use Rattle.mentions_notes.specs.Requests.{requests_view}
use Rattle.mentions_arranging.proofs.repeating.final_positions.Goals as goal

pub returns : goal.returns
returns g c =
    subst (λ rs. IfOk c.positions_of.result (λ v. map (λ p. p.items) v.items ≡ positions g.L.PartialEq.eq rs)) (ap requests_view c.deref.ensures.value ∙ c.in_ok-repeating.ensures) c.positions_of.ensures
