use Rattle.std.proofs.Common.{ap, ◌∙◌}
use Rattle.mentions_arranging.specs.Arranged.{arranged_by_years}
use Rattle.mentions_arranging.specs.Collapsing.{collapsed_cites}
use Rattle.mentions_arranging.specs.Positioned.{positioned_cites}
use Rattle.mentions_arranging.proofs.Walking.{in-both, same-items}
use Rattle.mentions_arranging.proofs.arranged.arranged_request.Goals as goal

pub returns : goal.returns
returns g c =
    let cites = c.in_ok-cites.ensures ∙ ap (λ cs. positioned_cites cs c.args.positions.now) c.deref.ensures.value in
    let years = c.in_ok-years.ensures ∙ ap (collapsed_cites c.args.request.now.facts c.args.numbers.now) (c.deref-2.ensures.value ∙ cites) in
    same-items c.arranged_by_years.result (λ v. v.items) _ _ (in-both arranged_by_years (c.deref-3.ensures.value ∙ cites) (c.deref-4.ensures.value ∙ years)) c.arranged_by_years.ensures
