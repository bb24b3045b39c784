use Rattle.std.proofs.Common.{ap, ◌∙◌}
use Rattle.mentions_ranges.specs.NumberRanges.{number_ranges}
use Rattle.mentions_arranging.proofs.Walking.{same-items}
use Rattle.mentions_arranging.proofs.ranges.ranges_of_numbers.Goals as goal

pub returns : goal.returns
returns g c = same-items c.number_ranges.result (λ v. v.items) _ _ (ap number_ranges (c.deref.ensures.value ∙ c.in_ok-numbered.ensures)) c.number_ranges.ensures
