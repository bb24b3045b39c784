use Rattle.std.proofs.Common.{ap, ◌∙◌}
use Rattle.mentions_ranges.specs.SuffixStretches.{suffix_stretches}
use Rattle.mentions_arranging.proofs.Walking.{same-items}
use Rattle.mentions_arranging.proofs.ranges.stretches_of_suffixes.Goals as goal

pub returns : goal.returns
returns g c = same-items c.suffix_stretches.result (λ v. v.items) _ _ (ap (suffix_stretches c.args.ranges) (c.deref.ensures.value ∙ c.in_ok-suffixed.ensures)) c.suffix_stretches.ensures
