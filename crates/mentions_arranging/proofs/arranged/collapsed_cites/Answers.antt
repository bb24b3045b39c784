use Rattle.std.proofs.Common.{ap, ◌∙◌}
use Rattle.mentions_arranging.specs.Collapsing.{block_years, cite_ranges, years_with_ranges}
use Rattle.mentions_arranging.proofs.Walking.{in-both, same-items}
use Rattle.mentions_arranging.proofs.arranged.collapsed_cites.Goals as goal

pub returns : goal.returns
returns g c =
    let cites = c.args.cites.now in
    let by_blocks = c.deref.ensures.value ∙ c.in_ok-years.ensures ∙ ap (λ o. block_years c.args.facts.style o cites) c.collapse_of-collapse.ensures in
    let by_ranges = c.deref-2.ensures.value ∙ c.in_ok-ranges.ensures ∙ ap (λ o. cite_ranges o c.args.numbers.now cites) c.collapse_of-collapse.ensures in
    same-items c.years_with_ranges.result (λ v. v.items) _ _ (in-both years_with_ranges by_blocks by_ranges) c.years_with_ranges.ensures
