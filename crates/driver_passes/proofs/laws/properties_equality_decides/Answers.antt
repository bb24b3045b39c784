use Rattle.std.proofs.Common.{ap}
use Rattle.value_sources.specs.Finds.{both, and-true}
use Rattle.driver_passes.proofs.laws.properties_equality_decides.Goals as goal

pub returns : goal.returns
returns g c told a b =
    let certain = c.state_equality_decides.ensures.certain a.certain b.certain in
    let changing = c.equality_decides.ensures.speculative told a.speculative b.speculative in (
      λ e. let p = both _ _ e in λ i. record { certain = certain.0 p.0 i; speculative = changing.0 p.1 i },
      λ e. and-true _ _ (certain.1 (ap (λ v. v.certain) e)) (changing.1 (ap (λ v. v.speculative) e)),
    )
