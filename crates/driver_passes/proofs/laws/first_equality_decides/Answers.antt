use Rattle.std.proofs.Common.{ap}
use Rattle.std.specs.Cmp.{unsigned_Decides}
use Rattle.value_sources.specs.Finds.{both, and-true}
use Rattle.driver_passes.proofs.laws.first_equality_decides.Goals as goal

pub returns : goal.returns
returns c a b =
    let certain = c.state_equality_decides.ensures.certain a.certain b.certain in
    let number = unsigned_Decides a.number b.number in
    let ibid = c.state_equality_decides.ensures.ibid a.ibid b.ibid in (
      λ e. let p = both _ _ e in let q = both _ _ p.1 in λ i. record { certain = certain.0 p.0 i; number = number.0 q.0 i; ibid = ibid.0 q.1 i },
      λ e. and-true _ _ (certain.1 (ap (λ v. v.certain) e)) (and-true _ _ (number.1 (ap (λ v. v.number) e)) (ibid.1 (ap (λ v. v.ibid) e))),
    )
