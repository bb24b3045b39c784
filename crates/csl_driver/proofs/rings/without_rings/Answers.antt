use Rattle.std.proofs.Common.{Some, subst}
use Rattle.value_styles.specs.Ring.{HasNoRing, IsFirstRing}
use Rattle.driver_lookup.specs.Lookup.{Source}
use Rattle.csl_driver.proofs.rings.without_rings.Goals as goal

pub returns-in-Some-2-clause-refused : goal.returns-in-Some-2-clause-refused
returns-in-Some-2-clause-refused g c = (
  c.in_ok-k.ensures.none c.in_default.is,
  subst (λ (s : Source). IsFirstRing s.style.macros (Some c.in-Some-2.macro_index)) c.source.ensures
      (subst (IsFirstRing _) c.in-Some-2.is c.in_ok-macro_index.ensures.first),
)

pub invariant_of-result : goal.invariant_of-result
invariant_of-result g c = record { no_ring = c.in_ok-k.ensures.none c.in_default.is }

pub invariant_of-result-2 : goal.invariant_of-result-2
invariant_of-result-2 g c =
    record { no_ring = subst (λ (s : Source). HasNoRing s.style.macros) c.source.ensures (c.in_ok-macro_index.ensures.none c.in_default-2.is) }
