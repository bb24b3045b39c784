use Rattle.std.proofs.Common.{Some, refl, subst}
use Rattle.value_styles.specs.Ring.{HasNoRing, IsFirstRing}
use Rattle.driver_lookup.specs.Lookup.{Source}
use Rattle.csl_driver.proofs.standalone.standalone_citation.Goals as goal

pub invariant_of-acyclic : goal.invariant_of-acyclic
invariant_of-acyclic g c =
    record { no_ring = subst (λ (s : Source). HasNoRing s.style.macros) c.source.ensures (c.in_ok-macro_index.ensures.none c.in_default.is) }

pub returns-clause-no_ring : goal.returns-clause-no_ring
returns-clause-no_ring g c = subst (λ (s : Source). HasNoRing s.style.macros) c.source.ensures (c.in_ok-macro_index.ensures.none c.in_default.is)

pub returns-in-Some-clause-refused : goal.returns-in-Some-clause-refused
returns-in-Some-clause-refused g c = (
  refl,
  subst (λ (s : Source). IsFirstRing s.style.macros (Some c.in-Some.macro_index)) c.source.ensures
      (subst (IsFirstRing _) c.in-Some.is c.in_ok-macro_index.ensures.first),
)
