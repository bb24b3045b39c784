use Rattle.std.proofs.Common.{ap, rules}
use Rattle.std.specs.Cmp.{unsigned_Decides}
use Rattle.value_sources.proofs.Told.{some_seen}
use Rattle.value_sources.specs.Finds.{both, and-true, decides}
use Rattle.value_sources.specs.Tells.{TellsSeen}
use Rattle.driver_lookup.specs.PropertiesView.{locator_view, speculative_view}
use Rattle.driver_lookup.specs.contracts.locator.SpecificLocatorPartialEq.TheImpl as locator_eq
use Rattle.driver_lookup.specs.contracts.properties.SpeculativeCitePropertiesPartialEq.TheImpl as speculative_eq
use Rattle.driver_lookup.proofs.Equal.{certain_find, ibid_find, means_find, usage_find, states_find}
use Rattle.driver_lookup.proofs.laws.equality_decides.Goals as goal

pub returns-clause-locator : goal.returns-clause-locator
returns-clause-locator g c told = search rules

pub returns-clause-speculative : goal.returns-clause-speculative
returns-clause-speculative g c told a b =
    let one : TellsSeen locator_view (locator_eq.eq-value g.row.P g.P.PartialEq g.P.PartialEq-dict).it = returns-clause-locator g c told in
    let locators = some_seen one in (
      λ e. let p = both _ _ e in let q = both _ _ p.1 in let r = both _ _ q.1 in let s = both _ _ r.1 in let t = both _ _ s.1 in
          λ i. record {
            locator = (locators a.locator b.locator).0 p.0 i;
            citation_number = (unsigned_Decides a.citation_number b.citation_number).0 q.0 i;
            ibid = ibid_find.equal a.ibid b.ibid r.0 i;
            disambiguation = states_find.equal a.disambiguation b.disambiguation s.0 i;
            means = means_find.equal a.means b.means t.0 i;
            identifier_usage = usage_find.equal a.identifier_usage b.identifier_usage t.1 i;
          },
      λ e.
          and-true _ _ ((locators a.locator b.locator).1 (ap (λ v. v.locator) e))
          (and-true _ _ ((unsigned_Decides a.citation_number b.citation_number).1 (ap (λ v. v.citation_number) e))
          (and-true _ _ ((decides ibid_find a.ibid b.ibid).1 (ap (λ v. v.ibid) e))
          (and-true _ _ ((decides states_find a.disambiguation b.disambiguation).1 (ap (λ v. v.disambiguation) e))
          (and-true _ _ ((decides means_find a.means b.means).1 (ap (λ v. v.means) e))
          ((decides usage_find a.identifier_usage b.identifier_usage).1 (ap (λ v. v.identifier_usage) e)))))),
    )

pub returns-clause-properties : goal.returns-clause-properties
returns-clause-properties g c told a b =
    let speculative : TellsSeen speculative_view (speculative_eq.eq-value g.row.P g.P.PartialEq g.P.PartialEq-dict).it = returns-clause-speculative g c told in (
      λ e. let p = both _ _ e in
          λ i. record {
            certain = certain_find.equal a.certain b.certain p.0 i;
            speculative = (speculative a.speculative b.speculative).0 p.1 i;
          },
      λ e.
          and-true _ _ ((decides certain_find a.certain b.certain).1 (ap (λ v. v.certain) e))
          ((speculative a.speculative b.speculative).1 (ap (λ v. v.speculative) e)),
    )
