use Rattle.std.proofs.Common.{◌≡◌, ap, map, rules, subst, sym, ◌∙◌}
use Rattle.std.specs.Borrow.{Bor}
use Rattle.std.specs.Prelude.{Some}
use Rattle.mentions_arranging.specs.Arranged.{arranged_cites}
use Rattle.mentions_arranging.specs.Requests.{requests_view as all_arranged_view}
use Rattle.driver_lookup.specs.PropertiesView.{locator_view}
use Rattle.driver_lookup.specs.contracts.locator.SpecificLocatorPartialEq.TheImpl as locator_eq
use Rattle.driver_lookup.specs.declared.locator.SpecificLocator.{SpecificLocator}
use Rattle.driver_passes.specs.Positions.{same_locators}
use Rattle.driver_passes.specs.RendersView.{renders_view}
use Rattle.mentions_cites.specs.Arranging.{arranged_finally}
use Rattle.csl_driver.specs.AreCitesOf.{AreCitesOf}
use Rattle.csl_driver.specs.DraftView.{job_in, table_in}
use Rattle.csl_driver.proofs.CslArranged.{arranged-lent}
use Rattle.csl_driver.proofs.CslStanding.{arranged-stand}
use Rattle.csl_driver.proofs.draft.Draft.arrange.Goals as goal

pub returns : goal.returns
returns g c =
    let eq = g.T.PartialEq.eq in
    let draft = c.args.self in
    let requests = (job_in draft).requests in
    let finals = all_arranged_view c.args.ordered.now in
    let old = renders_view c.args.cites.now in
    let numbers = c.in_ok-numbers.numbers.items in
    let test = (locator_eq.eq-value g.row.P g.P.PartialEq g.P.PartialEq-dict).it in
    let alike : (x y : SpecificLocator g.row.P.Denot) → test x y ≡ same_locators g.P.PartialEq.eq (Some (locator_view x)) (Some (locator_view y)) = search rules in
    let test_lent = λ (x y : Bor (SpecificLocator g.row.P.Denot)). test x.now y.now in
    let arranged = map (λ a. a.items) c.in_ok-arranged.arranged.items in
    let arranged_are : arranged ≡ arranged_cites test_lent numbers finals = c.in_ok-arranged.ensures ∙ ap (λ ns. arranged_cites test_lent ns finals) c.deref.ensures.value in
    let made : renders_view c.arrange_finally.new.cites ≡ arranged_finally numbers finals arranged old =
    c.arrange_finally.ensures ∙ (λ i. arranged_finally (c.deref-2.ensures.value i) finals (map (λ a. a.items) (c.deref-3.ensures.value i)) old) in
    record {
      numbers = c.in_ok-numbers.ensures;
      cites = made ∙ arranged-lent (λ l. locator_view l.now) test_lent g.P.PartialEq.eq (λ x y. alike x.now y.now) numbers finals arranged old arranged_are;
      belong = subst (AreCitesOf eq (table_in draft) requests) (sym made) (arranged-stand numbers eq (table_in draft) requests finals arranged old c.requires.cites);
    }
