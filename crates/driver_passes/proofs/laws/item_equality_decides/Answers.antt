use Rattle.std.proofs.Common.{◌≡◌, rules, sym, ◌∙◌}
use Rattle.std.specs.Cmp.{booleans_Decides, unsigned_Decides}
use Rattle.std.specs.Prelude.{Some}
use Rattle.value_sources.specs.Finds.{both, and-true}
use Rattle.value_styles.proofs.Seen.{codes_told}
use Rattle.value_sources.proofs.Told.{option_told, some_seen}
use Rattle.driver_lookup.specs.PropertiesView.{locator_view}
use Rattle.driver_lookup.specs.contracts.locator.SpecificLocatorPartialEq.TheImpl as locator_eq
use Rattle.driver_lookup.specs.declared.locator.SpecificLocator.{SpecificLocator}
use Rattle.driver_passes.proofs.Same.{some_locators}
use Rattle.driver_passes.specs.Positions.{same_locators}
use Rattle.driver_passes.proofs.laws.item_equality_decides.Goals as goal

pub returns : goal.returns
returns g c a b =
    let test = (locator_eq.eq-value g.row.P g.P.PartialEq g.P.PartialEq-dict).it in
    let one : (x y : SpecificLocator g.row.P.Denot) → test x y ≡ same_locators g.P.PartialEq.eq (Some (locator_view x)) (Some (locator_view y)) = search rules in
    let locators = some_locators g.P.PartialEq.eq test one a.locator b.locator in
    let codes = some_seen codes_told in
    let purposes = option_told c.state_equality_decides.ensures.purpose a.purpose b.purpose in
    let aparts = option_told c.state_equality_decides.ensures.apart a.apart b.apart in (
      λ e. let p = both _ _ e in let q = both _ _ p.1 in let r = both _ _ q.1 in let s = both _ _ r.1 in let t = both _ _ s.1 in let u = both _ _ t.1 in
          record {
            entry = p.0;
            locator = sym locators ∙ q.0;
            locale = (codes a.locale b.locale).0 r.0;
            hidden = (booleans_Decides a.hidden b.hidden).0 s.0;
            purpose = purposes.0 t.0;
            apart = aparts.0 u.0;
            place = (unsigned_Decides a.initial_idx b.initial_idx).0 u.1;
          },
      λ e.
          and-true _ _ e.entry
          (and-true _ _ (locators ∙ e.locator)
          (and-true _ _ ((codes a.locale b.locale).1 e.locale)
          (and-true _ _ ((booleans_Decides a.hidden b.hidden).1 e.hidden)
          (and-true _ _ (purposes.1 e.purpose)
          (and-true _ _ (aparts.1 e.apart)
          ((unsigned_Decides a.initial_idx b.initial_idx).1 e.place)))))),
    )
