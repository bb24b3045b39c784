use Rattle.std.proofs.Common.{sym, ◌∙◌}
use Rattle.value_sources.specs.Finds.{both, and-true}
use Rattle.value_styles.proofs.Seen.{codes_told}
use Rattle.value_sources.proofs.Told.{list_seen, some_seen}
use Rattle.driver_passes.proofs.Same.{orders_seen}
use Rattle.driver_passes.proofs.laws.bibliography_request_equality_decides.Goals as goal

pub returns : goal.returns
returns g c a b =
    let styles = c.style_equality_decides.ensures.style a.style.now b.style.now in
    let files = list_seen c.locale_equality_decides.ensures.locale a.locale_files.now b.locale_files.now in
    let codes = some_seen codes_told in
    let orders = orders_seen g.T.PartialEq.eq a.order b.order in (
      λ e. let p = both _ _ e in let q = both _ _ p.1 in let r = both _ _ q.1 in
          record { style = styles.0 p.0; locale = (codes a.locale b.locale).0 q.0; locales = files.0 r.0; order = sym orders ∙ r.1 },
      λ e.
          and-true _ _ (styles.1 e.style)
          (and-true _ _ ((codes a.locale b.locale).1 e.locale)
          (and-true _ _ (files.1 e.locales) (orders ∙ e.order))),
    )
