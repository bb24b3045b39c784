use Rattle.std.proofs.Common.{◌≡◌, drop}
use Rattle.driver_lookup.specs.Lookup.{found_along}
use Rattle.driver_lookup.specs.SourceView.{lookup_view}
use Rattle.driver_lookup.proofs.lookup.StyleLocales.found_term.Given as goal

abbrev pub invariant-loop-form : goal.invariant-loop-form
invariant-loop-form l =
    let k = lookup_view l.self in
    found_along k l.name (drop l.form-index l.form-items) ≡ found_along k l.name l.form-items
