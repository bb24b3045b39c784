use Rattle.std.proofs.Common.{◌≡◌, option_map, rules}
use Rattle.driver_lookup.proofs.Copies.{some_locator_copied}
use Rattle.driver_lookup.specs.PropertiesView.{locator_view}
use Rattle.driver_passes.proofs.Copies.{some_code_copied}
use Rattle.driver_passes.proofs.laws.items_copy_equal.Goals as goal

pub returns : goal.returns
returns g c = λ a b h.
    let any = g.P.Destruct-dict in
    let entry : b.entry ≡ a.entry = search rules in
    let locator = some_locator_copied g.row.P any any any a.locator b.locator h.1.0 in
    let locale = some_code_copied any a.locale b.locale h.1.1.0 in
    let hidden : b.hidden ≡ a.hidden = h.1.1.1.0 in
    let purpose : b.purpose ≡ a.purpose = search rules in
    let apart : b.apart ≡ a.apart = search rules in
    let place : b.initial_idx ≡ a.initial_idx = h.1.1.1.1.1.1 in
    λ i. record { entry = (entry i).now; locator = option_map locator_view (locator i); locale = locale i; hidden = hidden i; purpose = purpose i; apart = apart i; place = place i }
