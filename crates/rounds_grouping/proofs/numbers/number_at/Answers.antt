use Rattle.std.proofs.Common.{None, sym, ◌∙◌}
use Rattle.std.proofs.lemmas.Bool.Decides.{Decides-ltb}
use Rattle.driver_passes.specs.RendersView.{item_view}
use Rattle.rounds_grouping.specs.NumberRuns.{shown_number}
use Rattle.rounds_grouping.proofs.ByPlaces.{viewed}
use Rattle.rounds_grouping.proofs.numbers.number_at.Goals as goal

pub returns : goal.returns
returns g c =
    let found = c.in_ok-cite.ensures.lookup in
    c.shown_number.ensures
    ∙ sym (viewed item_view shown_number c.args.items.now c.args.k c.in_ok-cite.cite.now None ((Decides-ltb _ _).0 (sym found.0)) found.1)
