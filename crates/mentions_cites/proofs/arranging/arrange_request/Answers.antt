use Rattle.std.proofs.Common.{ap, length, sym, ◌∙◌}
use Rattle.std.specs.List.{zip}
use Rattle.std.proofs.lemmas.List.{with_items_is}
use Rattle.driver_passes.specs.RendersView.{items_view}
use Rattle.driver_passes.specs.RequestView.{request_view}
use Rattle.mentions_tables.specs.Steps.{all_changed}
use Rattle.mentions_cites.specs.Arranging.{arranged_by}
use Rattle.mentions_cites.proofs.arranging.arrange_request.Goals as goal

pub returns : goal.returns
returns g c =
    let render = c.args.render.now in
    let kept = with_items_is render.items c.arrange_cites.new.items (c.arrange_cites.auto.items ∙ ap length c.deref_mut.ensures.value ∙ sym render.items.ok.0) in
    let made = c.arrange_cites.ensures
    ∙ (λ i. all_changed (arranged_by c.args.numbers.now (c.style.ensures i).citation) (zip (c.deref.ensures.value i) c.args.arranged.now) (items_view (c.deref_mut.ensures.value i))) in
    λ i. record { items = (ap items_view kept ∙ made) i; request = request_view render.request.now }
