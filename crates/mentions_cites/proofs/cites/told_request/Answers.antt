use Rattle.std.proofs.Common.{ap, refl, sym, ◌∙◌}
use Rattle.std.specs.Prelude.{filter_map}
use Rattle.std.proofs.lemmas.List.{take_all}
use Rattle.driver_passes.specs.RendersView.{items_view}
use Rattle.driver_passes.specs.RequestView.{request_view}
use Rattle.mentions_cites.specs.Cites.{told_at}
use Rattle.mentions_cites.specs.ToldView.{told_view}
use Rattle.mentions_cites.proofs.Telling.{told-next}
use Rattle.mentions_cites.proofs.Triples.{none-taken}
use Rattle.mentions_cites.proofs.cites.told_request.Goals as goal

pub loop-cite-init : goal.loop-cite-init
loop-cite-init g c = record {
  made = ap items_view c.in_ok-with_capacity.ensures.items
      ∙ sym (ap (filter_map (told_at (told_view c.args.told.now) (request_view c.args.request.now) c.args.notes.now)) (none-taken c.args.cites.now));
  same = refl;
}

pub loop-cite-preserved : goal.loop-cite-preserved
loop-cite-preserved g c = record {
  made = told-next (told_view c.args.told.now) (request_view c.args.request.now) c.args.notes.now c.args.cites.now c.loop-cite.cite-index c.cite-item.result c.loop-cite-test.true
      c.cite-item.is (items_view c.loop-cite.render.items.items) (items_view c.push_told.new.found.items) c.loop-cite.invariant.made c.in_ok-push_told.ensures;
  same = c.loop-cite.invariant.same;
}

pub returns : goal.returns
returns g c =
    let tell = told_at (told_view c.args.told.now) (request_view c.args.request.now) c.args.notes.now in
    let done = c.loop-cite.invariant.made ∙ ap (filter_map tell) (take_all c.loop-cite.cite-index c.args.cites.now c.loop-cite-test.false) in
    λ i. record { items = done i; request = c.loop-cite.invariant.same i }
