use Rattle.std.proofs.Common.{get_or}
use Rattle.driver_passes.specs.RendersView.{renders_view}
use Rattle.driver_passes.specs.Renders.{Place}
use Rattle.rounds_names.specs.NamedCites.{named_cite_at}
use Rattle.rounds_names.proofs.Marking.{filter_map-more, named_cite-found, same-default}
use Rattle.rounds_names.proofs.group.named_cites.Goals as goal

pub loop-place-preserved : goal.loop-place-preserved
loop-place-preserved g c =
    let place : Place = get_or c.args.group.now c.loop-place.place-index (0, 0) in
    let m = c.in_ok-named_cite.field-0 in
    filter_map-more (named_cite_at (renders_view c.args.cites.now)) c.args.group.now c.loop-place.place-index place m c.loop-place-test.true (same-default c.args.group.now c.loop-place.place-index (0, 0) place c.loop-place-test.true)
    (named_cite-found c.args.cites.now place c.index-cites-place.result c.index-item.result.now m
    (c.requires.exist c.loop-place.place-index (0, 0) c.loop-place-test.true) c.index-cites-place.is c.index-item.ensures c.in_ok-named_cite.ensures)
    c.loop-place.invariant c.in_ok-push.ensures.items
