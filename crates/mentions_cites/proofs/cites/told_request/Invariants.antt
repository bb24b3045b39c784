use Rattle.std.proofs.Common.{◌≡◌, take}
use Rattle.std.specs.Prelude.{filter_map}
use Rattle.driver_passes.specs.RendersView.{items_view}
use Rattle.driver_passes.specs.RequestView.{request_view}
use Rattle.mentions_cites.specs.Cites.{told_at}
use Rattle.mentions_cites.specs.ToldView.{told_view}
use Rattle.mentions_cites.proofs.cites.told_request.Given as goal

abbrev pub invariant-loop-cite : goal.invariant-loop-cite
invariant-loop-cite g l = record {
  made : items_view l.render.items.items ≡ filter_map (told_at (told_view l.told) (request_view l.request) l.notes) (take l.cite-index l.cites);
  same : request_view l.render.request.now ≡ request_view l.request;
}
