use Rattle.std.proofs.Common.{ap, sym, ◌∙◌, ◌<◌, length}
use Rattle.std.proofs.lemmas.List.{map-set}
use Rattle.std.proofs.Math.ListN.{get_or-map, set, length-map}
use Rattle.driver_passes.specs.RequestView.{cites_view, cite_view}
use Rattle.driver_passes.proofs.Placed.{place_more}
use Rattle.driver_passes.proofs.places.number_items.Goals as goal

pub loop-k-preserved : goal.loop-k-preserved
loop-k-preserved g c =
    let items = c.loop-k.items in
    let k = c.loop-k.k in
    let first = c.args.items.now in
    let within : k < length (cites_view first) = simp length-map c.loop-k-test.true in
    map-set cite_view items k _
    ∙ ap (λ x. set (cites_view items) k (record x { place = k })) (sym (get_or-map cite_view items k c.index-items-k.result))
    ∙ place_more k (cites_view first) (cites_view items) (cite_view c.index-items-k.result) c.loop-k.invariant within
