use Rattle.std.proofs.Common.{◌++◌, refl, take}
use Rattle.driver_passes.specs.RendersView.{render_view}
use Rattle.rounds_ambiguity.specs.Members.{request_cites}
use Rattle.rounds_ambiguity.proofs.Document.{cite-added, cite_of, cites-added, no-cite-added}
use Rattle.rounds_ambiguity.proofs.ambiguity.add_cites.Goals as goal

pub loop-k-init : goal.loop-k-init
loop-k-init g c = no-cite-added c.args.classes.now

pub loop-k-preserved : goal.loop-k-preserved
loop-k-preserved g c = λ cites h.
    let r = c.args.request in
    let render = c.args.render.now in
    let k = c.loop-k.k in
    cite-added r render k c.item-item.result c.deref-item-items.result.now c.add_cite.new.classes cites c.deref-item-items.ensures.value c.loop-k-test.true c.item-item.is
    (c.in_ok-add_cite.ensures (cites ++ take k (request_cites r (render_view render))) (cite_of r render k c.item-item.result) refl refl (c.loop-k.invariant cites h))

pub returns : goal.returns
returns g c = λ cites h.
    cites-added c.args.request c.args.render.now c.loop-k.k c.deref-item-items.result.now c.loop-k.classes cites c.deref-item-items.ensures.value c.loop-k-test.false (c.loop-k.invariant cites h)
