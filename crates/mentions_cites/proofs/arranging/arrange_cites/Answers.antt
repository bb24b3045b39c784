use Rattle.std.proofs.Common.{◌<◌, ◌≤◌, ap, arith, length, min, refl, slice_index_or, sym, ◌∙◌}
use Rattle.std.specs.List.{zip}
use Rattle.value_styles.specs.StyleView.{citation_view}
use Rattle.driver_passes.specs.RendersView.{item_view, items_view}
use Rattle.mentions_tables.proofs.Changing.{changed-none}
use Rattle.mentions_cites.specs.Arranging.{arranged_by}
use Rattle.mentions_cites.proofs.Setting.{cite-next, cites-all}
use Rattle.mentions_cites.proofs.arranging.arrange_cites.Goals as goal

pub loop-k-init : goal.loop-k-init
loop-k-init g c =
    changed-none (arranged_by c.args.numbers.now (citation_view c.args.citation.now)) (zip c.args.cites.now c.args.arranged.now) (items_view c.args.items.now)

pub loop-k-preserved : goal.loop-k-preserved
loop-k-preserved g c =
    let cites = c.args.cites.now in
    let arranged = c.args.arranged.now in
    let old = c.args.items.now in
    let k = c.loop-k.k in
    let v : k < length cites = omega arith in
    let w : k < length arranged = omega arith in
    let u : k < length old = omega arith in
    cite-next item_view c.args.numbers.now (citation_view c.args.citation.now) cites arranged old c.loop-k.items k c.loop-k.invariant c.index-cites-k.result _ _ c.index-items-k.result
    c.arrange_cite.new.cite c.number_of-number.result v w u c.index-cites-k.is refl
    (c.number_of-number.ensures ∙ ap (λ f. slice_index_or c.args.numbers.now f.cite.entry 0) (sym c.index-cites-k.is)) c.arrange_cite.ensures

pub returns : goal.returns
returns g c =
    let cites = c.args.cites.now in
    let arranged = c.args.arranged.now in
    let old = c.args.items.now in
    let k = c.loop-k.k in
    let past : min (min (length old) (length cites)) (length arranged) ≤ k = omega arith in
    cites-all item_view c.args.numbers.now (citation_view c.args.citation.now) cites arranged old c.loop-k.items k c.loop-k.invariant past
