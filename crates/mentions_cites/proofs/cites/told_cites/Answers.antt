use Rattle.std.proofs.Common.{◌<◌, ◌≤◌, ap, arith, length, map, min, sym, ◌∙◌}
use Rattle.std.specs.List.{zip}
use Rattle.std.proofs.lemmas.List.{length-map}
use Rattle.mentions_arranging.specs.Requests.{request_view as arranged_view, requests_view as all_arranged_view}
use Rattle.driver_passes.specs.RendersView.{render_view, renders_view}
use Rattle.driver_passes.specs.RequestView.{request_view, requests_view}
use Rattle.mentions_cites.specs.Cites.{told_request}
use Rattle.mentions_cites.specs.ToldView.{told_view}
use Rattle.mentions_cites.proofs.Telling.{cites-next}
use Rattle.mentions_cites.proofs.Triples.{none-taken, triples-all}
use Rattle.mentions_cites.proofs.cites.told_cites.Goals as goal

pub loop-k-init : goal.loop-k-init
loop-k-init g c =
    c.in_ok-cites.ensures
    ∙ sym (ap (map (λ p. told_request (told_view c.args.told.now) p.0.0 p.0.1 p.1.cites))
    (none-taken (zip (zip (requests_view c.args.requests.now) (map (λ n. n.items) c.args.notes.now)) (all_arranged_view c.args.finals.now))))

pub loop-k-preserved : goal.loop-k-preserved
loop-k-preserved g c =
    let requests = c.args.requests.now in
    let notes = c.args.notes.now in
    let finals = c.args.finals.now in
    let k = c.loop-k.k in
    let v : k < length requests = omega arith in
    let w : k < length notes = omega arith in
    let u : k < length finals = omega arith in
    cites-next (told_view c.args.told.now) request_view (λ n. n.items) arranged_view requests notes finals k c.index-requests-k.result c.index-notes-k.result c.index-finals-k.result c.deref.result.now
    c.deref-in-loop-k.result.now v w u c.index-requests-k.is c.index-notes-k.is c.index-finals-k.is c.deref.ensures.value
    (c.deref-in-loop-k.ensures.value ∙ ap (λ f. f.cites.items) (sym c.index-finals-k.is)) (renders_view c.loop-k.cites.by_request.items)
    (renders_view c.push.new.self.by_request.items) (render_view c.in_ok-cite.cite) c.loop-k.invariant c.in_ok-push.ensures c.in_ok-cite.ensures

pub returns : goal.returns
returns g c =
    let requests = c.args.requests.now in
    let notes = c.args.notes.now in
    let finals = c.args.finals.now in
    let k = c.loop-k.k in
    let rs = requests_view requests in
    let lists = map (λ n. n.items) notes in
    let orders = all_arranged_view finals in
    let first = length-map requests request_view in
    let second = length-map notes (λ n. n.items) in
    let third = length-map finals arranged_view in
    let past : min (min (length rs) (length lists)) (length orders) ≤ k = omega (arith, first, second, third) in
    c.loop-k.invariant ∙ ap (map (λ p. told_request (told_view c.args.told.now) p.0.0 p.0.1 p.1.cites)) (triples-all rs lists orders k past)
