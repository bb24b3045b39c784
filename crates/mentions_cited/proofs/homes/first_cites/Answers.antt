use Rattle.std.proofs.Common.{◌<◌, ap, arith, length, ◌++◌, ◌∙◌}
use Rattle.std.specs.Prelude.{filter}
use Rattle.driver_passes.specs.RequestView.{request_view, requests_view}
use Rattle.mentions_cited.specs.HomeView.{homes_view}
use Rattle.mentions_cited.specs.Homes.{standing_in}
use Rattle.mentions_cited.specs.Steps.{is_first_cite}
use Rattle.mentions_cited.proofs.Gathering.{request-all, request-more}
use Rattle.mentions_cited.proofs.Walking.{as-long, got, opened-at, same-at}
use Rattle.mentions_cited.proofs.homes.first_cites.Goals as goal
use Rattle.std.proofs.lemmas.List.{length-map}

pub bounds-notes-k : goal.bounds-notes-k
bounds-notes-k g c =
    let requests = c.args.requests.requests.now in
    omega (arith, c.loop-k-test.true, as-long (λ n. length n.items) (λ r. length r.cites) c.args.notes.now (requests_view requests) c.requires, length-map requests request_view)

pub push_first_cites-requires : goal.push_first_cites-requires
push_first_cites-requires g c =
    let rs = requests_view c.args.requests.requests.now in
    let k = c.loop-k.k in
    let v = request_view c.at.result.request.now in
    let found = got rs k v c.at.ensures in
    let within : k < length c.args.notes.now = omega (arith, found.0, as-long (λ n. length n.items) (λ r. length r.cites) c.args.notes.now rs c.requires) in
    ap length c.deref.ensures.value
    ∙ same-at (λ n. length n.items) (λ r. length r.cites) c.args.notes.now rs c.requires k c.index-notes-k.result v within found.0 c.index-notes-k.is found.1

pub loop-k-preserved : goal.loop-k-preserved
loop-k-preserved g c =
    let requests = c.args.requests.requests.now in
    let k = c.loop-k.k in
    let v = request_view c.at.result.request.now in
    let rs = requests_view requests in
    let within : k < length c.args.notes.now = omega (arith, (got rs k v c.at.ensures).0, as-long (λ n. length n.items) (λ r. length r.cites) c.args.notes.now rs c.requires) in
    request-more request_view (λ n. n.items) requests c.args.notes.now k v c.index-notes-k.result (opened-at request_view requests k v c.at.ensures) within c.index-notes-k.is
    (homes_view c.loop-k.firsts.items) (homes_view c.push_first_cites.new.firsts.items) _ c.loop-k.invariant
    (c.in_ok-push_first_cites.ensures ∙ ap (λ ns. homes_view c.loop-k.firsts.items ++ filter is_first_cite (standing_in v ns)) c.deref.ensures.value)

pub returns : goal.returns
returns g c =
    request-all request_view (λ n. n.items) c.args.requests.requests.now c.args.notes.now c.loop-k.k (homes_view c.loop-k.firsts.items) _ c.loop-k-test.false c.loop-k.invariant
