use Rattle.std.proofs.Common.{◌≡◌, ap, map, ◌∙◌}
use Rattle.std.proofs.lemmas.Result.{IfOk-weaker}
use Rattle.mentions_arranging.specs.Requests.{requests_view as all_arranged_view}
use Rattle.mentions_cites.specs.Requests.{located_request, plain_requests}
use Rattle.csl_driver.specs.CslAnswer.{listed, plain_by}
use Rattle.csl_driver.specs.DraftView.{job_in}
use Rattle.csl_driver.proofs.draft.Draft.plain.Goals as goal

pub returns : goal.returns
returns g c =
    let eq = g.T.PartialEq.eq in
    let draft = c.args.self in
    let job = job_in draft in
    let mentions = c.args.mentions.now in
    let suffixes = c.args.suffixes.now in
    IfOk-weaker c.plain_requests.result _
    (λ v. map located_request (all_arranged_view v.items) ≡ plain_by eq job mentions suffixes)
    (λ v made. made (listed eq job) draft.known.listed ∙ ap (plain_requests mentions suffixes eq (listed eq job) job.requests) c.requires)
    c.plain_requests.ensures
