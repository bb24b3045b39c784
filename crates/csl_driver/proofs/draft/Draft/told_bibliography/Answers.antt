use Rattle.std.proofs.Common.{Some, ap, length, sym, ◌∙◌}
use Rattle.std.specs.Prelude.{option_map}
use Rattle.driver_assembly.specs.ByMeans.{bibliography_by_means, cites_with_means, tasks_by_means}
use Rattle.value_styles.specs.StyleView.{bibliography_view}
use Rattle.csl_driver.specs.CslAnswer.{item_means, listed, listed_cites}
use Rattle.csl_driver.specs.DraftView.{job_in}
use Rattle.csl_driver.specs.WriterTasks.{where_wanted}
use Rattle.driver_passes.specs.RendersView.{renders_view}
use Rattle.driver_passes.specs.Request.{wanted_source}
use Rattle.driver_writers.specs.Desk.{after, desk}
use Rattle.driver_writers.specs.Writing.{writing_of}
use Rattle.csl_driver.proofs.draft.Draft.told_bibliography.Goals as goal

pub bibliography_by_means-requires : goal.bibliography_by_means-requires
bibliography_by_means-requires g c =
    ap length c.deref-in-Some.ensures.value ∙ c.in_ok-places-in-Some.ensures.long ∙ sym (ap length c.deref.ensures.value)

pub returns-in_ok-made-in-Some-clause-bibliography : goal.returns-in_ok-made-in-Some-clause-bibliography
returns-in_ok-made-in-Some-clause-bibliography g c = λ way ok.
    let job = job_in c.args.self in
    let cites = renders_view c.args.cites.now in
    let firsts = listed_cites g.T.PartialEq.eq (item_means c.args.told.now.states.items c.args.told.now.suffixes.items) cites (listed g.T.PartialEq.eq job) in
    let written = bibliography_by_means (writing_of g.T.EntryLike.answers (g.W.CiteWriter.state c.args.writer.now way)) (wanted_source job.wanted) in
    ap Some (c.in_ok-made-in-Some.ensures.bibliography way ok
    ∙ ap (written (bibliography_view c.in-Some.style)) ((λ i. cites_with_means cites (c.deref.ensures.value i) (c.deref-in-Some.ensures.value i)) ∙ c.in_ok-places-in-Some.ensures.cites))
    ∙ sym (ap (λ o. option_map (λ b. written b firsts) (option_map bibliography_view o)) c.in-Some.is)

pub returns-in_ok-made-in-Some-clause-asked : goal.returns-in_ok-made-in-Some-clause-asked
returns-in_ok-made-in-Some-clause-asked g c = λ way ok.
    let job = job_in c.args.self in
    let cites = renders_view c.args.cites.now in
    let firsts = listed_cites g.T.PartialEq.eq (item_means c.args.told.now.states.items c.args.told.now.suffixes.items) cites (listed g.T.PartialEq.eq job) in
    let begun = desk (g.W.CiteWriter.state c.args.writer.now way) c.args.counter.now in
    c.in_ok-made-in-Some.ensures.asked way ok
    ∙ ap (λ is. after (tasks_by_means (wanted_source job.wanted) is) begun)
    ((λ i. cites_with_means cites (c.deref.ensures.value i) (c.deref-in-Some.ensures.value i)) ∙ c.in_ok-places-in-Some.ensures.cites)
    ∙ sym (ap (λ o. after (where_wanted (option_map bibliography_view o) (tasks_by_means (wanted_source job.wanted) firsts)) begun) c.in-Some.is)

pub returns-in-None-clause-asked : goal.returns-in-None-clause-asked
returns-in-None-clause-asked g c = λ way ok.
    let job = job_in c.args.self in
    let cites = renders_view c.args.cites.now in
    let firsts = listed_cites g.T.PartialEq.eq (item_means c.args.told.now.states.items c.args.told.now.suffixes.items) cites (listed g.T.PartialEq.eq job) in
    let begun = desk (g.W.CiteWriter.state c.args.writer.now way) c.args.counter.now in
    sym (ap (λ o. after (where_wanted (option_map bibliography_view o) (tasks_by_means (wanted_source job.wanted) firsts)) begun) c.in-None.is)
