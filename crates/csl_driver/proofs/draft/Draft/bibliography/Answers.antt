use Rattle.std.proofs.Common.{Some, ap, sym, ◌∙◌}
use Rattle.std.specs.List.{filter_map}
use Rattle.std.specs.Prelude.{option_map}
use Rattle.driver_assembly.specs.BibliographyItems.{bibliography_of, bibliography_tasks, cites_at}
use Rattle.value_styles.specs.StyleView.{bibliography_view}
use Rattle.csl_driver.specs.Answer.{entries_listed}
use Rattle.csl_driver.specs.DraftView.{job_in}
use Rattle.csl_driver.specs.WriterTasks.{where_wanted}
use Rattle.driver_passes.specs.RendersView.{renders_view}
use Rattle.driver_passes.specs.Request.{wanted_source}
use Rattle.driver_positions.specs.FinalProperties.{first_item}
use Rattle.driver_writers.specs.Desk.{after, desk}
use Rattle.driver_writers.specs.Writing.{writing_of}
use Rattle.csl_driver.proofs.draft.Draft.bibliography.Goals as goal

pub returns-in_ok-made-in-Some-clause-bibliography : goal.returns-in_ok-made-in-Some-clause-bibliography
returns-in_ok-made-in-Some-clause-bibliography g c = λ way ok.
    let job = job_in c.args.self in
    let cites = renders_view c.args.cites.now in
    let written = bibliography_of (writing_of g.T.EntryLike.answers (g.W.CiteWriter.state c.args.writer.now way)) (wanted_source job.wanted) in
    ap Some (c.in_ok-made-in-Some.ensures.bibliography way ok ∙ ap (written (bibliography_view c.in-Some.style)) (ap (cites_at cites) c.deref.ensures.value ∙ c.in_ok-firsts-in-Some.ensures))
    ∙ sym (ap (λ o. option_map (λ b. written b (filter_map (first_item g.T.PartialEq.eq cites) (entries_listed g.T.PartialEq.eq job.wanted job.requests))) (option_map bibliography_view o)) c.in-Some.is)

pub returns-in_ok-made-in-Some-clause-asked : goal.returns-in_ok-made-in-Some-clause-asked
returns-in_ok-made-in-Some-clause-asked g c = λ way ok.
    let job = job_in c.args.self in
    let cites = renders_view c.args.cites.now in
    let begun = desk (g.W.CiteWriter.state c.args.writer.now way) c.args.counter.now in
    c.in_ok-made-in-Some.ensures.asked way ok
    ∙ ap (λ is. after (bibliography_tasks (wanted_source job.wanted) is) begun) (ap (cites_at cites) c.deref.ensures.value ∙ c.in_ok-firsts-in-Some.ensures)
    ∙ sym (ap (λ o. after (where_wanted (option_map bibliography_view o) (bibliography_tasks (wanted_source job.wanted) (filter_map (first_item g.T.PartialEq.eq cites) (entries_listed g.T.PartialEq.eq job.wanted job.requests)))) begun) c.in-Some.is)

pub returns-in-None-clause-asked : goal.returns-in-None-clause-asked
returns-in-None-clause-asked g c = λ way ok.
    let job = job_in c.args.self in
    let cites = renders_view c.args.cites.now in
    let begun = desk (g.W.CiteWriter.state c.args.writer.now way) c.args.counter.now in
    sym (ap (λ o. after (where_wanted (option_map bibliography_view o) (bibliography_tasks (wanted_source job.wanted) (filter_map (first_item g.T.PartialEq.eq cites) (entries_listed g.T.PartialEq.eq job.wanted job.requests)))) begun) c.in-None.is)
