use Rattle.std.proofs.Common.{◌++◌, ◌∷◌, [], ap, map, refl, sym, take, ◌∙◌}
use Rattle.std.proofs.lemmas.List.{take_all}
use Rattle.rounds_rendering.proofs.Pairs.{at_view, past_view, within_view}
use Rattle.value_styles.specs.Ring.{HasNoRing}
use Rattle.driver_assembly.specs.CitationTree.{citation_tasks, citation_tree}
use Rattle.csl_driver.specs.Answer.{citation_of, citations_of}
use Rattle.csl_driver.specs.DraftView.{job_in}
use Rattle.csl_driver.specs.WriterTasks.{last_tasks}
use Rattle.driver_passes.specs.RendersView.{item_view, render_view, renders_view}
use Rattle.driver_positions.proofs.FinalPlaces.{all-at}
use Rattle.driver_writers.specs.Desk.{after, desk}
use Rattle.driver_writers.specs.Writing.{writing_of}
use Rattle.driver_writers.proofs.TasksDone.{after-then, writes-same}
use Rattle.csl_driver.proofs.ByIndex.{all-more, each-more}
use Rattle.csl_driver.proofs.Standing.{of-requests}
use Rattle.csl_driver.proofs.draft.Draft.citations.Goals as goal

pub invariant_of-request : goal.invariant_of-request
invariant_of-request g c =
    let cites = c.args.cites.now in
    let acyclic = of-requests (λ r. HasNoRing r.style.macros) (renders_view cites) (job_in c.args.self).requests c.requires.cites c.args.self.requests.no_ring in
    record { no_ring = all-at (λ r. HasNoRing r.request.style.macros) render_view cites c.loop-index.index c.index-cites-index.result acyclic c.loop-index-test.true c.index-cites-index.is }

pub loop-index-preserved : goal.loop-index-preserved
loop-index-preserved g c =
    let answers = g.T.EntryLike.answers in
    let cites = c.args.cites.now in
    let views = renders_view cites in
    let k = c.loop-index.index in
    let cite = render_view c.index-cites-index.result in
    let within = within_view render_view {xs = cites} k refl c.loop-index-test.true in
    let here = at_view render_view {xs = cites} k refl c.index-cites-index.result c.index-cites-index.is in
    let Way = g.W.CiteWriter.Way in
    let state = g.W.CiteWriter.state in
    let begun = λ (way : Way). desk (state c.args.writer.now way) c.args.counter.now in
    let before = λ (way : Way). desk (state c.loop-index.writer way) c.loop-index.counter in
    let was = c.loop-index.invariant in
    let before_ok = c.in_ok-citation_tree.ensures.agreed in
    let same = λ (way : Way) (ok : _). writes-same answers (last_tasks (take k views)) (begun way) (before way) (was.asked way (before_ok way ok)) in
    let tree = λ (way : Way) (ok : _). c.in_ok-citation_tree.ensures.tree way ok ∙ (λ i. citation_tree (same way ok i) k (record cite { items = map item_view (c.deref.ensures.value i) })) in
    record {
      citations = λ way ok. c.in_ok-push.ensures
          ∙ (λ i. was.citations way (before_ok way ok) i ++ (record { note_number = c.note_number.ensures i; citation = tree way ok i }) ∷ [])
          ∙ sym (each-more views k cite within here (citation_of (writing_of answers (state c.args.writer.now way))));
      asked = λ way ok. after-then (last_tasks (take k views)) (citation_tasks k cite) (begun way) (before way) _ (was.asked way (before_ok way ok)) (c.in_ok-citation_tree.ensures.asked way ok ∙ (λ i. after (citation_tasks k (record cite { items = map item_view (c.deref.ensures.value i) })) (before way)))
          ∙ sym (ap (λ ts. after ts (begun way)) (all-more views k cite within here citation_tasks));
      agreed = λ way ok. was.agreed way (before_ok way ok);
    }

pub returns-clause-citations : goal.returns-clause-citations
returns-clause-citations g c = λ way ok.
    c.loop-index.invariant.citations way ok
    ∙ ap (citations_of (writing_of g.T.EntryLike.answers (g.W.CiteWriter.state c.args.writer.now way)))
    (take_all c.loop-index.index (renders_view c.args.cites.now) (past_view render_view {xs = c.args.cites.now} c.loop-index.index refl c.loop-index-test.false))

pub returns-clause-asked : goal.returns-clause-asked
returns-clause-asked g c = λ way ok.
    c.loop-index.invariant.asked way ok
    ∙ ap (λ cs. after (last_tasks cs) (desk (g.W.CiteWriter.state c.args.writer.now way) c.args.counter.now))
    (take_all c.loop-index.index (renders_view c.args.cites.now) (past_view render_view {xs = c.args.cites.now} c.loop-index.index refl c.loop-index-test.false))
