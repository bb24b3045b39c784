use Rattle.std.proofs.Common.{ap, arith, length, map, subst, sym, ◌∙◌}
use Rattle.driver_entries.specs.Entries.{distinct}
use Rattle.csl_driver.specs.DraftView.{job_in, table_in}
use Rattle.driver_passes.specs.Request.{cited}
use Rattle.driver_positions.specs.FirstProperties.{first_properties, numbered_by}
use Rattle.rounds_runs.specs.FirstRenders.{HasShapeOf, first_renders, first_tasks}
use Rattle.driver_writers.specs.Desk.{after, desk}
use Rattle.driver_writers.specs.Writing.{writing_of}
use Rattle.csl_driver.proofs.FirstPlaced.{first-shape}
use Rattle.csl_driver.proofs.Listings.{known-listed, numbers-are, numbers-fit, numbers-long}
use Rattle.csl_driver.proofs.draft.Draft.render_first.Goals as goal

pub numbers-requires : goal.numbers-requires
numbers-requires g c = let known = c.args.self.known in record { fits = numbers-fit known (known-listed known) }

pub first_properties-requires-clause-numbered : goal.first_properties-requires-clause-numbered
first_properties-requires-clause-numbered g c =
    let known = c.args.self.known in
    let long = ap length (c.deref.ensures.value ∙ c.in_ok-numbers.ensures) ∙ numbers-long known (known-listed known) in
    omega (arith, long)

pub first_renders-requires : goal.first_renders-requires
first_renders-requires g c =
    let eq = g.T.PartialEq.eq in
    let requests = (job_in c.args.self).requests in
    let number_of = numbered_by eq c.deref.result.now (table_in c.args.self).entries in
    let some = g.met.W.CiteWriter.some_way c.args.writer.now in
    record {
      shape = subst (HasShapeOf requests) (sym (ap (map (λ f. f.items)) c.deref-2.ensures.value ∙ c.in_ok-firsts.ensures))
          (first-shape eq g.P.PartialEq.eq (writing_of g.T.EntryLike.answers (g.W.CiteWriter.state c.args.writer.now some.0)) number_of (distinct eq (cited requests)) requests);
    }

pub returns : goal.returns
returns g c =
    let eq = g.T.PartialEq.eq in
    let draft = c.args.self in
    let requests = (job_in draft).requests in
    let numbers = ap (λ ns. numbered_by eq ns (table_in draft).entries) (c.deref.ensures.value ∙ c.in_ok-numbers.ensures) ∙ numbers-are draft.known (known-listed draft.known) in
    let properties =
    ap (map (λ f. f.items)) c.deref-2.ensures.value ∙ c.in_ok-firsts.ensures ∙ ap (λ n. first_properties eq g.P.PartialEq.eq n requests) numbers in
    record {
      cites = λ way ok. c.in_ok-cites.ensures.cites way ok ∙ ap (first_renders (writing_of g.T.EntryLike.answers (g.W.CiteWriter.state c.args.writer.now way)) requests) properties;
      asked = λ way ok. c.in_ok-cites.ensures.asked way ok ∙ ap (λ ps. after (first_tasks requests ps) (desk (g.W.CiteWriter.state c.args.writer.now way) c.args.counter.now)) properties;
      agreed = c.in_ok-cites.ensures.agreed;
    }
