use Rattle.std.proofs.Common.{ap, rules, subst, sym, ◌∙◌}
use Rattle.csl_driver.specs.CslPromised.{IsExactlyCsl}
use Rattle.csl_driver.specs.CslTasks.{csl_tasks}
use Rattle.csl_driver.specs.Promised.{CanBeAnswered}
use Rattle.csl_driver.proofs.CslSteps.{same-job}
use Rattle.driver_writers.specs.Writing.{asked_for, writing_of}
use Rattle.csl_driver.proofs.driver.BibliographyDriver.answer_csl_with.Goals as goal

pub returns-in_err-cited-clause-finished : goal.returns-in_err-cited-clause-finished
returns-in_err-cited-clause-finished g c =
    let requests = sym (c.in_ok-requests.ensures.requests ∙ c.deref.ensures.value) in
    let wanted = sym c.in_ok-requests.ensures.wanted in
    rw (requests, wanted) (search rules)

pub returns-in-Ok : goal.returns-in-Ok
returns-in-Ok g c =
    let eq = g.T.PartialEq.eq in
    let peq = g.P.PartialEq.eq in
    let Way = g.W.CiteWriter.Way in
    let old = λ (way : Way). g.W.CiteWriter.state c.args.writer.now way in
    let writing = λ (way : Way). writing_of g.T.EntryLike.answers (old way) in
    let same = same-job c.args.self.now c.args.request.now (c.in_ok-requests.ensures.requests ∙ c.deref.ensures.value) c.in_ok-cited.ensures.offset c.in_ok-requests.ensures.wanted in
    let exact = λ (way : Way) (ok : _). subst (λ j. IsExactlyCsl eq peq (writing way) j c.in-Ok.answer) same (c.in-Ok.ensures.answer way ok) in
    record {
      finished = record {
        answer = λ way ok. record { exact = exact way ok; laws = c.csl_answers_keep_laws.ensures (writing way) _ c.in-Ok.answer (exact way ok) };
        possible = subst (CanBeAnswered eq) same (record {
          no_ring = (c.in_ok-requests.requests.no_ring, c.in_ok-requests.wanted.no_ring);
          fits = c.in_ok-cited.ensures.known.fits;
        });
        refused = tt;
      };
      asked = λ way ok. c.in-Ok.ensures.asked way ok ∙ ap (λ j. asked_for (csl_tasks eq j (writing way) peq) (old way)) same;
      agreed = c.in-Ok.ensures.agreed;
      unasked = tt;
    }

pub returns-clause-finished : goal.returns-clause-finished
returns-clause-finished g c =
    let requests = sym (c.in_ok-requests.ensures.requests ∙ c.deref.ensures.value) in
    let wanted = sym c.in_ok-requests.ensures.wanted in
    let offset = sym c.in_ok-cited.ensures.offset in
    rw (requests, wanted, offset) (record {
      answer = tt;
      possible = tt;
      refused = record {
        no_ring = (c.in_ok-requests.requests.no_ring, c.in_ok-requests.wanted.no_ring);
        fits = c.in_ok-cited.ensures.known.fits;
      };
    })
