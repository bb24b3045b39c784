use Rattle.std.proofs.Common.{rules, sym, ◌∙◌}
use Rattle.csl_driver.proofs.driver.BibliographyDriver.answer_with.Goals as goal

pub returns-in_err-cited : goal.returns-in_err-cited
returns-in_err-cited g c =
    let requests = sym (c.in_ok-requests.ensures.requests ∙ c.deref.ensures.value) in
    let wanted = sym c.in_ok-requests.ensures.wanted in
    rw (requests, wanted) (search rules)

pub returns-in-Ok : goal.returns-in-Ok
returns-in-Ok g c =
    let requests = sym (c.in_ok-requests.ensures.requests ∙ c.deref.ensures.value) in
    let wanted = sym c.in_ok-requests.ensures.wanted in
    let offset = sym c.in_ok-cited.ensures.offset in
    rw (requests, wanted, offset) (record {
      finished = record {
        answer = c.in-Ok.ensures.answer;
        possible = record {
          no_ring = (c.in_ok-requests.requests.no_ring, c.in_ok-requests.wanted.no_ring);
          fits = c.in_ok-cited.ensures.known.fits;
        };
        refused = tt;
      };
      asked = c.in-Ok.ensures.asked;
      agreed = c.in-Ok.ensures.agreed;
      unasked = tt;
    })

pub returns-clause-finished : goal.returns-clause-finished
returns-clause-finished g c =
    let requests = sym (c.in_ok-requests.ensures.requests ∙ c.deref.ensures.value) in
    let wanted = sym c.in_ok-requests.ensures.wanted in
    let offset = sym c.in_ok-cited.ensures.offset in
    rw (requests, wanted, offset) (record {
      answer = tt;
      possible = tt;
      refused = record {
        no_ring = (c.in_ok-requests.requests.no_ring, c.in_ok-requests.wanted.no_ring);
        fits = c.in_ok-cited.ensures.known.fits;
      };
    })
