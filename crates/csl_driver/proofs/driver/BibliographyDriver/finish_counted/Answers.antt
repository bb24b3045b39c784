use Rattle.csl_driver.proofs.driver.BibliographyDriver.finish_counted.Goals as goal

pub returns : goal.returns
returns g c = record {
  answer = c.in_ok-finish_with.ensures.finished.answer tt tt;
  possible = c.in_ok-finish_with.ensures.finished.possible;
  refused = tt;
}
