use Rattle.csl_driver.proofs.driver.BibliographyDriver.finish_csl_with.Goals as goal

pub returns-clause-finished : goal.returns-clause-finished
returns-clause-finished g c = c.answer_csl_with.ensures.finished
