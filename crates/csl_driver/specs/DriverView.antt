-- The plain data that a driver stands for.
use Rattle.csl_driver.specs.Driver.{Driver}
use Rattle.driver_passes.specs.RequestView.{requests_view}
use Rattle.csl_driver.specs.declared.driver.BibliographyDriver.{BibliographyDriver}

abbrev pub driver_view : {T P : Type 0} → BibliographyDriver T P → Driver T P
driver_view d = record {
  requests = requests_view d.citations.items;
  offset = d.citation_number_offset;
}
