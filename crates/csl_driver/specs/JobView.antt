-- The plain data that is asked of a driver.
use Rattle.std.specs.Prelude.{ℕ, List}
use Rattle.csl_driver.specs.Answer.{Job}
use Rattle.csl_driver.specs.DriverView.{driver_view}
use Rattle.csl_driver.specs.declared.driver.BibliographyDriver.{BibliographyDriver}
use Rattle.driver_passes.specs.RequestView.{requests_view, wanted_view}
use Rattle.driver_passes.specs.declared.request.BibliographyRequest.{BibliographyRequest}
use Rattle.driver_passes.specs.declared.request.CitationRequest.{CitationRequest}

module _ {T P : Type 0} where
  -- these requests, numbers from the offset on, and this bibliography
  abbrev pub job_view : List (CitationRequest T P) → ℕ → BibliographyRequest T → Job T P
  job_view requests offset wanted =
      record { wanted = wanted_view wanted; requests = requests_view requests; offset = offset }

  -- the requests of a driver
  abbrev pub job_of : BibliographyDriver T P → BibliographyRequest T → Job T P
  job_of driver wanted =
      record {
        wanted = wanted_view wanted;
        requests = (driver_view driver).requests;
        offset = (driver_view driver).offset;
      }
