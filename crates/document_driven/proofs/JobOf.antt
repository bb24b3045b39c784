-- What comes of what a driver was job is what comes of the document.
use Rattle.std.proofs.Common.{◌≡◌, ℕ, List, Option, subst}
use Rattle.std.specs.declared.convert.Infallible.{Infallible}
use Rattle.value_sources.specs.declared.entry.PlainEntry.{PlainEntry}
use Rattle.csl_driver.specs.Answer.{Job}
use Rattle.csl_driver.specs.Driver.{Driver}
use Rattle.driver_passes.specs.Request.{Wanted}
use Rattle.host_memo.specs.declared.key.TaskKey.{TaskKey}
use Rattle.driver_writers.specs.declared.cite.Cite.{Cite}
use Rattle.document_requests.specs.Form.{Document}
use Rattle.document_requests.specs.declared.rounds.Rounds.{Rounds}
use Rattle.document_answer.specs.Run.{accepted, document_job, bibliography_of}
use Rattle.document_driven.specs.Drive.{TellsIn}

module _ (v : Driver PlainEntry Infallible) (w : Wanted PlainEntry) (d : Document) (p : v ≡ record { requests = accepted d.requests; offset = d.offset }) (q : w ≡ bibliography_of d) where
  abbrev job : Job PlainEntry Infallible
  job = record { wanted = w; requests = v.requests; offset = v.offset }

  same_job : job ≡ document_job d
  same_job = λ i. record { wanted = q i; requests = (p i).requests; offset = (p i).offset }

  pub comes : (table : TaskKey → Option Cite) (rounds : Rounds) (text : List ℕ) → TellsIn rounds table job text → TellsIn rounds table (document_job d) text
  comes table rounds text = subst (λ a. TellsIn rounds table a text) same_job
