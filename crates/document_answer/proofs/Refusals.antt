-- What the driver answers to a document's requests, and what it refuses, is of the document.
use Rattle.std.proofs.Common.{◌≡◌, ℕ, Bool, List, Some, refl, ap, sym, ◌∙◌, subst}
use Rattle.std.specs.declared.alloc.AllocError.{AllocError}
use Rattle.std.specs.declared.convert.Infallible.{Infallible}
use Rattle.value_sources.specs.declared.entry.PlainEntry.{PlainEntry}
use Rattle.driver_passes.specs.Request.{Wanted}
use Rattle.csl_driver.specs.Driver.{Driver}
use Rattle.csl_driver.specs.OwnError.{own_error}
use Rattle.csl_driver.specs.Promised.{CanBeAnswered, RefusesWith}
use Rattle.csl_driver.specs.Rings.{IsFirstRingOf, NoRingAtAll, Overflows, Refuses}
use Rattle.csl_driver.specs.declared.error.DriverError.{DriverError}
use Rattle.csl_driver.specs.declared.error.DriverError.TheVariants as drivers
use Rattle.csl_driver.specs.declared.error.FinishError.{FinishError}
use Rattle.csl_driver.specs.declared.error.FinishError.TheVariants as finishes
use Rattle.csl_driver.specs.declared.error.RingLocation.{RingLocation}
use Rattle.driver_assembly.specs.declared.rendered.Rendered.{Rendered}
use Rattle.document_requests.specs.Form.{Document}
use Rattle.document_requests.specs.declared.rounds.Rounds.{Rounds}
use Rattle.document_answer.specs.Run.{same_plain_entry, accepted, bibliography_of, answer, answer_in, HasAnswer, HasFirstRing, HasTooLargeNumbers, IsRefusedFor}
use Rattle.document_answer.specs.Status.{refused}

module _ (v : Driver PlainEntry Infallible) (w : Wanted PlainEntry) (d : Document) (p : v ≡ record { requests = accepted d.requests; offset = d.offset }) (q : w ≡ bibliography_of d) where
  pub has_answer : CanBeAnswered same_plain_entry (record { wanted = w; requests = v.requests; offset = v.offset }) → HasAnswer d
  has_answer can =
      subst (λ x. CanBeAnswered same_plain_entry (record { wanted = bibliography_of d; requests = x.requests; offset = x.offset })) p
      (subst (λ (x : Wanted PlainEntry). CanBeAnswered same_plain_entry (record { wanted = x; requests = v.requests; offset = v.offset })) q can)

  pub is_answer : (rounds : Rounds) (r : Rendered) → rounds ≡ d.rounds → r ≡ answer_in rounds (record { wanted = w; requests = v.requests; offset = v.offset }) → r ≡ answer d
  is_answer rounds r m e =
      e ∙ ap (λ x. answer_in x (record { wanted = w; requests = v.requests; offset = v.offset })) m
      ∙ ap (λ x. answer_in d.rounds (record { wanted = x; requests = v.requests; offset = v.offset })) q
      ∙ ap (λ x. answer_in d.rounds (record { wanted = bibliography_of d; requests = x.requests; offset = x.offset })) p

  first_ring : (place : RingLocation) (i : ℕ) → IsFirstRingOf v.requests w.style place i → HasFirstRing place i d
  first_ring place i h =
      subst (λ x. IsFirstRingOf x.requests d.style place i) p (subst (λ (x : Wanted PlainEntry). IsFirstRingOf v.requests x.style place i) q h)

  too_large : NoRingAtAll v.requests w.style × Overflows same_plain_entry v.requests v.offset → HasTooLargeNumbers d
  too_large h =
      subst (λ x. NoRingAtAll x.requests d.style × Overflows same_plain_entry x.requests x.offset) p
      (subst (λ (x : Wanted PlainEntry). NoRingAtAll v.requests x.style × Overflows same_plain_entry v.requests v.offset) q h)

  -- what the driver refuses is refused of what asks for the document
  pub refused-for : {D : Type 0} (document : D → Document) (x : D) → document x ≡ d → (e : DriverError) → Refuses same_plain_entry v.requests w.style v.offset e → IsRefusedFor document (refused e) (Some x)
  refused-for document x same (drivers.MacroRing place i) h = (x, refl, subst (HasFirstRing place i) (sym same) (first_ring place i h))
  refused-for document x same drivers.NumberOverflow h = (x, refl, subst HasTooLargeNumbers (sym same) (too_large h))
  refused-for document x same (drivers.OutOfMemory e) h = tt

  -- and so is what it refuses with its own writer
  pub refused-with : {D : Type 0} (document : D → Document) (x : D) → document x ≡ d → (e : FinishError AllocError) → RefusesWith same_plain_entry (record { wanted = w; requests = v.requests; offset = v.offset }) e → IsRefusedFor document (refused (own_error e)) (Some x)
  refused-with document x same (finishes.Driver e) h = refused-for document x same e h
  refused-with document x same (finishes.Writer a) h = tt
