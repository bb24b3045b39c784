-- What is promised of how a driver finishes, from what is known of its steps.
use Rattle.std.proofs.Common.{◌≡◌, Bool, subst, sym}
use Rattle.std.specs.Prelude.{Err, Ok}
use Rattle.std.specs.declared.alloc.AllocError.{AllocError}
use Rattle.csl_driver.specs.Answer.{Job}
use Rattle.csl_driver.specs.Promised.{Finishes}
use Rattle.csl_driver.specs.Rings.{Refuses}
use Rattle.csl_driver.specs.declared.error.DriverError.{DriverError}
use Rattle.csl_driver.specs.declared.error.DriverError.TheVariants.{OutOfMemory}

module _ {E P : Type 0} (eq : E → E → Bool) (job : Job E P) where
  module _ {R S : Type 0} (holds : R → Type 0) (other : S → Type 0) where
    -- an answer of which something else follows
    pub answered-too : (r : R) (s : S) → (holds r → other s) → Finishes holds eq job (Ok r) → Finishes other eq job (Ok s)
    answered-too r s so f = record { answer = so f.answer; possible = f.possible; refused = tt }

    -- the same refusal
    pub refused-too : (e : DriverError) → Finishes holds eq job (Err e) → Finishes other eq job (Err e)
    refused-too e f = record { answer = tt; possible = tt; refused = f.refused }

  module _ {R : Type 0} (holds : R → Type 0) (e : DriverError) where
    -- a refusal that has its reason
    pub refused-for : Refuses eq job.requests job.wanted.style job.offset e → Finishes holds eq job (Err e)
    refused-for why = record { answer = tt; possible = tt; refused = why }

    pub out_of_memory : (a : AllocError) → e ≡ OutOfMemory a → Finishes holds eq job (Err e)
    out_of_memory a is = refused-for (subst (Refuses eq job.requests job.wanted.style job.offset) (sym is) tt)
