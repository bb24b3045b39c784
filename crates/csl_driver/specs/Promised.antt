-- What is promised of an answer, of its account, and of a refusal.
use Rattle.std.specs.Prelude.{
  ◌≡◌,
  ◌+◌,
  ◌-◌,
  ◌<◌,
  ◌^◌,
  Bool,
  IfErr,
  IfOk,
  OnOk,
  Result,
  length,
  map,
  min,
}
use Rattle.driver_assembly.specs.declared.rendered.Rendered.{Rendered}
use Rattle.driver_writers.specs.Writing.{Writing}
use Rattle.csl_driver.specs.Account.{cost, final_state, marking}
use Rattle.csl_driver.specs.Answer.{Job, final_number, rendered}
use Rattle.csl_driver.specs.AnswerLaws.{KeepsLaws}
use Rattle.csl_driver.specs.Rings.{NoRingAtAll, Refuses}
use Rattle.csl_driver.specs.declared.account.Account.{Account}
use Rattle.csl_driver.specs.declared.error.DriverError.{DriverError}
use Rattle.csl_driver.specs.declared.error.FinishError.{FinishError}
use Rattle.csl_driver.specs.declared.error.FinishError.TheVariants as errors
use Rattle.driver_entries.specs.Entries.{distinct}
use Rattle.driver_passes.specs.Request.{cited}
use Rattle.rounds_runs.specs.declared.mode.RoundMode.{RoundMode}

module _ {E P : Type 0} (eq : E → E → Bool) (payload_eq : P → P → Bool) (writing : Writing E P)
    (mode : RoundMode) (job : Job E P) (r : Rendered × Account E) where
  -- the answer to what is asked, with its account
  pub record IsExactly : Type 0 where
    pub ok : r.0 ≡ rendered eq payload_eq writing mode job
    -- the renderings and the rounds that marked; counts stand still at the greatest number of 128
    -- bits
    pub renders : r.1.renders ≡ min (cost eq payload_eq writing mode job) (2 ^ 128 - 1)
    pub rounds : r.1.rounds ≡ min (marking eq payload_eq writing mode job) (2 ^ 128 - 1)
    -- the distinct entries, in the order of their first cites; and at the same places their states
    -- and numbers
    pub entries : map (λ e. e.now) r.1.entries.items ≡ distinct eq (cited job.requests)
    pub states : r.1.states.items
        ≡ map (final_state eq payload_eq writing mode job) (distinct eq (cited job.requests))
    pub numbers : r.1.numbers.items
        ≡ map (final_number eq payload_eq writing mode job) (distinct eq (cited job.requests))

  -- it is that, and the laws hold of it
  pub record IsAnswer : Type 0 where
    pub exact : IsExactly
    pub laws : KeepsLaws eq payload_eq writing mode job r

module _ {E P : Type 0} (eq : E → E → Bool) (job : Job E P) where
  -- no style has a ring, and the numbers fit
  pub record CanBeAnswered : Type 0 where
    pub no_ring : NoRingAtAll job.requests job.wanted.style
    pub fits : job.offset + length (distinct eq (cited job.requests)) < 2 ^ 64

  -- the driver's refusals have their reasons; a writer may refuse where there might have been an
  -- answer
  abbrev pub RefusesWith : {X : Type 0} → FinishError X → Type 0
  RefusesWith (errors.Driver e) = Refuses eq job.requests job.wanted.style job.offset e
  RefusesWith (errors.Writer x) = CanBeAnswered

-- how a driver finishes: what is to hold of its answer holds; it answers only where it can; and
-- each refusal has its reason
pub record Finishes {E P R : Type 0} (holds : R → Type 0) (eq : E → E → Bool) (job : Job E P)
    (result : Result R DriverError) : Type 0 where
  pub answer : IfOk result holds
  pub possible : OnOk result (CanBeAnswered eq job)
  pub refused : IfErr result (Refuses eq job.requests job.wanted.style job.offset)

-- the same with a writer of the caller's own
pub record FinishesWith {E P X R : Type 0} (eq : E → E → Bool) (job : Job E P) (holds : R → Type 0)
    (result : Result R (FinishError X)) : Type 0 where
  pub answer : IfOk result holds
  pub possible : OnOk result (CanBeAnswered eq job)
  pub refused : IfErr result (RefusesWith eq job)

-- it holds where the driver itself refuses
abbrev pub WhereDriverRefuses : {X : Type 0} → Type 0 → FinishError X → Type 0
WhereDriverRefuses holds (errors.Driver e) = holds
WhereDriverRefuses holds (errors.Writer x) = Unit {0}
