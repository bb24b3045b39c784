-- What comes of a table: the answer where it has all that is asked for, else what it lacks of that.
use Rattle.std.specs.Prelude.{◌≡◌, ◌≤◌, Bool, List, [], Option, All, Contains, IsSome}
use Rattle.value_sources.specs.Answers.{Answers}
use Rattle.csl_driver.specs.Answer.{Job}
use Rattle.csl_driver.specs.CslPromised.{IsCslAnswer}
use Rattle.csl_driver.specs.CslTasks.{csl_tasks}
use Rattle.csl_driver.specs.Promised.{CanBeAnswered, IsAnswer}
use Rattle.csl_driver.specs.WriterTasks.{tasks}
use Rattle.csl_driver.specs.declared.account.Account.{Account}
use Rattle.csl_driver.specs.declared.csl_account.CslAccount.{CslAccount}
use Rattle.driver_assembly.specs.declared.rendered.Rendered.{Rendered}
use Rattle.rounds_runs.specs.declared.mode.RoundMode.{RoundMode}
use Rattle.host_memo.specs.Keys.{stage, task_key}
use Rattle.host_driver.specs.Table.{IsMissingOf, table_writing}
use Rattle.host_driver.specs.declared.drive.Driven.{Driven}
use Rattle.host_driver.specs.declared.drive.Driven.TheVariants as results
use Rattle.host_memo.specs.declared.key.TaskKey.{TaskKey}
use Rattle.driver_writers.specs.Tasks.{TaskValue}
use Rattle.driver_writers.specs.declared.cite.Cite.{Cite}

module _ {E P : Type 0} (eq : E → E → Bool) (answers : E → Answers)
    (table : TaskKey → Option Cite) (job : Job E P) (asked : List (TaskValue E P)) where
  -- the answer is such, and nothing that is asked for is lacked
  pub record IsWholeAnswer {A : Type 0} (IsSuch : Rendered × A → Type 0) (r : Rendered × A)
      : Type 0 where
    pub possible : CanBeAnswered eq job
    pub answer : IsSuch r
    pub there : All (λ task. IsSome (table (task_key answers task))) asked

  -- these are asked for, and the table lacks them; they are of the earliest stage of all such keys,
  -- and all such keys of that stage
  pub record IsLackingOf (missing : List TaskKey) : Type 0 where
    pub possible : CanBeAnswered eq job
    pub each : All (IsMissingOf table answers asked) missing
    pub some : missing ≡ [] → ⊥
    pub earliest : (key : TaskKey) → IsMissingOf table answers asked key
        → All (λ named. stage named ≤ stage key) missing
    pub all : (key : TaskKey) → IsMissingOf table answers asked key
        → All (λ named. stage key ≤ stage named) missing → Contains missing key

  -- an answer that is such, or what is missing
  abbrev pub IsDrivenTo : {A : Type 0} → (Rendered × A → Type 0) → Driven A → Type 0
  IsDrivenTo IsSuch (results.Answer rendered account) = IsWholeAnswer IsSuch (rendered, account)
  IsDrivenTo IsSuch (results.Missing missing) = IsLackingOf missing.keys

module _ {E P : Type 0} (eq : E → E → Bool) (payload_eq : P → P → Bool) (answers : E → Answers)
    (table : TaskKey → Option Cite) (mode : RoundMode) (job : Job E P) where
  -- all that a driver asks for where it answers with what the table has
  abbrev pub asked_for_all : List (TaskValue E P)
  asked_for_all = tasks eq payload_eq (table_writing table answers) mode job

  -- the answer is the one with what the table has, and nothing that is asked for is lacked
  abbrev pub IsWhole : Rendered × Account E → Type 0
  IsWhole = IsWholeAnswer eq answers table job asked_for_all
      (IsAnswer eq payload_eq (table_writing table answers) mode job)

  -- these are what is lacked of the earliest stage
  abbrev pub IsLacking : List TaskKey → Type 0
  IsLacking = IsLackingOf eq answers table job asked_for_all

  abbrev pub IsDriven : Driven (Account E) → Type 0
  IsDriven = IsDrivenTo eq answers table job asked_for_all
      (IsAnswer eq payload_eq (table_writing table answers) mode job)

-- the same where works are told apart as CSL has it
module _ {E P : Type 0} (eq : E → E → Bool) (payload_eq : P → P → Bool) (answers : E → Answers)
    (table : TaskKey → Option Cite) (job : Job E P) where
  abbrev pub csl_asked_for_all : List (TaskValue E P)
  csl_asked_for_all = csl_tasks eq job (table_writing table answers) payload_eq

  abbrev pub IsCslWhole : Rendered × CslAccount E → Type 0
  IsCslWhole = IsWholeAnswer eq answers table job csl_asked_for_all
      (IsCslAnswer eq payload_eq (table_writing table answers) job)

  abbrev pub IsCslLacking : List TaskKey → Type 0
  IsCslLacking = IsLackingOf eq answers table job csl_asked_for_all

  abbrev pub IsCslDriven : Driven (CslAccount E) → Type 0
  IsCslDriven = IsDrivenTo eq answers table job csl_asked_for_all
      (IsCslAnswer eq payload_eq (table_writing table answers) job)
