-- What comes of a driven document, and why nothing does.
use Rattle.std.specs.Prelude.{◌≡◌, ℕ, List, map, ◌++◌, Option, Result, Ok, Err, String, codes, string_bytes}
use Rattle.std.specs.declared.alloc.Global.{Global}
use Rattle.std.specs.declared.convert.Infallible.{Infallible}
use Rattle.serde_json.specs.Data.{array}
use Rattle.serde_json.specs.View.{items_of}
use Rattle.serde_json.specs.Written.{compact_text}
use Rattle.value_sources.specs.PlainEntry.{plain_answers}
use Rattle.value_sources.specs.declared.entry.PlainEntry.{PlainEntry}
use Rattle.driver_assembly.specs.declared.rendered.Rendered.{Rendered}
use Rattle.csl_driver.specs.Answer.{Job}
use Rattle.csl_driver.specs.declared.account.Account.{Account}
use Rattle.csl_driver.specs.declared.csl_account.CslAccount.{CslAccount}
use Rattle.write_json.specs.AnswerData.{answer_data}
use Rattle.driver_writers.specs.declared.cite.Cite.{Cite}
use Rattle.host_memo.specs.declared.key.TaskKey.{TaskKey}
use Rattle.host_driver.specs.Driven.{IsCslDriven, IsDriven}
use Rattle.host_driver.specs.declared.drive.Driven.{Driven}
use Rattle.host_driver.specs.declared.drive.Driven.TheVariants as results
use Rattle.document_requests.specs.declared.rounds.Rounds.{Rounds}
use Rattle.document_requests.specs.declared.rounds.Rounds.TheVariants as ways
use Rattle.document_tasks.specs.TaskData.{task_data}
use Rattle.document_answer.specs.Run.{IsDocumentThat, IsRefusedFor, document_job, same_plain_entry, same_own_payload}
use Rattle.document_answer.specs.declared.error.RunError.{RunError}
use Rattle.document_driven.specs.DrivenForm.{DrivenDocument}

-- the JSON of an answer
abbrev pub answer_text : Rendered → List ℕ
answer_text r = codes "{\"answer\":" ++ (compact_text (answer_data r) ++ codes "}")

-- the JSON of what is missing
abbrev pub missing_text : List TaskKey → List ℕ
missing_text keys =
    codes "{\"missing\":" ++ (compact_text (array (items_of (map task_data keys))) ++ codes "}")

abbrev pub driven_text : {A : Type 0} → Driven A → List ℕ
driven_text (results.Answer rendered account) = answer_text rendered
driven_text (results.Missing missing) = missing_text missing.keys

-- the text is that of the answer in these rounds, with what a table has, or of what is missing of
-- that
abbrev pub TellsIn : Rounds → (TaskKey → Option Cite) → Job PlainEntry Infallible → List ℕ → Type 0
TellsIn (ways.Mode mode) table job text = (r : Driven (Account PlainEntry))
    × IsDriven same_plain_entry same_own_payload plain_answers table mode job r
    × (text ≡ driven_text r)
TellsIn ways.Csl table job text = (r : Driven (CslAccount PlainEntry))
    × IsCslDriven same_plain_entry same_own_payload plain_answers table job r
    × (text ≡ driven_text r)

-- the text is that of what comes of the document, with what its host has written
abbrev pub Tells : List ℕ → DrivenDocument → Type 0
Tells text d = TellsIn (d.document).rounds d.table (document_job d.document) text

-- the text of what comes, or why nothing does
abbrev pub Drives : Result (String Global) RunError → Option DrivenDocument → Type 0
Drives (Ok text) read = IsDocumentThat read (Tells (string_bytes text))
Drives (Err e) read = IsRefusedFor (λ d. d.document) e read
