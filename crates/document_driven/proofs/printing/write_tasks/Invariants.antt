-- What is left is yet to be written.
use Rattle.std.proofs.Common.{◌≡◌, ◌++◌, drop, map, string_bytes}
use Rattle.serde_json.specs.Data.{array}
use Rattle.serde_json.specs.View.{items_of}
use Rattle.serde_json.specs.Written.{compact_text}
use Rattle.document_tasks.specs.TaskData.{task_data}
use Rattle.document_driven.proofs.Tasks.{rest_text}
use Rattle.document_driven.proofs.printing.write_tasks.Given as goal

abbrev pub invariant-loop-task : goal.invariant-loop-task
invariant-loop-task l = string_bytes l.out ++ rest_text l.later (drop l.task-index l.tasks) ≡ string_bytes l.fn.out ++ compact_text (array (items_of (map task_data l.tasks)))
