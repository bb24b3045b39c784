-- Tasks that read as what they were.
use Rattle.std.specs.Prelude.{◌≡◌, ⊤, Some, None}
use Rattle.host_memo.specs.declared.key.TaskKey.{TaskKey}
use Rattle.host_memo.specs.declared.key.TaskPart.{TaskPart}
use Rattle.driver_writers.specs.Tasks.{LastPlace}
use Rattle.document_tasks.specs.TaskData.{task_data}
use Rattle.document_tasks.specs.TaskForm.{key_form}

-- an item of the bibliography has no place
abbrev pub HasFittingPlace : TaskPart → LastPlace → Type 0
HasFittingPlace (TaskPart.Item standing) place = place ≡ None
HasFittingPlace _ place = ⊤

-- the data of such a task reads as the task
abbrev pub TasksReadBack : Type 0
TasksReadBack = (k : TaskKey) → HasFittingPlace k.part k.place → key_form (task_data k) ≡ Some k
