-- What was written is put into the table one after another, while each task has one tree.
use Rattle.std.proofs.Common.{◌≡◌, true}
use Rattle.host_memo.specs.Written.{found}
use Rattle.document_values.proofs.Progress.{Progress}
use Rattle.document_tasks.specs.Known.{knows}
use Rattle.document_tasks.specs.WrittenForm.{Written, first_written, has_one_tree_each, written_form}
use Rattle.document_tasks.proofs.written.table_of_items.Given as goal

abbrev pub invariant-loop-place : goal.invariant-loop-place
invariant-loop-place l = record {
  written : Written;
  so_far : Progress (written_form (knows l.known)) l.items l.place written;
  first : found l.table ≡ first_written written;
  one_tree : has_one_tree_each written ≡ true;
}
