-- The driven document that a value of the program stands for; none where an index of its job points
-- to nothing.
use Rattle.std.specs.Prelude.{Option, Some}
use Rattle.host_memo.specs.Written.{found}
use Rattle.document_values.specs.Words.{◌>>=◌}
use Rattle.document_answer.specs.DocumentView.{document_view}
use Rattle.document_driven.specs.DrivenForm as form
use Rattle.document_driven.specs.declared.driving.DrivenDocument.{DrivenDocument}

abbrev pub driven_view : DrivenDocument → Option form.DrivenDocument
driven_view d = do
  document ← document_view d.document
  Some (record { document = document; table = found d.table })
