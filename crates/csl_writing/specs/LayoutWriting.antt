-- What the layouts of styles write.
use Rattle.std.specs.Prelude.{◌≡◌, List, [], Option}
use Rattle.std.proofs.Common.{ap}
use Rattle.value_sources.specs.Answers.{Answers}
use Rattle.value_trees.specs.Child.{Child}
use Rattle.driver_writers.specs.Tasks.{CiteTaskValue, DateTaskValue, ItemTaskValue}
use Rattle.driver_writers.specs.Writing.{AreWrittenEqually, Writing, WriterState}
use Rattle.driver_writers.specs.declared.cite.Cite.{Cite}
use Rattle.csl_writing.specs.CiteText.{bibliography_text, cite, date_text}

abbrev pub layout_date : {E : Type 0} → (E → Answers) → DateTaskValue E → List Child
layout_date answers t = date_text t.source (answers t.entry) t.suffix

module _ {E P : Type 0} (answers : E → Answers) where
  abbrev pub layout_cite : CiteTaskValue E P → Cite
  layout_cite t = cite t.source (answers t.entry) t.properties t.purpose t.verdict

  abbrev pub layout_item : ItemTaskValue E P → Option (List Child)
  layout_item t = bibliography_text t.source (answers t.entry) t.properties

  abbrev pub layout_writing : Writing E P
  layout_writing = record {
    answers = answers;
    cite = layout_cite;
    item = layout_item;
    date = layout_date answers;
  }

  -- a writer of layouts notes nothing
  abbrev pub layout_state : {N : Type 0} → WriterState E P N
  layout_state = record {
    cite = layout_cite;
    item = layout_item;
    date = layout_date answers;
    noting = λ task notes. notes;
    notes = [];
  }

-- entries that answer alike are written alike
pub layout_writes_equally : {E P N : Type 0} (answers : E → Answers) (a b : E)
    → answers a ≡ answers b
    → AreWrittenEqually (layout_state {E = E} {P = P} answers {N = N}) a b
layout_writes_equally answers a b e = record {
  cite = λ t. ap (λ x. cite t.source x t.properties t.purpose t.verdict) e;
  item = λ t. ap (λ x. bibliography_text t.source x t.properties) e;
  date = λ t. ap (λ x. date_text t.source x t.suffix) e;
}
