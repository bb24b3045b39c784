-- The plain data that what is rendered stands for.
use Rattle.value_sources.specs.Answers.{Answers}
use Rattle.csl_writing.specs.declared.subject.Subject as declared
use Rattle.layout_picking.specs.InputView.{cite_facts}
use Rattle.driver_lookup.specs.SourceView.{source_view}
use Rattle.csl_writing.specs.Subject.{Subject}

abbrev pub subject_view : {T : Type 0} → (T → Answers) → declared.Subject T → Subject
subject_view answers s = record {
  source = source_view s.context;
  answers = answers s.entry.now;
  cite = cite_facts s.cite;
  explicit_suffix = s.explicit_suffix;
}
