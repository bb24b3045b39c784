use Rattle.layout_picking.specs.Notes.{first_notes}
use Rattle.driver_lookup.specs.SourceView.{lookup_view}
use Rattle.csl_writing.specs.SubjectView.{subject_view}
use Rattle.layout_context.specs.WritingState.{state}
use Rattle.csl_writing.proofs.PlanSteps.{prose_carried}
use Rattle.csl_writing.proofs.subject.Subject.write_prose.Goals as goal

pub returns : goal.returns
returns g c =
    prose_carried (lookup_view c.args.self.now.context) (subject_view g.T.EntryLike.answers c.args.self.now) c.args.verdict (first_notes c.args.self.now.cite.usage) c.in_ok-notes.notes c.in_ok-noted.noted c.in_ok-rest.rest
    (state c.args.writing.now) (state c.write_author.new.writing) (state c.write_gap.new.writing) (state c.write_enclosing.new.writing) (state c.write_section.new.writing) (state c.write_enclosing-2.new.writing)
    c.in_ok-notes.ensures c.in_ok-write_gap.ensures c.in_ok-write_enclosing.ensures c.in_ok-rest.ensures c.in_ok-noted.ensures c.in_ok-write_enclosing-2.ensures
