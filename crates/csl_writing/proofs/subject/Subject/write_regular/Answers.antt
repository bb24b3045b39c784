use Rattle.layout_picking.specs.Notes.{first_notes}
use Rattle.csl_writing.specs.Sections.{regular_section}
use Rattle.driver_lookup.specs.SourceView.{lookup_view}
use Rattle.csl_writing.specs.SubjectView.{subject_view}
use Rattle.layout_context.specs.WritingState.{state}
use Rattle.csl_writing.proofs.PlanSteps.{alone_carried}
use Rattle.csl_writing.proofs.subject.Subject.write_regular.Goals as goal

pub returns : goal.returns
returns g c =
    alone_carried (lookup_view c.args.self.now.context) (regular_section (subject_view g.T.EntryLike.answers c.args.self.now) c.args.verdict)
    c.in_ok-section.section c.write_section.result c.first_notes-notes.result (first_notes c.args.self.now.cite.usage) (state c.args.writing.now) (state c.write_section.new.writing)
    c.first_notes-notes.ensures c.in_ok-section.ensures c.write_section.ensures
