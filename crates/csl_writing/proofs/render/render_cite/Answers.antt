use Rattle.csl_writing.specs.SubjectView.{subject_view}
use Rattle.layout_context.specs.WritingState.{state}
use Rattle.csl_writing.proofs.CiteSteps.{cite_rendered}
use Rattle.csl_writing.proofs.render.render_cite.Goals as goal

pub returns : goal.returns
returns g c =
    cite_rendered (subject_view g.T.EntryLike.answers c.args.subject.now) c.args.purpose c.args.verdict (state c.in_spare_memory-writing.result) (state c.write_cite.new.writing) c.in_ok-notes.notes c.in_ok-tree.tree c.in_ok-children.children
    c.in_spare_memory-writing.ensures c.in_ok-notes.ensures c.in_ok-tree.ensures c.in_ok-children.ensures
