use Rattle.layout_picking.specs.Notes.{first_notes}
use Rattle.csl_writing.specs.Sections as sections
use Rattle.csl_writing.specs.SubjectView.{subject_view}
use Rattle.csl_writing.proofs.SectionSteps.{first_shown, other_shown}
use Rattle.csl_writing.proofs.subject.Subject.author_anew.Goals as goal

pub returns-then-has_parts : goal.returns-then-has_parts
returns-then-has_parts g c =
    let cite = subject_view g.T.EntryLike.answers c.args.self.now in
    let before = first_notes c.args.self.now.cite.usage in
    first_shown (sections.citation_anew cite c.args.form) (sections.author_listed cite c.args.form before) c.in_ok-anew.anew c.first_notes-notes.result before c.has_parts.result
    c.first_notes-notes.ensures c.in_ok-anew.ensures c.has_parts.ensures c.if-has_parts.true

pub returns : goal.returns
returns g c =
    let cite = subject_view g.T.EntryLike.answers c.args.self.now in
    let before = first_notes c.args.self.now.cite.usage in
    other_shown (sections.citation_anew cite c.args.form) (sections.author_listed cite c.args.form before) c.in_ok-anew.anew c.author_listed.result c.first_notes-notes.result before c.has_parts.result
    c.first_notes-notes.ensures c.in_ok-anew.ensures c.has_parts.ensures c.if-has_parts.false c.author_listed.ensures
