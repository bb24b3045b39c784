use Rattle.std.proofs.Common.{subst}
use Rattle.std.specs.Prelude.{IfOk}
use Rattle.layout_picking.specs.Notes.{first_notes}
use Rattle.csl_writing.specs.SectionView.{IsSection}
use Rattle.csl_writing.specs.Sections as sections
use Rattle.csl_writing.specs.SubjectView.{subject_view}
use Rattle.csl_writing.proofs.SectionSteps.{first_shown, other_shown}
use Rattle.csl_writing.proofs.subject.Subject.author_in_form.Goals as goal

pub returns-then-has_parts : goal.returns-then-has_parts
returns-then-has_parts g c =
    let cite = subject_view g.T.EntryLike.answers c.args.self.now in
    let before = first_notes c.args.self.now.cite.usage in
    subst (λ form. IsSection c.in_ok-usual.usual (sections.shown_or (sections.citation_section cite form before) (sections.author_anew cite form before))) c.requires.form
    (first_shown (sections.citation_section cite c.args.form) (sections.author_anew cite c.args.form before) c.in_ok-usual.usual c.first_notes-notes.result before c.has_parts.result
    c.first_notes-notes.ensures c.in_ok-usual.ensures c.has_parts.ensures c.if-has_parts.true)

pub returns : goal.returns
returns g c =
    let cite = subject_view g.T.EntryLike.answers c.args.self.now in
    let before = first_notes c.args.self.now.cite.usage in
    subst (λ form. IfOk c.author_anew.result (λ s. IsSection s (sections.shown_or (sections.citation_section cite form before) (sections.author_anew cite form before)))) c.requires.form
    (other_shown (sections.citation_section cite c.args.form) (sections.author_anew cite c.args.form before) c.in_ok-usual.usual c.author_anew.result c.first_notes-notes.result before c.has_parts.result
    c.first_notes-notes.ensures c.in_ok-usual.ensures c.has_parts.ensures c.if-has_parts.false c.author_anew.ensures)
