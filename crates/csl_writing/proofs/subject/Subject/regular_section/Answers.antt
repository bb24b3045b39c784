use Rattle.std.proofs.Common.{subst}
use Rattle.std.specs.Prelude.{IfOk}
use Rattle.csl_writing.specs.SectionView.{IsSection}
use Rattle.csl_writing.specs.Sections.{citation_section}
use Rattle.csl_writing.specs.SubjectView.{subject_view}
use Rattle.csl_writing.proofs.subject.Subject.regular_section.Goals as goal

pub returns : goal.returns
returns g c =
    subst (λ form. IfOk c.citation_section.result (λ s. IsSection s (citation_section (subject_view g.T.EntryLike.answers c.args.self.now) form c.args.notes)))
    c.verdict_form.ensures c.citation_section.ensures
