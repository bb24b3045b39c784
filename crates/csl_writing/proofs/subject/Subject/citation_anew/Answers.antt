use Rattle.csl_writing.specs.SubjectView.{subject_view}
use Rattle.csl_writing.proofs.SectionSteps.{repeated_anew, other_anew}
use Rattle.csl_writing.proofs.subject.Subject.citation_anew.Goals as goal

pub returns-then-is_repeated : goal.returns-then-is_repeated
returns-then-is_repeated g c =
    let view = subject_view g.T.EntryLike.answers in
    repeated_anew (view c.args.self.now) (view c.as_different-different.result) c.args.form c.args.notes c.citation_section.result c.is_repeated.result
    c.is_repeated.ensures c.if-is_repeated.true c.as_different-different.ensures c.citation_section.ensures

pub returns : goal.returns
returns g c =
    other_anew (subject_view g.T.EntryLike.answers c.args.self.now) c.args.form c.args.notes c.no_section.result c.is_repeated.result
    c.is_repeated.ensures c.if-is_repeated.false c.no_section.ensures
