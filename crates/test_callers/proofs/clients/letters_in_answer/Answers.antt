use Rattle.std.proofs.Common.{refl, sym}
use Rattle.std.specs.Prelude.{string_bytes}
use Rattle.std.proofs.lemmas.Option.{IfSome_then}
use Rattle.csl_driver.specs.JobView.{job_of}
use Rattle.csl_writing.specs.LayoutWriting.{layout_writing}
use Rattle.rounds_runs.specs.declared.mode.RoundMode.{RoundMode}
use Rattle.test_callers.proofs.Together.{letters-differ}
use Rattle.test_callers.proofs.clients.letters_in_answer.Goals as goal

pub returns : goal.returns
returns g c =
    let job = job_of c.args.driver c.args.request in
    let laws = c.in_ok-rendered.ensures.answer.laws in
    IfSome_then c.in_ok-letters.letters c.in_ok-letters.ensures.got
    (λ letters got.
    letters-differ g.T.PartialEq.eq g.met.T.Eq.laws g.P.PartialEq.eq (layout_writing g.T.EntryLike.answers) RoundMode.Three job (c.in_ok-rendered.rendered, c.in_ok-rendered.account) laws
    refl c.if-account-ne1.false c.args.first c.args.second (string_bytes letters.0) (string_bytes letters.1) c.requires (got RoundMode.Three job c.in_ok-rendered.rendered laws))
