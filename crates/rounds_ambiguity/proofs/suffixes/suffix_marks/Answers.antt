use Rattle.std.proofs.lemmas.Result.{IfOk-weaker}
use Rattle.driver_passes.specs.RendersView.{renders_view}
use Rattle.rounds_ambiguity.specs.Members.{members}
use Rattle.rounds_ambiguity.proofs.FirstOnes.{suffixes-made}
use Rattle.rounds_ambiguity.proofs.suffixes.suffix_marks.Goals as goal

pub returns : goal.returns
returns g c =
    IfOk-weaker c.numbered.result _ _
    (λ v made. suffixes-made g.T.PartialEq.eq g.met.T.Eq.laws (members (renders_view c.args.cites.now) c.args.group.now) c.in_ok-firsts.firsts.keys c.as_slice.result.now v.items
    made c.as_slice.ensures c.in_ok-firsts.ensures)
    c.numbered.ensures
