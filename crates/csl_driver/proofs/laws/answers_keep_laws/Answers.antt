use Rattle.csl_driver.proofs.KeptLaws.{keeps-laws}
use Rattle.csl_driver.proofs.laws.answers_keep_laws.Goals as goal

pub returns : goal.returns
returns g c = λ writing mode job r exact.
    keeps-laws g.T.PartialEq.eq g.met.T.Eq.laws c.bibliography_holds_each_once.ensures c.numbers_have_no_gaps.ensures writing g.P.PartialEq.eq mode job r exact
    c.grouped_in_final_order.ensures c.collapsed_can_be_read_back.ensures (c.runs_are_lawful.ensures writing)
