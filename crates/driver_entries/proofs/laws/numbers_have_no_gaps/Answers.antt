use Rattle.driver_entries.proofs.Once.{holds_each_once, without_gaps}
use Rattle.driver_entries.specs.Entries.{bibliography_order}
use Rattle.driver_entries.proofs.laws.numbers_have_no_gaps.Goals as goal

pub returns : goal.returns
returns g c = λ offset order cited.
    let eq = g.T.PartialEq.eq in
    let laws = g.met.T.Eq.laws in
    let each = holds_each_once eq laws order cited in
    without_gaps eq laws offset (bibliography_order eq order cited) each.once
