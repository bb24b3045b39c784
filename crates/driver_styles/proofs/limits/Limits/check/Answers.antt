use Rattle.std.proofs.Common.{rules}
use Rattle.value_styles.specs.StyleView.{bibliography_view}
use Rattle.driver_styles.specs.PreparedView.{prepared_view}
use Rattle.driver_styles.proofs.Counting.{exceeded-there}
use Rattle.driver_styles.proofs.limits.Limits.check.Goals as goal

pub returns-in-Some-clause-exceeded : goal.returns-in-Some-clause-exceeded
returns-in-Some-clause-exceeded c =
    let h = exceeded-there c.args.self.now (prepared_view c.args.style.now) (bibliography_view c.in-Some.bibliography) c.check_layout-in-Some.result in
    search (rules, h)
