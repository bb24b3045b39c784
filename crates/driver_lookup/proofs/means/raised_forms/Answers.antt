use Rattle.driver_lookup.proofs.Raised.{raised-more}
use Rattle.driver_lookup.proofs.means.raised_forms.Goals as goal

pub loop-i-preserved : goal.loop-i-preserved
loop-i-preserved c =
    raised-more c.args.least.now c.args.forms.now c.loop-i.i c.loop-i.raised.items c.push.new.self.items _ c.at_least.result _ c.loop-i-test.true c.loop-i.invariant
    c.form_at.ensures c.at_least.ensures c.in_ok-push.ensures.items
