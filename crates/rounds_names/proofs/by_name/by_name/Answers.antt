use Rattle.std.proofs.Common.{subst, take}
use Rattle.rounds_names.specs.ByName.{AreByName, shown_by_all}
use Rattle.rounds_names.proofs.Holders.{none-by-name, shown-next}
use Rattle.rounds_names.proofs.by_name.by_name.Goals as goal

pub loop-member-init : goal.loop-member-init
loop-member-init c = none-by-name c.new-by_name.result c.new-by_name.ensures.empty

pub loop-member-preserved : goal.loop-member-preserved
loop-member-preserved c =
    subst (AreByName c.add_member.new.by_name) (shown-next c.args.group.now c.loop-member.member-index c.member-item.result c.loop-member-test.true c.member-item.is)
    (c.in_ok-add_member.ensures (shown_by_all (take c.loop-member.member-index c.args.group.now)) c.loop-member.invariant)
