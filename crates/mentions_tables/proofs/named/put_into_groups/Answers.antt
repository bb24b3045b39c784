use Rattle.std.proofs.Common.{arith, refl}
use Rattle.mentions_tables.specs.Steps.{in_group}
use Rattle.mentions_tables.proofs.Changing.{changed-all, changed-more, changed-none}
use Rattle.mentions_tables.proofs.named.put_into_groups.Goals as goal

pub loop-k-init : goal.loop-k-init
loop-k-init c = changed-none in_group c.args.groups.now c.args.named.now

pub loop-k-preserved : goal.loop-k-preserved
loop-k-preserved c =
    let test = c.loop-k-test.true in
    let same = c.requires in
    changed-more in_group c.loop-k.k c.args.groups.now c.args.named.now c.loop-k.named _ _ _ _ c.loop-k.invariant (omega arith) test refl refl

pub returns : goal.returns
returns c =
    let test = c.loop-k-test.false in
    let same = c.requires in
    changed-all in_group c.loop-k.k c.args.groups.now c.args.named.now c.loop-k.named c.loop-k.invariant (omega arith)
