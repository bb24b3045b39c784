use Rattle.std.proofs.Common.{refl}
use Rattle.mentions_groups.proofs.Numbering.{adding-next}
use Rattle.mentions_groups.proofs.counted.adding.Goals as goal

pub loop-entry-preserved : goal.loop-entry-preserved
loop-entry-preserved c =
    adding-next c.args.entries.now c.loop-entry.entry-index _ _ c.loop-entry-test.true refl c.loop-entry.adding.keys c.add_class.new.adding.keys c.loop-entry.invariant
    c.in_ok-add_class.ensures
