use Rattle.std.proofs.Common.{refl}
use Rattle.driver_passes.specs.RendersView.{item_view}
use Rattle.std.specs.Prelude.{Some}
use Rattle.rounds_grouping.proofs.Marks.{mark-more}
use Rattle.rounds_grouping.proofs.grouping.mark.Goals as goal

pub loop-i-preserved : goal.loop-i-preserved
loop-i-preserved g c =
    mark-more (Some c.args.delimiter.now) item_view c.args.placed.now c.args.items.now c.loop-i.items c.loop-i.i _ _ c.index-items-i.result c.mark_cite.new.cite
    c.loop-i-test.true c.requires refl c.index-items-i.is c.loop-i.invariant c.mark_cite.ensures
