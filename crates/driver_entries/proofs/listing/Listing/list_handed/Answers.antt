use Rattle.std.proofs.Common.{◌∙◌}
use Rattle.driver_entries.specs.TableView.{table_view}
use Rattle.driver_entries.proofs.Orders.{handed-more}
use Rattle.driver_entries.proofs.listing.Listing.list_handed.Goals as goal

pub loop-entry-preserved : goal.loop-entry-preserved
loop-entry-preserved g c = record {
  listed = handed-more g.T.PartialEq.eq (λ e. e.now) (table_view c.args.table.now).entries c.args.order.now c.loop-entry.entry-index c.entry-item.result c.loop-entry-test.true c.entry-item.is
      c.args.self.now.order.items c.loop-entry.invariant.listed c.in_ok-list_if_cited.ensures.listed;
  count = c.in_ok-list_if_cited.ensures.count ∙ c.loop-entry.invariant.count;
  sound = c.in_ok-list_if_cited.ensures.sound;
}
