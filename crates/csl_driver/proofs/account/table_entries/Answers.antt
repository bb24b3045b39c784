use Rattle.driver_entries.specs.TableView.{table_view}
use Rattle.csl_driver.proofs.ByEntries.{one-taken}
use Rattle.csl_driver.proofs.account.table_entries.Goals as goal

pub loop-place-preserved : goal.loop-place-preserved
loop-place-preserved g c =
    one-taken (λ e. e.now) (table_view c.args.table.now).entries c.loop-place.place c.loop-place.entries.items c.push.new.self.items c.entry.result c.in_ok-push.ensures.items c.loop-place.invariant c.entry.ensures
