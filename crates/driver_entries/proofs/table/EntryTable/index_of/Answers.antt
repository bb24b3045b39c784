use Rattle.std.proofs.Common.{◌∙◌}
use Rattle.driver_entries.proofs.Sets.{position-view}
use Rattle.driver_entries.proofs.table.EntryTable.index_of.Goals as goal

pub returns : goal.returns
returns g c =
    c.index_of.ensures
    ∙ position-view (λ e. e.now) g.T.PartialEq.eq c.args.entry.now c.args.self.now.entries.keys
