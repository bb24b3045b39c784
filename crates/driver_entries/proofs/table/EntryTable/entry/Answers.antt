use Rattle.std.proofs.Common.{Some, ap, get_or, sym, ◌∙◌}
use Rattle.driver_entries.proofs.Cited.{entry-at}
use Rattle.driver_entries.proofs.table.EntryTable.entry.Goals as goal

pub returns : goal.returns
returns g c =
    entry-at c.args.self.now.entries.keys c.args.place c.index-as_slice-place.result c.requires.within
    ∙ ap (λ keys. Some (get_or keys c.args.place c.index-as_slice-place.result).now) (sym c.as_slice.ensures)
    ∙ ap (λ e. Some e.now) (sym c.index-as_slice-place.is)
