use Rattle.driver_entries.proofs.Placed.{inserted}
use Rattle.driver_entries.proofs.Sets.{insert-view}
use Rattle.driver_entries.proofs.table.place_entry.Goals as goal

pub returns-clause-added : goal.returns-clause-added
returns-clause-added g c =
    insert-view (λ e. e.now) g.T.PartialEq.eq _ c.args.entries.now.keys c.insert.new.self.keys c.in_ok-place.ensures.keys

pub returns-clause-placed : goal.returns-clause-placed
returns-clause-placed g c =
    inserted g.T.PartialEq.eq g.met.T.Eq.laws (λ e. e.now) _ c.args.entries.now.keys c.insert.new.self.keys
    c.in_ok-place.place c.in_ok-place.ensures.keys c.in_ok-place.ensures.index
