use Rattle.std.proofs.Common.{◌≡◌, length, take}
use Rattle.driver_assembly.specs.ByMeans.{cites_with_means}
use Rattle.driver_entries.specs.TableView.{table_view}
use Rattle.driver_passes.specs.RendersView.{renders_view}
use Rattle.csl_driver.specs.CslAnswer.{item_means}
use Rattle.csl_driver.proofs.CslFirstCites.{firsts_with_means}
use Rattle.csl_driver.proofs.draft.Draft.told_first_cites.Given as goal

abbrev pub invariant-loop-index : goal.invariant-loop-index
invariant-loop-index g l =
    let cites = renders_view l.cites in
    let means = item_means l.told.states.items l.told.suffixes.items in
    record {
      long : length l.means.items ≡ length l.places.items;
      cites : cites_with_means cites l.places.items l.means.items
          ≡ firsts_with_means g.T.PartialEq.eq (table_view l.self.cited.now.table).entries cites means (take l.index l.order);
    }
