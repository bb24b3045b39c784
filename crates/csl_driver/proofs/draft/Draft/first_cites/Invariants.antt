use Rattle.std.proofs.Common.{◌≡◌, take}
use Rattle.std.specs.List.{filter_map}
use Rattle.driver_assembly.specs.BibliographyItems.{cites_at}
use Rattle.driver_entries.specs.TableView.{table_view}
use Rattle.driver_passes.specs.RendersView.{renders_view}
use Rattle.csl_driver.proofs.FirstCites.{first_of}
use Rattle.csl_driver.proofs.draft.Draft.first_cites.Given as goal

abbrev pub invariant-loop-entry : goal.invariant-loop-entry
invariant-loop-entry g l =
    cites_at (renders_view l.cites) l.firsts.items
    ≡ filter_map (first_of g.T.PartialEq.eq (table_view l.self.cited.now.table).entries (renders_view l.cites)) (take l.entry-index l.order)
