-- For the code: what a draft answers, and where its entries stand.
use Rattle.value_sources.specs.declared.entry.EntryLike as entry_like
use Rattle.csl_driver.specs.Answer.{Job}
use Rattle.csl_driver.specs.JobView.{job_view}
use Rattle.csl_driver.specs.declared.draft.Draft.{Draft}
use Rattle.driver_entries.specs.Table.{Table}
use Rattle.driver_entries.specs.TableView.{table_view}
use Rattle.std.specs.declared.cmp.Ord as order
use Rattle.std.specs.declared.cmp.PartialEq as partial_eq
use Rattle.std.specs.declared.cmp.PartialOrd as partial_order

module _ {T P : Type 0} {entries : entry_like.Ghosts T} {ordered : order.Ghosts T}
    {equality : partial_eq.Ghosts T} {part_ordered : partial_order.Ghosts T} where
  abbrev pub job_in : Draft T P entries ordered equality part_ordered → Job T P
  job_in draft = job_view draft.requests.requests.now draft.cited.now.offset draft.wanted.wanted.now

  abbrev pub table_in : Draft T P entries ordered equality part_ordered → Table T
  table_in draft = table_view draft.cited.now.table
