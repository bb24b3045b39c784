-- How much a writer is asked for where works are told apart as CSL 1.0.2 has it.
use Rattle.std.proofs.Common.{◌≡◌, Bool, List, ◌++◌, length, ◌∙◌, arith, length-append}
use Rattle.std.specs.Cmp.{IsEquivalence}
use Rattle.std.specs.List.{sum_by}
use Rattle.std.proofs.Math.ListN.{length-map}
use Rattle.csl_driver.specs.Account.{listed_count}
use Rattle.csl_driver.specs.Answer.{Job, used_order}
use Rattle.csl_driver.specs.AreCitesOf.{AreCitesOf}
use Rattle.csl_driver.specs.CslAccount.{csl_cost}
use Rattle.csl_driver.specs.CslAnswer.{cites_arranged, entry_suffixes, item_means, mentions, read, states, told_first_cites}
use Rattle.csl_driver.specs.CslTasks.{csl_tasks, mention_tasks, repeat_cite_tasks, state_task, told_item_tasks}
use Rattle.csl_driver.specs.WriterTasks.{last_tasks}
use Rattle.csl_driver.proofs.ListedCount.{means-counted}
use Rattle.csl_driver.proofs.Sizes.{size}
use Rattle.csl_driver.proofs.TaskCounts.{last-count, wanted-count}
use Rattle.driver_entries.specs.Table.{Table, table_of}
use Rattle.driver_passes.specs.Request.{cites_of}
use Rattle.mentions_tables.specs.Tables.{all_tasks}
use Rattle.driver_writers.specs.Tasks.{TaskValue}
use Rattle.driver_writers.specs.Writing.{Writing}

module _ {E P : Type 0} (eq : E → E → Bool) (laws : IsEquivalence eq) (payload_eq : P → P → Bool) (writing : Writing E P) (job : Job E P) (table : Table E) (is : table ≡ table_of eq job.requests)
    (belong : AreCitesOf eq table job.requests (cites_arranged eq job writing payload_eq)) (sized : sum_by size (cites_arranged eq job writing payload_eq) ≡ length (cites_of job.requests)) where
  items-count : length (told_item_tasks eq job writing payload_eq) ≡ listed_count eq job.wanted job.requests
  items-count =
      wanted-count job.wanted.style.bibliography _ _
      (length-map (told_first_cites eq job writing payload_eq) _
      ∙ means-counted eq laws (cites_arranged eq job writing payload_eq) job.requests (used_order job.wanted) table is belong (item_means (states eq job writing) (entry_suffixes eq job writing)))

  -- as much as the account says
  pub csl-count : length (csl_tasks eq job writing payload_eq) ≡ csl_cost eq job writing payload_eq
  csl-count =
      let first : List (TaskValue E P) = mention_tasks eq job writing in
      let repeated : List (TaskValue E P) = repeat_cite_tasks eq job writing payload_eq in
      let items : List (TaskValue E P) = told_item_tasks eq job writing payload_eq in
      let last : List (TaskValue E P) = last_tasks (cites_arranged eq job writing payload_eq) in
      let first_seam = length-append (first ++ repeated) (items ++ last) in
      let second_seam = length-append first repeated in
      let third_seam = length-append items last in
      let in_first = length-map (all_tasks (read eq job writing) (mentions eq job)) (state_task writing.cite) in
      let in_items = items-count in
      let in_last = last-count (cites_arranged eq job writing payload_eq) ∙ sized in
      omega (arith, first_seam, second_seam, third_seam, in_first, in_items, in_last)
