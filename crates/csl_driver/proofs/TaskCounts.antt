-- How much a writer is asked for.
use Rattle.std.proofs.Common.{◌≡◌, ℕ, suc, ◌+◌, Bool, cond, List, [], ◌∷◌, ◌++◌, Option, Some, None, length, map, refl, ap, sym, ◌∙◌, arith, filter, length-append, take}
use Rattle.std.specs.Prelude.{is_some, zip}
use Rattle.std.specs.Cmp.{IsEquivalence}
use Rattle.std.specs.List.{enumerate_from, flat_map, sum_by}
use Rattle.std.proofs.Math.ListN.{length-map}
use Rattle.std.proofs.lemmas.List.Concat.{length-flat_map}
use Rattle.std.proofs.lemmas.List.Elements.{filter-append}
use Rattle.std.proofs.lemmas.List.Sums.{sum_by-cons}
use Rattle.driver_assembly.specs.CitationTree.{citation_tasks}
use Rattle.rounds_grouping.specs.Collapsed.{collapsed_finally}
use Rattle.csl_driver.specs.Account.{cost, listed_count, rerendered, where_listed}
use Rattle.csl_driver.specs.Answer.{Job, entries_listed, listed_first_cites, in_final_order, in_the_end, used_order, rendered_first}
use Rattle.csl_driver.specs.WriterTasks.{begun_tasks, last_tasks, listed_tasks, tasks, where_wanted}
use Rattle.csl_driver.proofs.FirstPlaced.{first-cited}
use Rattle.csl_driver.proofs.ListedCount.{firsts-counted}
use Rattle.csl_driver.proofs.Sizes.{first-size, last-size, size, sum-same}
use Rattle.csl_driver.proofs.Standing.{final-stand, ordered-stand}
use Rattle.driver_entries.specs.Entries.{number}
use Rattle.driver_entries.specs.Table.{table_of}
use Rattle.driver_lookup.specs.declared.state.DisambiguateState.{DisambiguateState}
use Rattle.driver_passes.specs.Renders.{CiteRender, ItemRender}
use Rattle.driver_passes.specs.Request.{Request, cites_of}
use Rattle.driver_passes.specs.declared.first.FirstProperties.{FirstProperties}
use Rattle.driver_positions.specs.FirstProperties.{first_properties}
use Rattle.rounds_runs.proofs.Twice.{same-entries}
use Rattle.rounds_runs.specs.FirstRenders.{first_renders_of, first_tasks_of}
use Rattle.rounds_runs.specs.Rerenders.{marked_among, rerenders}
use Rattle.rounds_runs.specs.Rounds.{StateTable, again_tasks, again_tasks_of, at_table, entries_cited, tasks_with}
use Rattle.rounds_runs.specs.Tables.{marked_at, round_tables, round_tasks, rounds, tables}
use Rattle.rounds_runs.specs.declared.mode.RoundMode.{RoundMode}
use Rattle.driver_writers.specs.Tasks.{TaskValue}
use Rattle.driver_writers.specs.Writing.{Writing}

sum-map : {X Y : Type 0} (v : Y → ℕ) (f : X → Y) (xs : List X) → sum_by v (map f xs) ≡ sum_by (λ x. v (f x)) xs
sum-map v f [] = refl
sum-map v f (x ∷ xs) = sum_by-cons v (f x) (map f xs) ∙ ap (λ n. v (f x) + n) (sum-map v f xs) ∙ sym (sum_by-cons (λ y. v (f y)) x xs)

sum-numbered : {X : Type 0} (v : X → ℕ) (n : ℕ) (xs : List X) → sum_by (λ p. v p.1) (enumerate_from n xs) ≡ sum_by v xs
sum-numbered v n [] = refl
sum-numbered v n (x ∷ xs) =
    sum_by-cons (λ p. v p.1) (n, x) (enumerate_from (n + 1) xs) ∙ ap (λ m. v x + m) (sum-numbered v (n + 1) xs) ∙ sym (sum_by-cons v x xs)

module _ {E P : Type 0} (table : StateTable E) where
  -- a cite is asked for again where the table has a state for its entry
  again-row : (request : Request E P) (items : List (ItemRender E P))
      → length (flat_map (λ i. tasks_with request (table i.entry) i) items) ≡ marked_among (map (λ i. i.entry) items) table
  again-row request [] = refl
  again-row request (i ∷ items) = by (again-row request items) (table i.entry)
    where
      more : List (TaskValue E P)
      more = flat_map (λ i. tasks_with request (table i.entry) i) items

      kept : List E
      kept = filter (λ e. is_some (table e)) (map (λ i. i.entry) items)

      by : length more ≡ length kept → (o : Option DisambiguateState) → length (tasks_with request o i ++ more) ≡ length (cond (is_some o) (i.entry ∷ kept) kept)
      by rest None = rest
      by rest (Some s) = ap suc rest

  again-count : (cites : List (CiteRender E P)) → length (again_tasks table cites) ≡ marked_among (entries_cited cites) table
  again-count [] = refl
  again-count (c ∷ cs) =
      let own : List E = map (λ i. i.entry) c.items in
      length-append (again_tasks_of table c) (again_tasks table cs)
      ∙ (λ j. again-row c.request c.items j + again-count cs j)
      ∙ sym (ap length (filter-append (λ e. is_some (table e)) own (entries_cited cs)) ∙ length-append (filter (λ e. is_some (table e)) own) (filter (λ e. is_some (table e)) (entries_cited cs)))

pub last-count : {E P : Type 0} (cites : List (CiteRender E P)) → length (last_tasks cites) ≡ sum_by size cites
last-count cites =
    length-flat_map (λ c. citation_tasks c.0 c.1) (enumerate_from 0 cites)
    ∙ sum-same (λ c. length (citation_tasks c.0 c.1)) (λ c. size c.1) (λ c. length-map c.1.items _) (enumerate_from 0 cites)
    ∙ sum-numbered size 0 cites

-- where there is a bibliography
pub wanted-count : {B X : Type 0} (o : Option B) (ts : List X) (n : ℕ) → length ts ≡ n → length (where_wanted o ts) ≡ where_listed o n
wanted-count None ts n same = refl
wanted-count (Some b) ts n same = same

module _ {E P : Type 0} (eq : E → E → Bool) (laws : IsEquivalence eq) (payload_eq : P → P → Bool) (writing : Writing E P) (mode : RoundMode) (job : Job E P) where
  abbrev firsts : List (CiteRender E P)
  firsts = rendered_first eq payload_eq writing job

  abbrev in_end : List (CiteRender E P)
  in_end = in_the_end eq payload_eq writing mode job

  begun-count : length (begun_tasks eq payload_eq job) ≡ length (cites_of job.requests)
  begun-count =
      let properties = first_properties eq payload_eq (number eq job.offset (entries_listed eq job.wanted job.requests)) job.requests in
      let rows : List (Request E P × List FirstProperties) = zip job.requests properties in
      length-flat_map (λ r. first_tasks_of r.0 r.1) rows
      ∙ sum-same (λ r. length (first_tasks_of r.0 r.1)) (λ r. size (first_renders_of writing r.0 r.1))
      (λ r. length-map (zip r.0.cites r.1) _ ∙ sym (length-map (zip r.0.cites r.1) _)) rows
      ∙ sym (sum-map size (λ r. first_renders_of writing r.0 r.1) rows) ∙ first-size eq payload_eq writing mode job

  rounds-count : length (round_tasks mode eq writing firsts) ≡ rerendered eq payload_eq writing mode job
  rounds-count =
      let done : List (StateTable E) = take (rounds mode eq writing firsts) (tables mode eq writing firsts) in
      let marked : StateTable E → StateTable E = marked_at mode eq writing firsts in
      length-flat_map (λ t. again_tasks (marked t) (at_table writing t firsts)) done
      ∙ sum-same (λ t. length (again_tasks (marked t) (at_table writing t firsts))) (λ t. marked_among (entries_cited firsts) (marked t))
      (λ t. again-count (marked t) (at_table writing t firsts) ∙ ap (λ es. marked_among es (marked t)) (same-entries writing t firsts)) done
      ∙ sym (sum-map (marked_among (entries_cited firsts)) marked done)
      ∙ ap (λ es. rerenders es (round_tables mode eq writing firsts))
      (first-cited eq payload_eq writing (number eq job.offset (entries_listed eq job.wanted job.requests)) [] job.requests)

  listed-count : length (listed_tasks eq payload_eq writing mode job) ≡ listed_count eq job.wanted job.requests
  listed-count =
      let table = table_of eq job.requests in
      let ordered = ordered-stand laws writing payload_eq job {table = table} refl {begun = firsts} refl mode {told = _} {ordered = in_final_order eq payload_eq writing mode job} refl refl in
      let stand = final-stand eq laws writing table job.requests (in_final_order eq payload_eq writing mode job) ordered payload_eq _ in
      wanted-count job.wanted.style.bibliography _ _
      (length-map (listed_first_cites eq payload_eq writing mode job) _ ∙ firsts-counted eq laws in_end job.requests (used_order job.wanted) table refl stand)

  -- as much as the account says
  pub task-count : length (tasks eq payload_eq writing mode job) ≡ cost eq payload_eq writing mode job
  task-count =
      let begun : List (TaskValue E P) = begun_tasks eq payload_eq job in
      let again : List (TaskValue E P) = round_tasks mode eq writing firsts in
      let listed : List (TaskValue E P) = listed_tasks eq payload_eq writing mode job in
      let last : List (TaskValue E P) = last_tasks (map collapsed_finally in_end) in
      let first_seam = length-append begun (again ++ (listed ++ last)) in
      let second_seam = length-append again (listed ++ last) in
      let third_seam = length-append listed last in
      let in_last = last-count (map collapsed_finally in_end) ∙ last-size eq payload_eq writing mode job in
      let in_listed = listed-count in
      let in_again = rounds-count in
      let in_begun = begun-count in
      omega (arith, first_seam, second_seam, third_seam, in_last, in_listed, in_again, in_begun)
