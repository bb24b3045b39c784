-- Where something else is asked for: tables, and what is asked for.
use Rattle.std.proofs.Common.{◌≡◌, Bool, true, false, cond, List, [], ◌∷◌, ◌++◌, filter, map, refl, ap, sym, ◌∙◌}
use Rattle.std.specs.Prelude.{is_some}
use Rattle.std.specs.List.{zip}
use Rattle.std.proofs.lemmas.List.{map-append}
use Rattle.std.proofs.lemmas.Simd.{map-map}
use Rattle.mentions_names.specs.Told.{told_by_names}
use Rattle.mentions_groups.specs.Groups.{group_of, is_chosen, text_of}
use Rattle.mentions_groups.specs.Suffixes.{suffixes}
use Rattle.mentions_groups.specs.declared.state.MentionState.{MentionState}
use Rattle.mentions_groups.specs.declared.written.Written.{Written}
use Rattle.mentions_tables.specs.Asked.{MentionsWriter, asked_as, asked_for, noted_all, task_as, untold}
use Rattle.mentions_tables.specs.Tables.{all_tasks, first_table, first_tasks, kept_again, kept_at_first, kept_in, mention_in, mentions_in, mentions_told, named, named_in, second_table, tasks_where, texts_told, third_table, with_choice, with_mention, with_names, year_suffixes}
use Rattle.mentions_tables.specs.declared.subject.Subject.{Subject}

module _ {M N : Type 0} (f : M → N) where
  -- mentions with their states
  in-table : {X : Type 0} (g : Subject N × MentionState → X) (ss : List (Subject M)) (table : List MentionState)
      → map (λ p. g (with_mention f p.0, p.1)) (zip ss table) ≡ map g (zip (map (with_mention f) ss) table)
  in-table g [] table = refl
  in-table g (s ∷ ss) [] = refl
  in-table g (s ∷ ss) (state ∷ table) = ap (λ xs. g (with_mention f s, state) ∷ xs) (in-table g ss table)

  -- what is asked for first, and where a table changed a state
  first-tasks : (ss : List (Subject M)) → map (task_as f) (first_tasks ss) ≡ first_tasks (map (with_mention f) ss)
  first-tasks ss = map-map (task_as f) (λ (s : Subject M). (s.mention, untold)) ss ∙ sym (map-map (λ (s : Subject N). (s.mention, untold)) (with_mention f) ss)

  changed-tasks : (changed : MentionState → Bool) (ss : List (Subject M)) (table : List MentionState)
      → map (task_as f) (tasks_where ss changed table) ≡ tasks_where (map (with_mention f) ss) changed table
  changed-tasks changed [] table = refl
  changed-tasks changed (s ∷ ss) [] = refl
  changed-tasks changed (s ∷ ss) (state ∷ table) = by (changed state) (changed-tasks changed ss table)
    where
      by : (b : Bool) → map (task_as f) (tasks_where ss changed table) ≡ tasks_where (map (with_mention f) ss) changed table
          → map (task_as f) (map (λ (p : Subject M × MentionState). (p.0.mention, p.1)) (cond b ((s, state) ∷ filter (λ p. changed p.1) (zip ss table)) (filter (λ p. changed p.1) (zip ss table))))
          ≡ map (λ (p : Subject N × MentionState). (p.0.mention, p.1)) (cond b ((with_mention f s, state) ∷ filter (λ p. changed p.1) (zip (map (with_mention f) ss) table)) (filter (λ p. changed p.1) (zip (map (with_mention f) ss) table)))
      by true rest = ap (λ tasks. (f s.mention, state) ∷ tasks) rest
      by false rest = rest

  -- what is kept
  module _ {K : Type 0} (keep : M → MentionState → K) (other : N → MentionState → K) (same : keep ≡ (λ mention state. other (f mention) state)) where
    pub kept-at-first-mapped : (ss : List (Subject M)) → kept_at_first keep ss ≡ kept_at_first other (map (with_mention f) ss)
    kept-at-first-mapped ss = (λ i. kept_at_first (same i) ss) ∙ sym (map-map (λ (s : Subject N). other s.mention untold) (with_mention f) ss)

    pub kept-again-mapped : (ss : List (Subject M)) (table : List MentionState) → kept_again keep ss table ≡ kept_again other (map (with_mention f) ss) table
    kept-again-mapped ss table = (λ i. kept_again (same i) ss table) ∙ in-table (λ p. kept_in other p.0 p.1) ss table

  module _ (write : M → MentionState → Written) (other : N → MentionState → Written) (same : write ≡ (λ mention state. other (f mention) state)) where
    pub mentions-mapped : (ss : List (Subject M)) (table these : List MentionState) → table ≡ these → mentions_in write ss table ≡ mentions_in other (map (with_mention f) ss) these
    mentions-mapped ss table these p = (λ i. mentions_in (same i) ss (p i)) ∙ in-table (λ q. mention_in other q.0 q.1) ss these

    module _ (ss : List (Subject M)) where
      -- the mentions with their names
      named-mapped : named write ss ≡ (λ s. named other (map (with_mention f) ss) (with_mention f s))
      named-mapped =
          let firsts = mentions-mapped ss (first_table ss) (first_table (map (with_mention f) ss)) (sym (map-map (λ (s : Subject N). untold) (with_mention f) ss)) in
          λ i s. named_in (same i) (group_of (firsts i) (mention_in (same i) s untold)) s

      pub second-mapped : second_table write ss ≡ second_table other (map (with_mention f) ss)
      second-mapped =
          (λ i. map (λ s. record { names = told_by_names (map (named-mapped i) ss) (named-mapped i s); chosen = false }) ss)
          ∙ (λ i. map (λ s. record { names = told_by_names (sym (map-map (named other (map (with_mention f) ss)) (with_mention f) ss) i) (named other (map (with_mention f) ss) (with_mention f s)); chosen = false }) ss)
          ∙ sym (map-map (with_names other (map (with_mention f) ss)) (with_mention f) ss)

      pub third-mapped : third_table write ss ≡ third_table other (map (with_mention f) ss)
      third-mapped =
          let seconds = mentions-mapped ss _ _ second-mapped in
          (λ i. map (λ p. record p.1 { chosen = is_chosen (seconds i) (same i p.0.mention untold).tested (mention_in (same i) p.0 p.1) }) (zip ss (second-mapped i)))
          ∙ in-table (λ p. with_choice other (map (with_mention f) ss) p.0 p.1) ss (second_table other (map (with_mention f) ss))

      told-mapped : mentions_told write ss ≡ mentions_told other (map (with_mention f) ss)
      told-mapped = mentions-mapped ss _ _ third-mapped

      pub texts-mapped : texts_told write ss ≡ texts_told other (map (with_mention f) ss)
      texts-mapped = ap (λ ms. map (text_of ms) ms) told-mapped

      pub suffixes-mapped : year_suffixes write ss ≡ year_suffixes other (map (with_mention f) ss)
      suffixes-mapped = ap suffixes told-mapped

      pub tasks-mapped : map (task_as f) (all_tasks write ss) ≡ all_tasks other (map (with_mention f) ss)
      tasks-mapped =
          let named_tasks = tasks_where ss (λ s. is_some s.names) (second_table write ss) in
          let chosen_tasks = tasks_where ss (λ s. s.chosen) (third_table write ss) in
          let names = changed-tasks (λ s. is_some s.names) ss (second_table write ss) ∙ ap (tasks_where (map (with_mention f) ss) (λ s. is_some s.names)) second-mapped in
          let choices = changed-tasks (λ s. s.chosen) ss (third_table write ss) ∙ ap (tasks_where (map (with_mention f) ss) (λ s. s.chosen)) third-mapped in
          map-append (task_as f) (first_tasks ss ++ named_tasks) chosen_tasks
          ∙ ap (λ tasks. tasks ++ map (task_as f) chosen_tasks) (map-append (task_as f) (first_tasks ss) named_tasks)
          ∙ (λ i. (first-tasks ss i ++ names i) ++ choices i)

  -- a writer that is asked for the same as something else
  module _ {K L : Type 0} (w : MentionsWriter N K L) where
    noted-as : (tasks : List (M × MentionState)) (notes : L) → noted_all (asked_as f w).noting tasks notes ≡ noted_all w.noting (map (task_as f) tasks) notes
    noted-as [] notes = refl
    noted-as (task ∷ tasks) notes = noted-as tasks (w.noting (task_as f task) notes)

    pub asked-mapped : (tasks : List (M × MentionState)) → asked_for tasks (asked_as f w) ≡ asked_as f (asked_for (map (task_as f) tasks) w)
    asked-mapped tasks = λ i. record (asked_as f w) { notes = noted-as tasks w.notes i }
