-- Rounds and tasks have bounds.
use Rattle.std.proofs.Common.{◌≡◌, ℕ, ◌+◌, ◌≤◌, Bool, true, false, List, Option, ◌++◌, filter, length, map, ap, sym, ◌∙◌, arith}
use Rattle.std.specs.Prelude.{if◌then◌else◌, is_some}
use Rattle.std.specs.List.{list_any, zip}
use Rattle.std.proofs.lemmas.List.{length-append, length-map}
use Rattle.mentions_groups.specs.declared.state.MentionState.{MentionState}
use Rattle.mentions_groups.specs.declared.written.Written.{Written}
use Rattle.mentions_tables.specs.Asked.{untold}
use Rattle.mentions_tables.specs.Tables.{all_tasks, first_tasks, second_table, tasks_where, third_table, with_names}
use Rattle.mentions_tables.specs.declared.subject.Subject.{Subject}
use Rattle.mentions_table_laws.specs.Pairs.{AreMentionsInPairs}
use Rattle.mentions_table_laws.specs.TellingLaws.{HasBounds, has_names, rounds_of}
use Rattle.list_lemmas.proofs.Members.{count-within}
use Rattle.mentions_table_laws.proofs.Listing.{mapped-count, zipped-count}
use Rattle.mentions_table_laws.proofs.Paired.{twice-as-many}
use Rattle.mentions_table_laws.proofs.Settled.{settled, third-table}

one-at-most : (b : Bool) → (if b then 1 else 0) ≤ 1
one-at-most true = omega arith
one-at-most false = omega arith

pub three-at-most : (states : List MentionState) (suffixes : List (Option ℕ)) → rounds_of states suffixes ≤ 3
three-at-most states suffixes =
    omega (arith, one-at-most (list_any has_names states), one-at-most (list_any (λ s. s.chosen) states), one-at-most (list_any is_some suffixes))

module _ {M : Type 0} (write : M → MentionState → Written) (subjects : List (Subject M)) where
  -- as many tasks as states that changed
  tasks-count : (changed : MentionState → Bool) (state : Subject M → MentionState)
      → length (tasks_where subjects changed (map state subjects)) ≡ length (filter changed (map state subjects))
  tasks-count changed state =
      length-map (filter (λ p. changed p.1) (zip subjects (map state subjects))) (λ p. (p.0.mention, p.1)) ∙ zipped-count changed state subjects

  abbrev last : List MentionState
  last = map (settled write subjects) subjects

  first-count : length (first_tasks subjects) ≡ length subjects
  first-count = length-map subjects (λ s. (s.mention, untold))

  -- those with other names are written again
  named-count : length (tasks_where subjects (λ s. is_some s.names) (second_table write subjects)) ≡ length (filter has_names last)
  named-count =
      tasks-count (λ s. is_some s.names) (with_names write subjects)
      ∙ mapped-count has_names (with_names write subjects) subjects
      ∙ sym (mapped-count has_names (settled write subjects) subjects)

  -- and those that are chosen
  chosen-count : length (tasks_where subjects (λ s. s.chosen) (third_table write subjects)) ≡ length (filter (λ s. s.chosen) last)
  chosen-count = ap (λ t. length (tasks_where subjects (λ s. s.chosen) t)) (third-table write subjects) ∙ tasks-count (λ s. s.chosen) (settled write subjects)

  all-count : length (all_tasks write subjects) ≡ length subjects + length (filter has_names last) + length (filter (λ s. s.chosen) last)
  all-count =
      let firsts = first_tasks subjects in
      let again = tasks_where subjects (λ s. is_some s.names) (second_table write subjects) in
      let chosen = tasks_where subjects (λ s. s.chosen) (third_table write subjects) in
      let whole = length-append (firsts ++ again) chosen in
      let part = length-append firsts again in
      omega (arith, whole, part, first-count, named-count, chosen-count)

  pub has-bounds : (entries : ℕ) → AreMentionsInPairs entries subjects → (suffixes : List (Option ℕ)) → HasBounds write subjects entries last suffixes
  has-bounds entries h suffixes =
      let two = twice-as-many entries subjects h in
      let long = length-map subjects (settled write subjects) in
      let names = count-within has_names last in
      let choices = count-within (λ (s : MentionState). s.chosen) last in
      record {
        three_rounds = three-at-most last suffixes;
        tasks = all-count;
        six_an_entry = omega (arith, all-count, two, long, names, choices);
      }
