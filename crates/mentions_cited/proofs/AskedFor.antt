-- A writer of cites that is asked for a mention.
use Rattle.std.proofs.Common.{◌≡◌, ℕ, Bool, true, false, cond, [], ◌∷◌, ap, sym, ◌∙◌}
use Rattle.driver_lookup.specs.Properties.{Properties}
use Rattle.driver_lookup.specs.PropertiesView.{properties_view}
use Rattle.driver_lookup.specs.declared.state.IdentifierUsage.{IdentifierUsage}
use Rattle.mentions_groups.specs.declared.state.MentionState.{MentionState}
use Rattle.mentions_tables.specs.Asked as mentions
use Rattle.driver_writers.specs.Counted.{counted}
use Rattle.driver_writers.specs.Desk.{Desk, after, desk}
use Rattle.driver_writers.specs.Tasks.{CiteTaskValue, cite_task}
use Rattle.driver_writers.specs.Writing.{WriterState, asked_for}
use Rattle.mentions_cited.specs.Cited.{cited, first_task, task_in, with_properties}
use Rattle.mentions_cited.specs.ToldMeans.{with_means}
use Rattle.mentions_cited.specs.declared.mention.CiteMention.{CiteMention}

module _ {E P N : Type 0} (w v : WriterState E P N) (n m : ℕ) (mention : CiteMention E P) (state : MentionState) (t : CiteTaskValue E P) where
  -- what it notes, and the count
  pub cited-after : t ≡ task_in w.cite mention state → desk v m ≡ after (cite_task t ∷ []) (desk w n)
      → cited v m ≡ mentions.asked_for ((mention, state) ∷ []) (cited w n)
  cited-after task asked =
      ap (λ (d : Desk E P N). cited d.writer d.renders) asked
      ∙ ap (λ u. cited (asked_for (cite_task u ∷ []) w) (counted n)) task

module _ {E P N : Type 0} (w : WriterState E P N) (mention : CiteMention E P) (state : MentionState) where
  -- what is asked for where it is written again
  again-by : (told : Bool) → mentions.is_told state ≡ told → cond told (with_properties mention (with_means (properties_view mention.properties.now) state (w.cite (first_task mention)).identifier_usage)) (first_task mention) ≡ task_in w.cite mention state
  again-by told is = ap (λ b. cond b (with_properties mention (with_means (properties_view mention.properties.now) state (w.cite (first_task mention)).identifier_usage)) (first_task mention)) (sym is)

  pub again-task : (usage : IdentifierUsage) (properties : Properties P) → mentions.is_told state ≡ true → usage ≡ (w.cite (first_task mention)).identifier_usage
      → properties ≡ with_means (properties_view mention.properties.now) state usage → with_properties mention properties ≡ task_in w.cite mention state
  again-task usage properties told same by =
      ap (with_properties mention) (by ∙ ap (with_means (properties_view mention.properties.now) state) same) ∙ again-by true told

  pub same-task : mentions.is_told state ≡ false → first_task mention ≡ task_in w.cite mention state
  same-task told = again-by false told
