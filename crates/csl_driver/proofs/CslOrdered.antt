-- The cites that the code puts in order, whose locators are lent, with what they show, are those of the answer.
use Rattle.std.proofs.Common.{◌≡◌, Bool, List, Option, ◌++◌, map, ap, sym, ◌∙◌}
use Rattle.std.specs.Prelude.{flat_map}
use Rattle.mentions_arranging.specs.Order.{final_request}
use Rattle.mentions_arranging.specs.Repeating.{cites_repeated, firsts_repeated}
use Rattle.mentions_arranging.specs.Requests.{Request as Arranged}
use Rattle.mentions_arranging.specs.declared.repeating.Repeated.{Repeated}
use Rattle.mentions_arranging.specs.declared.request.FinalCite.{FinalCite}
use Rattle.mentions_arranging.specs.declared.request.RequestedCite.{RequestedCite as PlainCite}
use Rattle.mentions_arranging.specs.declared.request.Shown.{Shown}
use Rattle.mentions_cited.specs.declared.kept.KeptOfMention.{KeptOfMention}
use Rattle.driver_lookup.specs.Properties.{LocatorValue}
use Rattle.mentions_groups.specs.declared.state.MentionState.{MentionState}
use Rattle.mentions_tables.specs.Steps.{all_changed}
use Rattle.mentions_tables.specs.declared.subject.Subject.{Subject}
use Rattle.mentions_cites.specs.Repeats.{cites_with_shown, repeat_tasks, shown_repeats, with_first_key}
use Rattle.mentions_cites.specs.declared.mentions.ToldMention.{ToldMention}
use Rattle.driver_writers.specs.Desk.{Desk, after}
use Rattle.driver_writers.specs.Tasks.{CiteTaskValue, cite_task}
use Rattle.driver_writers.specs.Writing.{Writing}
use Rattle.driver_writers.specs.declared.cite.Cite.{Cite}
use Rattle.driver_writers.proofs.TasksDone.{after-then}
use Rattle.csl_driver.specs.Answer.{Job}
use Rattle.csl_driver.specs.CslAnswer.{keyed, last_kept, mentions, ordered, plain, repeated_cites, repeated_firsts, same_locator, shown_mentions, shown_repeated, states, tasks_repeated}
use Rattle.csl_driver.specs.CslTasks.{repeat_cite_tasks}
use Rattle.csl_driver.proofs.CslLocated.{final-seen, keyed-seen, seen_in_order, seen_request, shown-seen}
use Rattle.csl_driver.proofs.CslRepeated.{firsts-seen, repeats-seen}

-- what is asked for mentions that cites repeat, and what these show, is that of the answer
module _ {E P : Type 0} (eq : E → E → Bool) (job : Job E P) (writing : Writing E P) {told : List ToldMention} {subjects : List (Subject (CiteTaskValue E P))} {by_states : List MentionState}
    (told_are : told ≡ shown_mentions eq job writing) (subjects_are : subjects ≡ mentions eq job) (states_are : by_states ≡ states eq job writing) where
  pub same-tasks : {given now : List (Option Repeated)} → given ≡ now → repeat_tasks told subjects by_states given ≡ tasks_repeated eq job writing now
  same-tasks are = λ i. repeat_tasks (told_are i) (subjects_are i) (states_are i) (are i)

  pub same-all-tasks : {given now : List (List (Option Repeated))} → given ≡ now → flat_map (repeat_tasks told subjects by_states) given ≡ flat_map (tasks_repeated eq job writing) now
  same-all-tasks are = λ i. flat_map (repeat_tasks (told_are i) (subjects_are i) (states_are i)) (are i)

  module _ {lasts : List KeptOfMention} {cite : CiteTaskValue E P → Cite} (lasts_are : lasts ≡ last_kept eq job writing) (cite_is : cite ≡ writing.cite) where
    pub same-shown : {given now : List (Option Repeated)} → given ≡ now → shown_repeats told subjects by_states lasts cite given ≡ shown_repeated eq job writing now
    same-shown are = λ i. shown_repeats (told_are i) (subjects_are i) (states_are i) (lasts_are i) (cite_is i) (are i)

    pub same-all-shown : {given now : List (List (Option Repeated))} → given ≡ now → map (shown_repeats told subjects by_states lasts cite) given ≡ map (shown_repeated eq job writing) now
    same-all-shown are = λ i. map (shown_repeats (told_are i) (subjects_are i) (states_are i) (lasts_are i) (cite_is i)) (are i)

module _ {E P L : Type 0} (eq : E → E → Bool) (job : Job E P) (writing : Writing E P) (payload_eq : P → P → Bool) (f : L → LocatorValue P) (locator_eq : L → L → Bool)
    (alike : (a b : L) → locator_eq a b ≡ same_locator payload_eq (f a) (f b)) (handed : List (Arranged (PlainCite L))) (handed_are : map (seen_request f) handed ≡ plain eq job writing)
    (firsts : List (Option Repeated)) (firsts_made : firsts ≡ firsts_repeated locator_eq handed) (keys : List (Option Shown)) (keys_made : keys ≡ shown_repeated eq job writing firsts)
    (with_keys : List (Arranged (PlainCite L))) (keyed_made : with_keys ≡ all_changed with_first_key keys handed) (finals : List (Arranged (FinalCite L))) (finals_made : finals ≡ map final_request with_keys)
    (repeats : List (List (Option Repeated))) (repeats_made : repeats ≡ cites_repeated locator_eq finals) where
  pub firsts-are : firsts ≡ repeated_firsts eq job writing payload_eq
  firsts-are = firsts_made ∙ sym (firsts-seen f locator_eq (same_locator payload_eq) alike handed) ∙ ap (firsts_repeated (same_locator payload_eq)) handed_are

  keyed-are : map (seen_request f) with_keys ≡ keyed eq job writing payload_eq
  keyed-are =
      let keys_are = keys_made ∙ ap (shown_repeated eq job writing) firsts-are in
      ap (map (seen_request f)) keyed_made ∙ keyed-seen f keys handed ∙ (λ i. all_changed with_first_key (keys_are i) (handed_are i))

  finals-are : map (seen_in_order f) finals ≡ map final_request (keyed eq job writing payload_eq)
  finals-are = ap (map (seen_in_order f)) finals_made ∙ final-seen f with_keys ∙ ap (map final_request) keyed-are

  pub repeats-are : repeats ≡ repeated_cites eq job writing payload_eq
  repeats-are = repeats_made ∙ sym (repeats-seen f locator_eq (same_locator payload_eq) alike finals) ∙ ap (cites_repeated (same_locator payload_eq)) finals-are

  pub ordered-are : (shown : List (List (Option Shown))) (done : List (Arranged (FinalCite L))) → shown ≡ map (shown_repeated eq job writing) repeats → done ≡ all_changed cites_with_shown shown finals
      → map (seen_in_order f) done ≡ ordered eq job writing payload_eq
  ordered-are shown done shown_made done_made =
      let shown_are = shown_made ∙ ap (map (shown_repeated eq job writing)) repeats-are in
      ap (map (seen_in_order f)) done_made ∙ shown-seen f shown finals ∙ (λ i. all_changed cites_with_shown (shown_are i) (finals-are i))

  -- what is asked for on the way
  pub repeats-asked : {N : Type 0} (start placed end : Desk E P N) → placed ≡ after (map cite_task (tasks_repeated eq job writing firsts)) start
      → end ≡ after (map cite_task (flat_map (tasks_repeated eq job writing) repeats)) placed → end ≡ after (repeat_cite_tasks eq job writing payload_eq) start
  repeats-asked start placed end placed_is end_is =
      let first = map cite_task (tasks_repeated eq job writing firsts) in
      let later = map cite_task (flat_map (tasks_repeated eq job writing) repeats) in
      after-then first later start placed end placed_is end_is
      ∙ (λ i. after (map cite_task (tasks_repeated eq job writing (firsts-are i)) ++ map cite_task (flat_map (tasks_repeated eq job writing) (repeats-are i))) start)
