-- The laws of entries, of their states and suffixes, and of costs hold of every account.
use Rattle.std.proofs.Common.{◌≡◌, ℕ, ◌+◌, ◌*◌, ◌-◌, ◌^◌, ◌≤◌, Bool, true, List, filter, length, map, ap, sym, subst, ◌∙◌, arith}
use Rattle.std.specs.Prelude.{min}
use Rattle.std.specs.Cmp.{IsEquivalence}
use Rattle.std.specs.List.{AllZip}
use Rattle.std.proofs.Math.ListN.{length-map}
use Rattle.std.proofs.lemmas.List.FromFn.{length-range_with_len}
use Rattle.driver_assembly.specs.declared.rendered.Rendered.{Rendered}
use Rattle.csl_driver.specs.Account.{where_listed}
use Rattle.csl_driver.specs.Answer.{Job}
use Rattle.csl_driver.specs.CslAnswer.{entry_suffixes, listed, mentions, read, states}
use Rattle.csl_driver.specs.CslByEntry.{entries_had, states_had}
use Rattle.csl_driver.specs.CslLaws.{HasCitedEntries, HasCosts, TellsWorksApart}
use Rattle.csl_driver.specs.CslPromised.{IsExactlyCsl}
use Rattle.csl_driver.specs.CslTasks.{repeat_cite_tasks}
use Rattle.csl_driver.specs.declared.csl_account.CslAccount.{CslAccount}
use Rattle.csl_driver.proofs.CslEntries.{equal-told, homes-told, told-cited, told-count, told-once}
use Rattle.csl_driver.proofs.CslFew.{repeats-few}
use Rattle.csl_driver.proofs.CslPairs.{by_turns, firsts-count, in-pairs, laters-count, turns}
use Rattle.driver_entries.specs.Entries.{is_in}
use Rattle.driver_entries.specs.Laws.{NoTwoEqual}
use Rattle.mentions_groups.specs.Suffixes.{laters}
use Rattle.mentions_groups.specs.declared.state.MentionState.{MentionState}
use Rattle.mentions_groups.specs.declared.written.Written.{Written}
use Rattle.driver_passes.specs.Request.{cites_of}
use Rattle.mentions_cited.specs.Handed.{is_cited_again}
use Rattle.mentions_cited.specs.Homes.{HomeValue, homes_of}
use Rattle.mentions_tables.specs.Tables.{all_tasks, mentions_in}
use Rattle.mentions_tables.specs.declared.subject.Subject.{Subject}
use Rattle.mentions_table_laws.specs.Pairs.{AreMentionsInPairs}
use Rattle.mentions_table_laws.specs.TellingLaws.{KeepsTellingLaws, has_names, rounds_of}
use Rattle.mentions_table_laws.proofs.Bounded.{three-at-most}
use Rattle.mentions_table_laws.proofs.Kept.{keeps-laws}
use Rattle.mentions_table_laws.proofs.Paired.{entries-in-order, twice-as-many}
use Rattle.mentions_table_laws.proofs.Settled.{settled, third-table}
use Rattle.driver_writers.specs.Tasks.{CiteTaskValue}
use Rattle.driver_writers.specs.Writing.{Writing}

-- counts that were counted otherwise
tasks-and-others : (tasks twice n named chosen repeats cites listed others : ℕ) → tasks ≡ twice + named + chosen → twice ≡ 2 * n → listed ≡ others
    → tasks + repeats + cites + listed ≡ 2 * n + named + chosen + repeats + cites + others
tasks-and-others tasks twice n named chosen repeats cites listed others h t l = omega (arith, h, t, l)

within-six : (tasks twice n named chosen : ℕ) → tasks ≡ twice + named + chosen → twice ≡ 2 * n → tasks ≤ 6 * n → 2 * n + named + chosen ≤ 6 * n
within-six tasks twice n named chosen h t l = omega (arith, h, t, l)

module _ {E P : Type 0} (eq : E → E → Bool) (laws : IsEquivalence eq) (payload_eq : P → P → Bool) (writing : Writing E P) (job : Job E P) (r : Rendered × CslAccount E)
    (is : IsExactlyCsl eq payload_eq writing job r) where
  abbrev homes : List (HomeValue E P)
  homes = homes_of eq (listed eq job) job.requests

  abbrev again : ℕ → Bool
  again = is_cited_again eq (listed eq job) job.requests

  abbrev subjects : List (Subject (CiteTaskValue E P))
  subjects = mentions eq job

  abbrev write : CiteTaskValue E P → MentionState → Written
  write = read eq job writing

  entries-long : length (entries_had r.1) ≡ length homes
  entries-long = ap length is.entries ∙ sym (homes-told eq laws job)

  pairs : AreMentionsInPairs (length (entries_had r.1)) subjects
  pairs = subst (λ n. AreMentionsInPairs n subjects) (sym entries-long) (in-pairs job.offset again homes)

  -- the account's states are those of the tables
  states-are : states_had r.1 ≡ states eq job writing
  states-are = (λ i. by_turns (is.first_mentions i) (is.later_mentions i)) ∙ turns job.offset again write homes

  telling : KeepsTellingLaws write subjects (length (entries_had r.1)) (states_had r.1) r.1.suffixes.items
  telling =
      subst (λ ss. KeepsTellingLaws write subjects (length (entries_had r.1)) ss r.1.suffixes.items) (sym states-are)
      (subst (KeepsTellingLaws write subjects (length (entries_had r.1)) (states eq job writing)) (sym is.suffixes)
      (keeps-laws write (length (entries_had r.1)) subjects pairs))

  pub tells-apart : TellsWorksApart eq job writing r.1
  tells-apart = record {
    suffixes_count = telling.count;
    none_left = telling.none_left;
    none_in_vain = telling.none_in_vain;
    by_names = telling.by_names;
    names_tell = telling.names_tell;
    condition = telling.condition;
    grow = telling.grow;
    only_ambiguous = telling.only_ambiguous;
  }

  suffixes-long : length r.1.suffixes.items ≡ length (entries_had r.1)
  suffixes-long =
      sym (length-range_with_len 0 (length r.1.suffixes.items)) ∙ ap length (sym telling.count.entries)
      ∙ ap (λ ss. length (map (λ m. m.entry) (laters (mentions_in write subjects ss)))) (states-are ∙ third-table write subjects)
      ∙ ap length (entries-in-order write (settled write subjects) (length (entries_had r.1)) subjects pairs)
      ∙ length-range_with_len 0 (length (entries_had r.1))

  pub has-entries : HasCitedEntries eq job r.1
  has-entries = record {
    none_twice = subst (λ es. NoTwoEqual eq es) (sym is.entries) (told-once eq laws job);
    no_other = λ e. ap (is_in eq e) is.entries ∙ told-cited eq laws job e;
    in_order = subst (AllZip (λ d e. eq d e ≡ true) (listed eq job)) (sym is.entries) (equal-told eq laws job);
    first_states = ap length is.first_mentions ∙ firsts-count job.offset again write homes ∙ sym entries-long;
    later_states = ap length is.later_mentions ∙ laters-count job.offset again write homes ∙ sym entries-long;
    suffixes = suffixes-long;
    numbers = ap length is.numbers ∙ length-map (listed eq job) _ ∙ sym (told-count eq laws job) ∙ ap length (sym is.entries);
  }

  twice : length subjects ≡ 2 * length (entries_had r.1)
  twice = twice-as-many (length (entries_had r.1)) subjects pairs

  listed-count : where_listed job.wanted.style.bibliography (length (listed eq job)) ≡ where_listed job.wanted.style.bibliography (length (entries_had r.1))
  listed-count = ap (where_listed job.wanted.style.bibliography) (sym (told-count eq laws job) ∙ ap length (sym is.entries))

  pub has-costs : HasCosts eq job r.1
  has-costs =
      let named = length (filter has_names (states_had r.1)) in
      let chosen = length (filter (λ (s : MentionState). s.chosen) (states_had r.1)) in
      let repeats = length (repeat_cite_tasks eq job writing payload_eq) in
      record {
        repeats = repeats;
        few_repeats = repeats-few eq job writing payload_eq;
        renders = is.renders
            ∙ ap (λ n. min n (2 ^ 128 - 1))
            (tasks-and-others (length (all_tasks write subjects)) (length subjects) (length (entries_had r.1)) named chosen repeats (length (cites_of job.requests)) _ _ telling.bounds.tasks twice listed-count);
        six_an_entry = within-six (length (all_tasks write subjects)) (length subjects) (length (entries_had r.1)) named chosen telling.bounds.tasks twice telling.bounds.six_an_entry;
        rounds = is.rounds ∙ (λ i. rounds_of (sym states-are i) (sym is.suffixes i));
        three_rounds = subst (λ n. n ≤ 3) (sym is.rounds) (three-at-most (states eq job writing) (entry_suffixes eq job writing));
      }
