-- What a caller may rely on of an answer in which works are told apart as CSL 1.0.2 has it, and of
-- its account, without reading how these are made.
use Rattle.std.specs.Prelude.{◌≡◌, ℕ, ◌+◌, ◌*◌, ◌-◌, ◌^◌, ◌≤◌, Bool, true, List, None, Some, filter, length, min}
use Rattle.std.specs.List.{AllZip, range_with_len}
use Rattle.driver_assembly.specs.declared.rendered.Rendered.{Rendered}
use Rattle.driver_entries.specs.Entries.{distinct, is_in}
use Rattle.driver_entries.specs.Laws.{NoTwoEqual}
use Rattle.mentions_groups.specs.declared.mention.Mention.{Mention}
use Rattle.mentions_groups.specs.declared.state.MentionState.{MentionState}
use Rattle.driver_passes.specs.Renders.{CiteRender}
use Rattle.driver_passes.specs.Request.{cited, cites_of}
use Rattle.driver_positions.specs.FinalProperties.{cited_finally}
use Rattle.mentions_tables.specs.Tables.{mentions_in}
use Rattle.mentions_table_laws.specs.Ambiguous.{ConditionHolds, OnlyAmbiguous}
use Rattle.mentions_table_laws.specs.Growing.{StatesGrow}
use Rattle.mentions_table_laws.specs.Shown.{NamesTell}
use Rattle.mentions_table_laws.specs.SuffixLaws.{NoneInVain, NothingIsLeft, SuffixesCount}
use Rattle.mentions_table_laws.specs.TellingLaws.{has_names, rounds_of}
use Rattle.driver_writers.specs.Writing.{Writing}
use Rattle.csl_driver.specs.Account.{where_listed}
use Rattle.csl_driver.specs.Answer.{Job, used_order}
use Rattle.csl_driver.specs.AnswerLaws.{AreInOrder, HaveNumbersOnce}
use Rattle.csl_driver.specs.CslAnswer.{listed, mentions, read}
use Rattle.csl_driver.specs.CslByEntry.{entries_had, states_had}
use Rattle.csl_driver.specs.CslCitations.{ComeArranged, IsListedByMeans}
use Rattle.csl_driver.specs.declared.csl_account.CslAccount.{CslAccount}

-- how often mentions were written: each once, again where it has other names, and again where the
-- condition holds
abbrev pub mention_count : {E : Type 0} → CslAccount E → ℕ
mention_count account = 2 * length (entries_had account)
    + length (filter has_names (states_had account))
    + length (filter (λ s. s.chosen) (states_had account))

module _ {E P : Type 0} (eq : E → E → Bool) (job : Job E P) where
  -- the entries of an account are those that are cited
  pub record HasCitedEntries (account : CslAccount E) : Type 0 where
    -- no two are equal
    pub none_twice : NoTwoEqual eq (entries_had account)
    -- each that is cited is there, and no other
    pub no_other : (e : E) → is_in eq e (entries_had account) ≡ is_in eq e (cited job.requests)
    -- they are in the order of the bibliography
    pub in_order : AllZip (λ d e. eq d e ≡ true) (listed eq job) (entries_had account)
    -- at the same places stand the states of their mentions, their suffixes, and their numbers
    pub first_states : length account.first_mentions.items ≡ length (entries_had account)
    pub later_states : length account.later_mentions.items ≡ length (entries_had account)
    pub suffixes : length account.suffixes.items ≡ length (entries_had account)
    pub numbers : length account.numbers.items ≡ length (entries_had account)

  -- their numbers, where requests have these cites in their final order
  pub record NumbersEntries (account : CslAccount E) (ordered : List (CiteRender E P)) : Type 0
    where
      -- the offset and those that follow, each once
      pub each_once : HaveNumbersOnce eq job.offset (entries_had account) account.numbers.items
      -- where an order is used, numbers go by it
      pub by_order : (order : List E) → used_order job.wanted ≡ Some order
          → account.numbers.items ≡ range_with_len job.offset (length (entries_had account))
      -- and else by first cites
      pub by_cites : used_order job.wanted ≡ None
          → AreInOrder eq job.offset (entries_had account) account.numbers.items
          (distinct eq (cited_finally ordered))

  -- what an answer cost
  pub record HasCosts (account : CslAccount E) : Type 0 where
    -- how often mentions were written as cites repeat them: once a request at most, and once a
    -- cite
    pub repeats : ℕ
    pub few_repeats : repeats ≤ length job.requests + length (cites_of job.requests)
    -- the renderings: those of mentions, alone and as cites repeat them; one for each cite, hidden
    -- or not; and one for each entry of the bibliography, where there is one. The count stands
    -- still at the greatest number of 128 bits
    pub renders : account.renders ≡ min (mention_count account + repeats
        + length (cites_of job.requests)
        + where_listed job.wanted.style.bibliography (length (entries_had account)))
        (2 ^ 128 - 1)
    -- mentions are written six times an entry at most
    pub six_an_entry : mention_count account ≤ 6 * length (entries_had account)
    -- how many of names, the condition and suffixes told something apart
    pub rounds : account.rounds ≡ rounds_of (states_had account) account.suffixes.items
    pub three_rounds : account.rounds ≤ 3

  module _ (writing : Writing E P) where
    -- the mentions of the entries, as they are written in the end
    abbrev pub mentions_had : CslAccount E → List Mention
    mentions_had account = mentions_in (read eq job writing) (mentions eq job) (states_had account)

    -- the states and the suffixes of an account, by how mentions are written
    pub record TellsWorksApart (account : CslAccount E) : Type 0 where
      -- suffixes are 0, 1 and so on among the entries that read alike in cites, and whose later
      -- mentions do, in the order of the bibliography
      pub suffixes_count : SuffixesCount (mentions_had account) account.suffixes.items
      -- two entries whose later mentions occur and read alike have suffixes that differ, if the
      -- style of either adds any
      pub none_left : NothingIsLeft (mentions_had account) account.suffixes.items
      -- none is given in vain: cites show the entry like another one, whose suffix differs
      pub none_in_vain : NoneInVain (mentions_had account) account.suffixes.items
      -- the states once names told mentions apart, before the condition was made to hold
      pub by_names : List MentionState
      -- names that can tell two mentions that occur apart do
      pub names_tell : NamesTell (read eq job writing) (mentions eq job) (states_had account)
      -- the condition holds exactly where a mention tested it, and reads by its names as mentions
      -- of two entries that occur
      pub condition : ConditionHolds (read eq job writing) (mentions eq job) by_names
          (states_had account)
      -- states grow: by names first, then by the condition
      pub grow : StatesGrow (read eq job writing) (mentions eq job) by_names (states_had account)
      -- an entry that reads as no other is told apart by nothing
      pub only_ambiguous : OnlyAmbiguous (read eq job writing) (mentions eq job) by_names
          (states_had account) account.suffixes.items

    -- what holds of every answer and its account
    pub record KeepsCslLaws (payload_eq : P → P → Bool) (r : Rendered × CslAccount E) : Type 0
      where
        pub entries : HasCitedEntries r.1
        pub telling : TellsWorksApart r.1
        pub costs : HasCosts r.1
        -- each citation comes from the cites of its request, which are told what the account has
        pub citations : ComeArranged eq payload_eq writing job r.1 r.0.citations
        pub numbers : NumbersEntries r.1 citations.ordered
        pub bibliography : IsListedByMeans eq payload_eq writing job r.1 citations.arranged r.0
