-- What a caller may rely on of the states and the suffixes that tell mentions apart.
use Rattle.std.specs.Prelude.{◌≡◌, ℕ, ◌*◌, ◌+◌, ◌≤◌, Bool, List, Option, filter, if◌then◌else◌, is_some, length}
use Rattle.std.specs.List.{list_any}
use Rattle.mentions_groups.specs.declared.state.MentionState.{MentionState}
use Rattle.mentions_groups.specs.declared.written.Written.{Written}
use Rattle.mentions_tables.specs.Tables.{all_tasks, mentions_in}
use Rattle.mentions_tables.specs.declared.subject.Subject.{Subject}
use Rattle.mentions_table_laws.specs.Ambiguous.{ConditionHolds, OnlyAmbiguous}
use Rattle.mentions_table_laws.specs.Growing.{StatesGrow}
use Rattle.mentions_table_laws.specs.Shown.{NamesTell}
use Rattle.mentions_table_laws.specs.SuffixLaws.{NoneInVain, NothingIsLeft, SuffixesCount}

-- one where this holds of some member
abbrev pub one_if_any : {X : Type 0} → (X → Bool) → List X → ℕ
one_if_any p xs = if list_any p xs then 1 else 0

-- a state has names
abbrev pub has_names : MentionState → Bool
has_names state = is_some state.names

-- how many of names, the condition and suffixes tell something apart
abbrev pub rounds_of : List MentionState → List (Option ℕ) → ℕ
rounds_of states suffixes = one_if_any has_names states
    + one_if_any (λ s. s.chosen) states
    + one_if_any is_some suffixes

module _ {M : Type 0} (write : M → MentionState → Written) (subjects : List (Subject M)) where
  -- rounds and tasks have bounds, for so many entries
  pub record HasBounds (entries : ℕ) (states : List MentionState) (suffixes : List (Option ℕ))
      : Type 0 where
    pub three_rounds : rounds_of states suffixes ≤ 3
    -- each mention is written once, again where it has other names, and again where it is chosen
    pub tasks : length (all_tasks write subjects) ≡ length subjects
        + length (filter has_names states) + length (filter (λ s. s.chosen) states)
    pub six_an_entry : length (all_tasks write subjects) ≤ 6 * entries

  -- what holds of the states of all mentions and the suffixes of all entries
  pub record KeepsTellingLaws (entries : ℕ) (states : List MentionState)
      (suffixes : List (Option ℕ)) : Type 0 where
    -- the states once names told mentions apart, before the condition was made to hold
    pub by_names : List MentionState
    pub grow : StatesGrow write subjects by_names states
    pub condition : ConditionHolds write subjects by_names states
    pub names_tell : NamesTell write subjects states
    pub count : SuffixesCount (mentions_in write subjects states) suffixes
    pub none_left : NothingIsLeft (mentions_in write subjects states) suffixes
    pub none_in_vain : NoneInVain (mentions_in write subjects states) suffixes
    pub only_ambiguous : OnlyAmbiguous write subjects by_names states suffixes
    pub bounds : HasBounds entries states suffixes
