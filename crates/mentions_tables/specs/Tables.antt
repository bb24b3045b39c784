-- What tells the mentions of all entries apart: by names, then by the condition, then by year
-- suffixes, each once.
use Rattle.std.specs.Prelude.{ℕ, Bool, false, List, ◌++◌, None, Option, Some, filter, is_some, map, if◌then◌else◌}
use Rattle.std.specs.List.{zip}
use Rattle.mentions_names.specs.Told.{told_by_names}
use Rattle.mentions_names.specs.declared.mention.MentionedName.{MentionedName}
use Rattle.mentions_names.specs.declared.mention.NamedMention.{NamedMention}
use Rattle.mentions_groups.specs.Groups.{group_of, is_chosen, text_of}
use Rattle.mentions_groups.specs.Suffixes.{suffixes}
use Rattle.mentions_groups.specs.declared.mention.Mention.{Mention}
use Rattle.mentions_groups.specs.declared.state.MentionState.{MentionState}
use Rattle.mentions_groups.specs.declared.written.Written.{Written}
use Rattle.mentions_tables.specs.Asked.{is_told, untold}
use Rattle.mentions_tables.specs.declared.subject.Subject.{Subject}

-- the same mention, where something else is asked for
abbrev pub with_mention : {M N : Type 0} → (M → N) → Subject M → Subject N
with_mention f s = record {
  mention = f s.mention;
  entry = s.entry;
  is_first = s.is_first;
  occurs = s.occurs;
  adds_names = s.adds_names;
  rule = s.rule;
  adds_suffix = s.adds_suffix;
}

module _ {M : Type 0} where
  -- a mention that reads so
  abbrev pub mention_with : Subject M → List ℕ → Mention
  mention_with s text = record {
    entry = s.entry;
    is_first = s.is_first;
    occurs = s.occurs;
    text = text;
    adds_suffix = s.adds_suffix;
  }

  -- a mention with these names, in a group
  abbrev pub named_with : Option ℕ → Subject M → List MentionedName → NamedMention
  named_with group s names = record {
    names = names;
    adds_names = s.adds_names;
    rule = s.rule;
    group = group;
    occurs = s.occurs;
  }

module _ {M : Type 0} (write : M → MentionState → Written) where
  -- a mention as it reads in some state
  abbrev pub mention_in : Subject M → MentionState → Mention
  mention_in s state = mention_with s (write s.mention state).text

  -- mentions in a table, which gives each its state
  abbrev pub mentions_in : List (Subject M) → List MentionState → List Mention
  mentions_in subjects table = map (λ p. mention_in p.0 p.1) (zip subjects table)

  -- a mention with its names, in a group
  abbrev pub named_in : Option ℕ → Subject M → NamedMention
  named_in group s = named_with group s (write s.mention untold).names

module _ {M K : Type 0} (keep : M → MentionState → K) where
  -- what is kept of each where nothing tells it apart
  abbrev pub kept_at_first : List (Subject M) → List K
  kept_at_first = map (λ s. keep s.mention untold)

  -- and in its state, if that tells it apart, so that it is written again
  abbrev pub kept_in : Subject M → MentionState → Option K
  kept_in s state = if is_told state then Some (keep s.mention state) else None

  abbrev pub kept_again : List (Subject M) → List MentionState → List (Option K)
  kept_again subjects table = map (λ p. kept_in p.0 p.1) (zip subjects table)

module _ {M : Type 0} (subjects : List (Subject M)) where
  -- the first table is empty
  abbrev pub first_table : List MentionState
  first_table = map (λ s. untold) subjects

  -- what is written first: each mention where nothing tells it apart
  abbrev pub first_tasks : List (M × MentionState)
  first_tasks = map (λ s. (s.mention, untold)) subjects

  -- and then those that a table changed
  abbrev pub tasks_where : (MentionState → Bool) → List MentionState → List (M × MentionState)
  tasks_where changed table =
      map (λ p. (p.0.mention, p.1)) (filter (λ p. changed p.1) (zip subjects table))

-- the mentions of all entries, in the order of the bibliography, the first one of an entry before
-- the later one
module _ {M : Type 0} (write : M → MentionState → Written) (subjects : List (Subject M)) where
  -- the mentions with their names, and in the groups of the first table
  abbrev pub named : Subject M → NamedMention
  named s = named_in write
      (group_of (mentions_in write subjects (first_table subjects)) (mention_in write s untold)) s

  -- the second table has the names
  abbrev pub with_names : Subject M → MentionState
  with_names s = record { names = told_by_names (map named subjects) (named s); chosen = false }

  abbrev pub second_table : List MentionState
  second_table = map with_names subjects

  -- in the third the condition holds for a mention that tested it, where its group in the second
  -- is asked to differ
  abbrev pub with_choice : Subject M → MentionState → MentionState
  with_choice s state = record state {
    chosen = is_chosen (mentions_in write subjects second_table) (write s.mention untold).tested
        (mention_in write s state);
  }

  abbrev pub third_table : List MentionState
  third_table = map (λ p. with_choice p.0 p.1) (zip subjects second_table)

  -- the mentions as they read then
  abbrev pub mentions_told : List Mention
  mentions_told = mentions_in write subjects third_table

  -- what each reads as, by the index of the first one with its text
  abbrev pub texts_told : List (Option ℕ)
  texts_told = map (text_of mentions_told) mentions_told

  -- the year suffix of each entry, in the order of the bibliography
  abbrev pub year_suffixes : List (Option ℕ)
  year_suffixes = suffixes mentions_told

  -- all that is written: each mention is once, and again where it has other names, and where it
  -- is chosen
  abbrev pub all_tasks : List (M × MentionState)
  all_tasks = (first_tasks subjects ++ tasks_where subjects (λ s. is_some s.names) second_table)
      ++ tasks_where subjects (λ s. s.chosen) third_table
