-- A writer of mentions, and what it was asked for.
use Rattle.std.specs.Prelude.{Bool, false, ◌||◌, List, [], ◌∷◌, None, is_some}
use Rattle.mentions_groups.specs.declared.state.MentionState.{MentionState}
use Rattle.mentions_groups.specs.declared.written.Written.{Written}
use Rattle.mentions_tables.specs.declared.writer.WrittenMention.{WrittenMention}

-- nothing tells it apart yet
abbrev pub untold : MentionState
untold = record { names = None; chosen = false }

-- something tells it apart
abbrev pub is_told : MentionState → Bool
is_told state = state.chosen || is_some state.names

-- what it writes of a mention where this tells it apart, what it notes where it is asked for
-- that, and its notes
pub record MentionsWriter (M K N : Type 0) : Type 0 where
  pub write : M → MentionState → WrittenMention K
  pub noting : M × MentionState → N → N
  pub notes : N

module _ {M K N : Type 0} where
  -- what is read of mentions that it writes
  abbrev pub reading : MentionsWriter M K N → M → MentionState → Written
  reading w mention state = (w.write mention state).read

  -- what it keeps of them
  abbrev pub keeping : MentionsWriter M K N → M → MentionState → K
  keeping w mention state = (w.write mention state).kept

  -- where nothing tells them apart
  abbrev pub first_kept : MentionsWriter M K N → M → K
  first_kept w mention = keeping w mention untold

-- the notes once all this was asked for, one after another
abbrev pub noted_all : {A N : Type 0} → (A → N → N) → List A → N → N
noted_all noting [] notes = notes
noted_all noting (task ∷ tasks) notes = noted_all noting tasks (noting task notes)

-- the writer once it was: only its notes have changed
abbrev pub asked_for : {M K N : Type 0} → List (M × MentionState) → MentionsWriter M K N
    → MentionsWriter M K N
asked_for tasks w = record w { notes = noted_all w.noting tasks w.notes }

module _ {M N : Type 0} (f : M → N) where
  -- the same where something else is asked for
  abbrev pub task_as : M × MentionState → N × MentionState
  task_as p = (f p.0, p.1)

  -- a writer that is asked for something else: it writes what another one writes of that
  abbrev pub asked_as : {K L : Type 0} → MentionsWriter N K L → MentionsWriter M K L
  asked_as w = record {
    write = λ mention. w.write (f mention);
    noting = λ task. w.noting (task_as task);
    notes = w.notes;
  }
