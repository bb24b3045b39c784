-- What is written of the entries of a document.
use Rattle.std.specs.Prelude.{◌≡◌, List, [], ◌∷◌, Option}
use Rattle.value_sources.specs.Answers.{Answers}
use Rattle.value_trees.specs.Child.{Child}
use Rattle.driver_writers.specs.Tasks.{CiteTaskValue, DateTaskValue, ItemTaskValue, TaskValue}
use Rattle.driver_writers.specs.declared.cite.Cite.{Cite}

-- what is known of entries, and what is written of them
pub record Writing (E P : Type 0) : Type 0 where
  pub answers : E → Answers
  pub cite : CiteTaskValue E P → Cite
  -- where the style has a bibliography
  pub item : ItemTaskValue E P → Option (List Child)
  pub date : DateTaskValue E → List Child

-- a writer: what it writes, what it notes where it is asked for something, and its notes
pub record WriterState (E P N : Type 0) : Type 0 where
  pub cite : CiteTaskValue E P → Cite
  pub item : ItemTaskValue E P → Option (List Child)
  pub date : DateTaskValue E → List Child
  pub noting : TaskValue E P → List N → List N
  pub notes : List N

-- the notes once all this was asked for, one after another
abbrev pub noted_all : {A N : Type 0} → (A → List N → List N) → List A → List N → List N
noted_all noting [] notes = notes
noted_all noting (task ∷ tasks) notes = noted_all noting tasks (noting task notes)

module _ {E P N : Type 0} where
  -- the writer once it was asked for all this: only its notes have changed
  abbrev pub asked_for : List (TaskValue E P) → WriterState E P N → WriterState E P N
  asked_for tasks w = record w { notes = noted_all w.noting tasks w.notes }

  -- what the writer writes of entries that answer so
  abbrev pub writing_of : (E → Answers) → WriterState E P N → Writing E P
  writing_of answers w = record { answers = answers; cite = w.cite; item = w.item; date = w.date }

  -- two entries are written alike, whatever else is asked for
  pub record AreWrittenEqually (w : WriterState E P N) (a b : E) : Type 0 where
    pub cite : (t : CiteTaskValue E P)
        → w.cite (record t { entry = a }) ≡ w.cite (record t { entry = b })
    pub item : (t : ItemTaskValue E P)
        → w.item (record t { entry = a }) ≡ w.item (record t { entry = b })
    pub date : (t : DateTaskValue E)
        → w.date (record t { entry = a }) ≡ w.date (record t { entry = b })
