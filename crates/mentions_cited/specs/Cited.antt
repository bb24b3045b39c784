-- Mentions as cites that a writer is asked for.
use Rattle.std.specs.Prelude.{◌≡◌, ℕ, None, if◌then◌else◌}
use Rattle.driver_lookup.specs.Properties.{Properties}
use Rattle.driver_lookup.specs.PropertiesView.{properties_view}
use Rattle.driver_lookup.specs.declared.state.IbidState.{IbidState}
use Rattle.driver_lookup.specs.declared.state.IdentifierUsage.{IdentifierUsage}
use Rattle.driver_lookup.specs.SourceView.{source_view}
use Rattle.mentions_groups.specs.declared.state.MentionState.{MentionState}
use Rattle.mentions_groups.specs.declared.written.Written.{Written}
use Rattle.mentions_tables.specs.Asked.{MentionsWriter, asked_as, is_told}
use Rattle.mentions_tables.specs.declared.writer.WrittenMention.{WrittenMention}
use Rattle.driver_writers.specs.Counted.{counted}
use Rattle.driver_writers.specs.Tasks.{CiteTaskValue, cite_task}
use Rattle.driver_writers.specs.Writing.{WriterState}
use Rattle.driver_writers.specs.declared.cite.Cite.{Cite}
use Rattle.mentions_cited.specs.Kept.{written_mention}
use Rattle.mentions_cited.specs.ToldMeans.{with_ibid, with_means}
use Rattle.mentions_cited.specs.declared.kept.KeptOfMention.{KeptOfMention}
use Rattle.mentions_cited.specs.declared.kept.Noted.{Noted}
use Rattle.mentions_cited.specs.declared.mention.CiteMention.{CiteMention}

module _ {E P : Type 0} where
  -- a mention by these properties: it has neither a purpose nor a verdict, and no place
  abbrev pub with_properties : CiteMention E P → Properties P → CiteTaskValue E P
  with_properties m properties = record {
    source = source_view m.source;
    entry = m.entry.now;
    properties = properties;
    purpose = None;
    verdict = None;
    place = None;
  }

  -- where nothing tells it apart
  abbrev pub first_task : CiteMention E P → CiteTaskValue E P
  first_task m = with_properties m (properties_view m.properties.now)

  -- a mention that is written as it repeats the cite before it in this way: with the means of its
  -- state, and this usage
  abbrev pub task_repeated :
      CiteTaskValue E P → MentionState → IdentifierUsage → IbidState → CiteTaskValue E P
  task_repeated t state usage ibid =
      record t { properties = with_ibid (with_means t.properties state usage) ibid }

-- a writer writes and notes as another one, whatever was noted before
pub record WritesOn {E P N : Type 0} (w v : WriterState E P N) : Type 0 where
  pub cite : v.cite ≡ w.cite
  pub item : v.item ≡ w.item
  pub date : v.date ≡ w.date
  pub noting : v.noting ≡ w.noting

module _ {E P : Type 0} (cite : CiteTaskValue E P → Cite) where
  -- a cite that is written in a state: where that tells it apart, with the usage that it noted
  -- where nothing did
  abbrev pub task_again : CiteTaskValue E P → MentionState → CiteTaskValue E P
  task_again t state =
      if is_told state
      then record t { properties = with_means t.properties state (cite t).identifier_usage }
      else t

  -- what is written then
  abbrev pub written_again : CiteTaskValue E P → MentionState → WrittenMention KeptOfMention
  written_again t state = written_mention (cite (task_again t state))

  -- what is read of it, and what is kept
  abbrev pub reading_of : CiteTaskValue E P → MentionState → Written
  reading_of t state = (written_again t state).read

  abbrev pub keeping_of : CiteTaskValue E P → MentionState → KeptOfMention
  keeping_of t state = (written_again t state).kept

  -- the task of a mention
  abbrev pub task_in : CiteMention E P → MentionState → CiteTaskValue E P
  task_in m = task_again (first_task m)

module _ {E P N : Type 0} (w : WriterState E P N) where
  -- cites that are written in states, so many of which were counted
  abbrev pub cites : ℕ → MentionsWriter (CiteTaskValue E P) KeptOfMention (Noted N)
  cites count = record {
    write = written_again w.cite;
    noting = λ p noted. record {
      notes = w.noting (cite_task (task_again w.cite p.0 p.1)) noted.notes;
      count = counted noted.count;
    };
    notes = record { notes = w.notes; count = count };
  }

  -- mentions that are written as these
  abbrev pub cited : ℕ → MentionsWriter (CiteMention E P) KeptOfMention (Noted N)
  cited count = asked_as first_task (cites count)
