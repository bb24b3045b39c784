-- Mentions that cites repeat, as they are written, and what cites show by these.
use Rattle.std.specs.Prelude.{ℕ, ◌+◌, Bool, false, List, [], ◌∷◌, None, Option, Some, bytes_eq, filter_map, if◌then◌else◌, length, map, option_map, slice_get, unwrap_or}
use Rattle.std.specs.List.{enumerate_from}
use Rattle.std.specs.Option.{option_and_then, option_map_or}
use Rattle.mentions_arranging.specs.Requests.{Request}
use Rattle.mentions_arranging.specs.declared.repeating.Repeated.{Repeated}
use Rattle.mentions_arranging.specs.declared.request.FinalCite.{FinalCite}
use Rattle.mentions_arranging.specs.declared.request.RequestedCite.{RequestedCite}
use Rattle.mentions_arranging.specs.declared.request.Shown.{Shown}
use Rattle.mentions_cited.specs.Cited.{task_repeated}
use Rattle.mentions_cited.specs.Kept.{written_mention}
use Rattle.mentions_cited.specs.declared.kept.KeptOfMention.{KeptOfMention}
use Rattle.mentions_groups.specs.declared.state.MentionState.{MentionState}
use Rattle.mentions_tables.specs.Asked.{untold}
use Rattle.mentions_tables.specs.Steps.{all_changed}
use Rattle.mentions_tables.specs.declared.subject.Subject.{Subject}
use Rattle.driver_writers.specs.Tasks.{CiteTaskValue}
use Rattle.driver_writers.specs.declared.cite.Cite.{Cite}
use Rattle.mentions_cites.specs.Arranging.{ibid_of}
use Rattle.mentions_cites.specs.Mentions.{first_with_names, mention_index, mention_of}
use Rattle.mentions_cites.specs.declared.mentions.ToldMention.{ToldMention}

-- a mention reads as it did where it repeated nothing, by what was kept of each as it was written
-- last
abbrev pub reads_alike : List KeptOfMention → Repeated → KeptOfMention → Bool
reads_alike lasts r kept = option_map_or (λ last. bytes_eq kept.text last.text)
    (slice_get lasts (mention_index r.entry r.is_first)) false

-- what is known of all mentions once they are told apart
module _ (mentions : List ToldMention) where
  -- by what was kept of each mention as it was written last
  module _ (lasts : List KeptOfMention) where
    -- what a cite shows of which this was kept. Its text counts where it is that of its mention;
    -- names that no mention shows have a number of their own
    abbrev pub shown_by : ℕ → Repeated → KeptOfMention → Shown
    shown_by own r kept = record {
      names = option_map (λ n. unwrap_or (first_with_names lasts n) own) kept.names;
      text = if reads_alike lasts r kept then (mention_of mentions r.entry r.is_first).shown.text
          else None;
      has_number = kept.shows_number;
      has_date = kept.shows_date;
    }

  -- a mention as it is asked for where it is repeated
  abbrev pub task_told : {E P : Type 0} → List MentionState → Repeated → CiteTaskValue E P
      → CiteTaskValue E P
  task_told states r t =
      task_repeated t (unwrap_or (slice_get states (mention_index r.entry r.is_first)) untold)
      (mention_of mentions r.entry r.is_first).usage (ibid_of r.position)

  module _ {E P : Type 0} (subjects : List (Subject (CiteTaskValue E P)))
      (states : List MentionState) where
    -- what is asked for a mention that is repeated, if it is there
    abbrev pub repeat_task : Repeated → Option (CiteTaskValue E P)
    repeat_task r = option_map (λ s. task_told states r s.mention)
        (slice_get subjects (mention_index r.entry r.is_first))

    abbrev pub repeat_tasks : List (Option Repeated) → List (CiteTaskValue E P)
    repeat_tasks = filter_map (λ o. option_and_then repeat_task o)

    module _ (lasts : List KeptOfMention) (cite : CiteTaskValue E P → Cite) where
      -- what the cite at a place shows, if it repeats a mention
      abbrev pub shown_repeat : ℕ × Option Repeated → Option Shown
      shown_repeat p = option_and_then (λ r. option_map
          (λ t. shown_by lasts (length lasts + p.0) r (written_mention (cite t)).kept)
          (repeat_task r)) p.1

      abbrev pub shown_repeats : List (Option Repeated) → List (Option Shown)
      shown_repeats repeats = map shown_repeat (enumerate_from 0 repeats)

module _ {L : Type 0} where
  -- the first of some cites is brought together with others by these names
  abbrev pub with_key : Option ℕ → List (RequestedCite L) → List (RequestedCite L)
  with_key names [] = []
  with_key names (c ∷ cites) = record c { key = names } ∷ cites

  -- the first cite of a request is, by what it shows, where that is said
  abbrev pub with_first_key :
      Option Shown → Request (RequestedCite L) → Request (RequestedCite L)
  with_first_key None r = r
  with_first_key (Some s) r = record r { cites = with_key s.names r.cites }

  -- a cite shows this, where that is said
  abbrev pub with_shown : Option Shown → FinalCite L → FinalCite L
  with_shown None c = c
  with_shown (Some s) c = record c { cite = record c.cite { shown = s } }

  abbrev pub cites_with_shown :
      List (Option Shown) → Request (FinalCite L) → Request (FinalCite L)
  cites_with_shown shown r = record r { cites = all_changed with_shown shown r.cites }
