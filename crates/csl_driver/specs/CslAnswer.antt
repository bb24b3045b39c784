-- The whole answer where works are told apart as CSL 1.0.2 has it, from the whole list of requests.
use Rattle.std.specs.Prelude.{ℕ, Bool, false, List, [], Option, Some, map, option_map, slice_get, unwrap_or}
use Rattle.std.specs.List.{enumerate_from, filter_map}
use Rattle.mentions_arranging.specs.Arranged.{arranged_cites}
use Rattle.mentions_arranging.specs.Order.{final_request}
use Rattle.mentions_arranging.specs.Repeating.{cites_repeated, firsts_repeated}
use Rattle.mentions_arranging.specs.Requests.{Request as PlainRequest}
use Rattle.mentions_arranging.specs.declared.repeating.Repeated.{Repeated}
use Rattle.mentions_arranging.specs.declared.request.FinalCite.{FinalCite}
use Rattle.mentions_arranging.specs.declared.request.RequestedCite.{RequestedCite as PlainCite}
use Rattle.mentions_arranging.specs.declared.request.Shown.{Shown}
use Rattle.driver_assembly.specs.ByMeans.{bibliography_by_means}
use Rattle.driver_assembly.specs.WithoutEmpty.{citation_without_empty}
use Rattle.driver_assembly.specs.declared.by_means.ItemMeans.{ItemMeans}
use Rattle.driver_assembly.specs.declared.rendered.Rendered.{Rendered}
use Rattle.driver_assembly.specs.declared.rendered.RenderedCitation.{RenderedCitation}
use Rattle.mentions_cited.specs.Cited.{keeping_of, reading_of}
use Rattle.mentions_cited.specs.declared.kept.KeptOfMention.{KeptOfMention}
use Rattle.driver_entries.specs.Entries.{number}
use Rattle.driver_lookup.specs.Properties.{LocatorValue}
use Rattle.mentions_groups.specs.declared.state.MentionState.{MentionState}
use Rattle.mentions_groups.specs.declared.written.Written.{Written}
use Rattle.mentions_notes.specs.declared.notes.CiteNotes.{CiteNotes}
use Rattle.driver_passes.specs.Positions.{same_locators}
use Rattle.driver_passes.specs.Renders.{CiteRender, ItemRender}
use Rattle.driver_passes.specs.Request.{wanted_source}
use Rattle.driver_positions.specs.FinalProperties.{first_item}
use Rattle.mentions_cited.specs.Handed.{notes_of_cites}
use Rattle.mentions_cited.specs.Mentions.{mentions_of}
use Rattle.mentions_tables.specs.Asked.{untold}
use Rattle.mentions_tables.specs.Steps.{all_changed}
use Rattle.mentions_tables.specs.Tables.{kept_again, kept_at_first, texts_told, third_table, year_suffixes}
use Rattle.mentions_tables.specs.declared.subject.Subject.{Subject}
use Rattle.mentions_cites.specs.Arranging.{arranged_finally}
use Rattle.mentions_cites.specs.Cites.{ToldValue, told_cites}
use Rattle.mentions_cites.specs.Mentions.{kept_last, mention_index, suffix_number, told_mentions}
use Rattle.mentions_cites.specs.Repeats.{cites_with_shown, repeat_tasks, shown_repeats, with_first_key}
use Rattle.mentions_cites.specs.Requests.{plain_requests}
use Rattle.mentions_cites.specs.declared.mentions.ToldMention.{ToldMention}
use Rattle.driver_writers.specs.Tasks.{CiteTaskValue}
use Rattle.driver_writers.specs.Writing.{Writing}
use Rattle.csl_driver.specs.Answer.{Job, entries_listed, numbered_finally, used_order}

-- the same locator: of one kind and with one payload
abbrev pub same_locator : {P : Type 0} → (P → P → Bool) → LocatorValue P → LocatorValue P → Bool
same_locator payload_eq a b = same_locators payload_eq (Some a) (Some b)

-- the means of an item, by the index of its entry in the order of the bibliography: the choice of
-- its later mention, and its suffix
abbrev pub item_means : List MentionState → List (Option ℕ) → ℕ → ItemMeans
item_means states suffixes k = record {
  choose = (unwrap_or (slice_get states (mention_index k false)) untold).chosen;
  suffix = suffix_number suffixes k;
}

module _ {E P : Type 0} where
  -- the first cites of these entries, each with the means of its item
  abbrev pub listed_cites : (E → E → Bool) → (ℕ → ItemMeans) → List (CiteRender E P) → List E
      → List (ItemRender E P × ItemMeans)
  listed_cites eq means cites entries =
      filter_map (λ p. option_map (λ i. (i, means p.0)) (first_item eq cites p.1))
      (enumerate_from 0 entries)

  module _ (writing : Writing E P) where
    -- the answer to the r-th request, from its cites as they are arranged
    abbrev pub told_citation : ℕ → CiteRender E P → RenderedCitation
    told_citation r c = record {
      note_number = c.request.note_number;
      citation = citation_without_empty writing r c;
    }

    -- the answers to all
    abbrev pub told_citations : List (CiteRender E P) → List RenderedCitation
    told_citations cites = map (λ c. told_citation c.0 c.1) (enumerate_from 0 cites)

module _ {E P : Type 0} (eq : E → E → Bool) (job : Job E P) where
  -- the entries of the bibliography
  abbrev pub listed : List E
  listed = entries_listed eq job.wanted job.requests

  -- what is known of each cite by those before it
  abbrev pub cite_notes : List (List CiteNotes)
  cite_notes = notes_of_cites eq listed job.requests

  -- the two mentions of each entry
  abbrev pub mentions : List (Subject (CiteTaskValue E P))
  mentions = mentions_of eq job.offset listed job.requests

  -- the requests, their cites as they are handed in, from what is known of mentions and the
  -- suffixes
  abbrev pub plain_by : List ToldMention → List (Option ℕ)
      → List (PlainRequest (PlainCite (LocatorValue P)))
  plain_by told suffixes = plain_requests told suffixes eq listed job.requests cite_notes

  -- the numbers of the entries of the bibliography in the end, by these cites in the final order
  abbrev pub numbers_by : List (CiteRender E P) → List ℕ
  numbers_by cites = map
      (number eq job.offset (numbered_finally eq (used_order job.wanted) job.requests cites)) listed

  module _ (writing : Writing E P) where
    -- what is read of a mention that is written in a state, and what is kept of it
    abbrev pub read : CiteTaskValue E P → MentionState → Written
    read = reading_of writing.cite

    abbrev pub keep : CiteTaskValue E P → MentionState → KeptOfMention
    keep = keeping_of writing.cite

    -- what tells each mention apart, and the year suffix of each entry
    abbrev pub states : List MentionState
    states = third_table read mentions

    abbrev pub entry_suffixes : List (Option ℕ)
    entry_suffixes = year_suffixes read mentions

    -- what is known of each mention then
    abbrev pub shown_mentions : List ToldMention
    shown_mentions = told_mentions (kept_at_first keep mentions) (kept_again keep mentions states)
        (texts_told read mentions)

    -- what is known of mentions and entries; no entry has its number yet
    abbrev pub known : ToldValue
    known = record {
      states = states;
      mentions = shown_mentions;
      suffixes = entry_suffixes;
      numbers = [];
    }

    -- the requests, their cites as they are handed in
    abbrev pub plain : List (PlainRequest (PlainCite (LocatorValue P)))
    plain = plain_by shown_mentions entry_suffixes

    -- what was kept of each mention as it was written last
    abbrev pub last_kept : List KeptOfMention
    last_kept = kept_last (kept_at_first keep mentions) (kept_again keep mentions states)

    -- what is asked for mentions that cites repeat, and what these cites show
    abbrev pub tasks_repeated : List (Option Repeated) → List (CiteTaskValue E P)
    tasks_repeated = repeat_tasks shown_mentions mentions states

    abbrev pub shown_repeated : List (Option Repeated) → List (Option Shown)
    shown_repeated = shown_repeats shown_mentions mentions states last_kept writing.cite

    module _ (payload_eq : P → P → Bool) where
      -- the mentions that the first cites of requests repeat, as they are handed in
      abbrev pub repeated_firsts : List (Option Repeated)
      repeated_firsts = firsts_repeated (same_locator payload_eq) plain

      -- the requests, whose first cites are brought together with others by what they show
      abbrev pub keyed : List (PlainRequest (PlainCite (LocatorValue P)))
      keyed = all_changed with_first_key (shown_repeated repeated_firsts) plain

      -- the mentions that cites repeat in their final order
      abbrev pub repeated_cites : List (List (Option Repeated))
      repeated_cites = cites_repeated (same_locator payload_eq) (map final_request keyed)

      -- the requests, their cites in the final order, with what they show there
      abbrev pub ordered : List (PlainRequest (FinalCite (LocatorValue P)))
      ordered = all_changed cites_with_shown (map shown_repeated repeated_cites)
          (map final_request keyed)

      -- and these cites, of which nothing is written yet
      abbrev pub cites_in_order : List (CiteRender E P)
      cites_in_order = told_cites known job.requests cite_notes ordered

      -- the numbers of the entries in the end
      abbrev pub numbers_in_the_end : List ℕ
      numbers_in_the_end = numbers_by cites_in_order

      -- the cites as they are arranged: with their positions and numbers, and collapsed
      abbrev pub cites_arranged : List (CiteRender E P)
      cites_arranged = arranged_finally numbers_in_the_end ordered
          (arranged_cites (same_locator payload_eq) numbers_in_the_end ordered) cites_in_order

      -- the first cites of the bibliography's entries, each with the means of its item
      abbrev pub told_first_cites : List (ItemRender E P × ItemMeans)
      told_first_cites = listed_cites eq (item_means states entry_suffixes) cites_arranged listed

      -- the whole answer: one citation for each request, and the bibliography where the style that
      -- was asked for has one
      abbrev pub rendered_csl : Rendered
      rendered_csl = record {
        bibliography = option_map
            (λ b. bibliography_by_means writing (wanted_source job.wanted) b told_first_cites)
            job.wanted.style.bibliography;
        citations = told_citations writing cites_arranged;
      }
