-- What a caller may rely on of the citations and the bibliography of an answer in which works are
-- told apart as CSL 1.0.2 has it.
use Rattle.std.specs.Prelude.{◌≡◌, ℕ, Bool, true, false, All, List, filter, length, map, option_map}
use Rattle.std.specs.List.{AllZip, enumerate_from, range_with_len}
use Rattle.mentions_arranging.specs.Order.{grouped_cite, is_grouped}
use Rattle.mentions_arranging.specs.Requests.{Request as Arranged}
use Rattle.mentions_arranging.specs.declared.request.RequestedCite.{RequestedCite as PlainCite}
use Rattle.driver_assembly.specs.ByMeans.{bibliography_by_means}
use Rattle.driver_assembly.specs.CitationTree.{shown, shown_cite}
use Rattle.driver_assembly.specs.WithoutEmpty.{has_something}
use Rattle.driver_assembly.specs.declared.rendered.Rendered.{Rendered}
use Rattle.driver_assembly.specs.declared.rendered.RenderedCitation.{RenderedCitation}
use Rattle.mentions_blocks.specs.Blocks.{block}
use Rattle.mentions_blocks.specs.declared.blocks.GroupedCite.{GroupedCite}
use Rattle.mentions_cited.specs.ToldMeans.{means_of}
use Rattle.rounds_grouping.specs.NumberLaws.{is_hidden}
use Rattle.driver_entries.specs.Entries.{place}
use Rattle.rounds_grouping.specs.Laws.{StandsTogether}
use Rattle.driver_lookup.specs.Properties.{LocatorValue}
use Rattle.driver_passes.specs.Renders.{CiteRender, ItemRender}
use Rattle.driver_passes.specs.Request.{source_of, wanted_source}
use Rattle.driver_positions.specs.FinalProperties.{items_finally}
use Rattle.mentions_cites.specs.Mentions.{suffix_number}
use Rattle.driver_writers.specs.Writing.{Writing}
use Rattle.csl_driver.specs.Answer.{Job}
use Rattle.csl_driver.specs.AnswerLaws.{HasOwnCites, number_in, places_of, uncollapsed, unsettled}
use Rattle.csl_driver.specs.CslAnswer.{keyed, listed, listed_cites, told_citations}
use Rattle.csl_driver.specs.CslByEntry.{entries_had, means_had, state_of}
use Rattle.csl_driver.specs.CslReadBack.{CanBeReadBack}
use Rattle.csl_driver.specs.ShownEntries.{entries_shown}
use Rattle.csl_driver.specs.declared.csl_account.CslAccount.{CslAccount}

module _ {E P : Type 0} where
  -- a cite but for its position and its number, for what collapsing hides, and for how it is cut
  abbrev pub unarranged : ItemRender E P → ItemRender E P
  unarranged i = uncollapsed (unsettled i)

  -- the cites of a request in their final order, and the same as they are arranged
  pub record IsArranged (ordered arranged : CiteRender E P) : Type 0 where
    pub same_request : arranged.request ≡ ordered.request
    pub same_cites : map unarranged arranged.items ≡ map unarranged ordered.items
    -- what was hidden stays hidden
    pub hidden_stays : (k : ℕ) → is_hidden ordered.items k ≡ true
        → is_hidden arranged.items k ≡ true

  -- the cites of the r-th request that its citation shows: those that aren't hidden, and of which
  -- there is something to see
  abbrev pub cites_seen : Writing E P → ℕ → CiteRender E P → List (ItemRender E P)
  cites_seen writing r c =
      let layout = c.request.style.citation.layout in
      filter (λ i. has_something (shown_cite writing r (source_of c.request) layout i))
      (shown c.items)

-- the cites of a request, which are brought into blocks or aren't, at these places in their final
-- order
pub record StandInBlocks (groups : Bool) (cites : List GroupedCite) (places : List ℕ) : Type 0 where
  -- those of one block, which show the same names in one part of the request, stand together, in
  -- the order handed in
  pub together : groups ≡ true → (k : ℕ)
      → StandsTogether places (map (λ c. c.place) (block cites k))
  -- else all stay as they were handed in
  pub as_handed_in : groups ≡ false → places ≡ range_with_len 0 (length cites)

-- a cite has the number of its entry
abbrev pub IsNumbered : {E P : Type 0} → (E → E → Bool) → CslAccount E → ItemRender E P → Type 0
IsNumbered eq account i = i.properties.speculative.citation_number
    ≡ number_in eq (entries_had account) account.numbers.items i.entry

module _ {E P : Type 0} (eq : E → E → Bool) (payload_eq : P → P → Bool) (writing : Writing E P)
    (job : Job E P) (account : CslAccount E) where
  -- a cite is told all that tells its mention apart, and the suffix of its entry
  abbrev pub IsToldWhole : ItemRender E P → Type 0
  IsToldWhole i =
      let entry = place eq i.entry (entries_had account) in
      i.properties.speculative.means
      ≡ means_of (state_of account entry i.properties.certain.is_first)
      (suffix_number account.suffixes.items entry)

  -- the cites of a request stand in blocks, if its style brings cites together
  abbrev pub StandsInBlocks : Arranged (PlainCite (LocatorValue P)) → CiteRender E P → Type 0
  StandsInBlocks r ordered = StandInBlocks (is_grouped r.facts.style) (map grouped_cite r.cites)
      (places_of ordered.items)

  -- how citations came from the cites of the requests
  pub record ComeArranged (citations : List RenderedCitation) : Type 0 where
    -- the cites of each request in a final order, then as they are arranged
    pub ordered : List (CiteRender E P)
    pub arranged : List (CiteRender E P)
    -- they are those of the requests that were asked, one citation for each
    pub asked_for : map (λ c. c.request) ordered ≡ job.requests
    -- each once
    pub own_cites : All HasOwnCites ordered
    -- where cites are brought together by names those of a block are: by the names that their
    -- mentions show, but a first cite that repeats by those that it shows then
    pub blocks : AllZip StandsInBlocks (keyed eq job writing payload_eq) ordered
    pub arranges : AllZip IsArranged ordered arranged
    -- what this hides can be read back from what it shows
    pub read_back : AllZip (CanBeReadBack eq writing job) ordered arranged
    pub told_whole : All IsToldWhole (items_finally arranged)
    pub numbered : All (IsNumbered eq account) (items_finally arranged)
    pub made : citations ≡ told_citations writing arranged
    -- each citation shows those of its cites that aren't hidden, and of which there is something to
    -- see, in this order
    pub shows : map (λ c. entries_shown c.citation) citations
        ≡ map (λ p. places_of (cites_seen writing p.0 p.1)) (enumerate_from 0 arranged)

  -- the bibliography is written by the first of these cites of each entry, each item by what its
  -- entry is told apart by
  abbrev pub IsListedByMeans : List (CiteRender E P) → Rendered → Type 0
  IsListedByMeans arranged rendered = rendered.bibliography ≡ option_map
      (λ b. bibliography_by_means writing (wanted_source job.wanted) b
      (listed_cites eq (means_had account) arranged (listed eq job)))
      job.wanted.style.bibliography
