-- What a caller may rely on of an answer and its account, without reading any layout.
use Rattle.std.specs.Prelude.{◌≡◌, ℕ, ◌-◌, ◌^◌, All, Bool, true, false, List, None, Some, length, map, min, slice_get, slice_index}
use Rattle.std.specs.List.{AllZip, range_with_len}
use Rattle.std.specs.List.Sorted.{IsPermutation}
use Rattle.driver_assembly.specs.CitationTree.{shown}
use Rattle.driver_assembly.specs.declared.rendered.Rendered.{Rendered}
use Rattle.driver_assembly.specs.declared.rendered.RenderedCitation.{RenderedCitation}
use Rattle.value_styles.specs.declared.style.Collapse.TheVariants.{CitationNumber}
use Rattle.driver_writers.specs.Writing.{Writing}
use Rattle.rounds_grouping.specs.NumberLaws.{CanBeReadBack, is_hidden}
use Rattle.csl_driver.specs.Answer.{Job, citations_of, used_order, rendered_first}
use Rattle.csl_driver.specs.ListedOnce.{ListsEachOnce}
use Rattle.csl_driver.specs.ShownEntries.{entries_shown}
use Rattle.csl_driver.specs.declared.account.Account.{Account}
use Rattle.driver_entries.specs.Entries.{bibliography_order, distinct, place}
use Rattle.driver_entries.specs.Laws.{NoTwoEqual}
use Rattle.rounds_grouping.specs.Blocks.{is_grouped}
use Rattle.rounds_grouping.specs.FinalOrder.{HasFinalOrder}
use Rattle.driver_lookup.specs.declared.state.IbidState.{IbidState}
use Rattle.driver_passes.specs.Purposes.{has_no_purpose}
use Rattle.driver_passes.specs.Renders.{CiteRender, ItemRender}
use Rattle.driver_passes.specs.Request.{RequestedCite, cited, with_places}
use Rattle.driver_positions.specs.FinalProperties.{as_cite, cited_finally, items_finally, placed_finally, with_final_properties}
use Rattle.rounds_runs.specs.Rounds.{StateTable, no_states, told_by}
use Rattle.rounds_runs.specs.RunLaws.{IsLawful, last_shown}
use Rattle.rounds_runs.specs.Tables.{last_table}
use Rattle.rounds_runs.specs.declared.mode.RoundMode.{RoundMode}

-- entries of which no two are equal have the offset and the numbers that follow, each once
pub record HaveNumbersOnce {E : Type 0} (eq : E → E → Bool) (offset : ℕ)
    (entries : List E) (numbers : List ℕ) : Type 0 where
  pub apart : NoTwoEqual eq entries
  pub each_once : IsPermutation (range_with_len offset (length entries)) numbers

-- the number that an account has for an entry
abbrev pub number_in : {E : Type 0} → (E → E → Bool) → List E → List ℕ → E → ℕ
number_in eq entries numbers e = slice_index numbers (place eq e entries)

-- these distinct entries, in this order, have the offset and the numbers that follow
abbrev pub AreInOrder : {E : Type 0} → (E → E → Bool) → ℕ → List E → List ℕ → List E → Type 0
AreInOrder eq offset entries numbers ordered =
    map (number_in eq entries numbers) ordered ≡ range_with_len offset (length ordered)

module _ {E P : Type 0} where
  -- the places of cites among those of their request
  abbrev pub places_of : List (ItemRender E P) → List ℕ
  places_of cites = map (λ i. i.properties.certain.initial_idx) cites

  -- the cite that was rendered, with its place
  abbrev pub cite_of : ItemRender E P → RequestedCite E P
  cite_of i = record (as_cite i) { hidden = i.hidden }

  -- the cites are those of their request, each once
  abbrev pub HasOwnCites : CiteRender E P → Type 0
  HasOwnCites cites = IsPermutation (with_places cites.request).cites (map cite_of cites.items)

  -- a cite but for its position and its number
  abbrev pub unsettled : ItemRender E P → ItemRender E P
  unsettled i = record i { properties = placed_finally IbidState.Different 0 i.properties }

  -- a cite but for whether it is hidden, for its override and for its verdict
  abbrev pub uncollapsed : ItemRender E P → ItemRender E P
  uncollapsed i = record i { hidden = false; delimiter_override = None; verdict = None }

  -- the cites of a request, and the same in a final order
  pub record IsBroughtTogether (cites grouped : CiteRender E P) : Type 0 where
    pub same_request : grouped.request ≡ cites.request
    pub final_order : HasFinalOrder (is_grouped cites.request.style.citation) cites.items
        grouped.items

  -- the cites of a request, and the same with other positions and numbers
  pub record IsSettled (cites settled : CiteRender E P) : Type 0 where
    pub same_request : settled.request ≡ cites.request
    pub same_cites : map unsettled settled.items ≡ map unsettled cites.items

  -- the cites of a request, and the same collapsed, which can be read back where none has a purpose
  pub record IsReadBack (cites drawn : CiteRender E P) : Type 0 where
    pub same_request : drawn.request ≡ cites.request
    -- they are the same cites in the same order, but for what is hidden, for overrides and for
    -- verdicts
    pub same_cites : map uncollapsed drawn.items ≡ map uncollapsed cites.items
    -- what was hidden stays hidden
    pub hidden_stays : (k : ℕ) → is_hidden cites.items k ≡ true → is_hidden drawn.items k ≡ true
    -- where numbers are collapsed no verdict changes
    pub numbers_cut_none : cites.request.style.citation.collapse ≡ Some CitationNumber
        → map (λ i. i.verdict) drawn.items ≡ map (λ i. i.verdict) cites.items
    -- where the style collapses nothing, or where a cite has a purpose, nothing changes
    pub uncollapsed_stays : cites.request.style.citation.collapse ≡ None → drawn.items ≡ cites.items
    pub purpose_stays : has_no_purpose cites.items ≡ false → drawn.items ≡ cites.items
    pub read_back : has_no_purpose cites.items ≡ true
        → CanBeReadBack cites.items drawn.items cites.request.style.citation.collapse

module _ {E P : Type 0} (eq : E → E → Bool) (payload_eq : P → P → Bool) where
  -- how the citations of an answer came from the cites as they were disambiguated, where entries
  -- have these numbers
  pub record ComeFrom (writing : Writing E P) (job : Job E P) (number_of : E → ℕ)
      (told : List (CiteRender E P)) (citations : List RenderedCitation) : Type 0 where
    -- the cites of each request in a final order, then with final positions and numbers, then
    -- collapsed
    pub ordered : List (CiteRender E P)
    pub settled : List (CiteRender E P)
    pub drawn : List (CiteRender E P)
    pub final_orders : AllZip IsBroughtTogether told ordered
    pub settles : AllZip IsSettled ordered settled
    -- each has its position against the cite before it, and the number of its entry
    pub positions : settled ≡ with_final_properties eq payload_eq number_of ordered
    -- they are those of their requests, each once
    pub own_cites : All HasOwnCites settled
    pub runs : AllZip IsReadBack settled drawn
    -- each that is drawn has the number of its entry
    pub numbered : All (λ i. i.properties.speculative.citation_number ≡ number_of i.entry)
        (items_finally drawn)
    -- they are those of the requests that were asked, one citation for each
    pub asked_for : map (λ c. c.request) drawn ≡ job.requests
    pub made : citations ≡ citations_of writing drawn
    -- each citation shows those of its cites that aren't hidden, each once, in this order
    pub shows : map (λ c. entries_shown c.citation) citations
        ≡ map (λ c. places_of (shown c.items)) drawn

-- the entries of an account, and the number that it has for each
abbrev pub entries_in : {E : Type 0} → Account E → List E
entries_in account = map (λ e. e.now) account.entries.items

abbrev pub numbers_in : {E : Type 0} → (E → E → Bool) → Account E → E → ℕ
numbers_in eq account = number_in eq (entries_in account) account.numbers.items

-- what holds of every answer and its account
pub record KeepsLaws {E P : Type 0} (eq : E → E → Bool) (payload_eq : P → P → Bool)
    (writing : Writing E P)
    (mode : RoundMode) (job : Job E P) (r : Rendered × Account E) : Type 0 where
  -- the tables of states: the empty one, one more for each round that marked, and last the
  -- account's states
  pub tables : List (StateTable E)
  pub first_is_empty : slice_get tables 0 ≡ Some no_states
  pub one_for_each_round : r.1.rounds ≡ min (length tables - 1) (2 ^ 128 - 1)
  pub last_is_told : r.1.states.items
      ≡ map (λ e. told_by (last_table tables e.now)) r.1.entries.items
  -- states go on from table to table, suffixes stay, nothing is left, and ranks rise
  pub rounds : IsLawful mode eq writing (rendered_first eq payload_eq writing job) tables r.1.rounds
  -- the account's entries are the distinct ones that are cited, in the order of their first cites
  pub cited_entries : entries_in r.1 ≡ distinct eq (cited job.requests)
  pub numbers : HaveNumbersOnce eq job.offset (entries_in r.1) r.1.numbers.items
  -- each citation comes from the cites of its request in a final order, whose runs can be read back
  pub citations : ComeFrom eq payload_eq writing job (numbers_in eq r.1)
      (last_shown mode eq writing (rendered_first eq payload_eq writing job) tables) r.0.citations
  -- where no order is used, numbers go by the entries' first cites in these orders
  pub numbers_in_order : used_order job.wanted ≡ None
      → AreInOrder eq job.offset (entries_in r.1) r.1.numbers.items
      (distinct eq (cited_finally citations.ordered))
  -- and else by the bibliography's entries
  pub numbers_by_order : (order : List E) → used_order job.wanted ≡ Some order
      → AreInOrder eq job.offset (entries_in r.1) r.1.numbers.items
      (bibliography_order eq (Some order) (cited job.requests))
  -- the bibliography lists each of the account's entries once, and no other
  pub bibliography : ListsEachOnce eq writing job (entries_in r.1) citations.settled
      r.0.bibliography
