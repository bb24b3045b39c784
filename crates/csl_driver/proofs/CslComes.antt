-- The laws of citations, numbers and the bibliography hold of every answer; and so do all laws.
use Rattle.std.proofs.Common.{◌≡◌, ℕ, suc, Bool, true, false, cond, None, Some, Option, List, [], ◌∷◌, All, length, map, refl, ap, sym, subst, ◌∙◌}
use Rattle.std.specs.Prelude.{option_map, slice_get, slice_index, unwrap_or}
use Rattle.std.specs.Cmp.{IsEquivalence}
use Rattle.std.specs.List.{AllZip, range_with_len}
use Rattle.std.specs.List.Sorted.{IsPermutation}
use Rattle.std.proofs.Math.ListN.{length-map}
use Rattle.std.proofs.lemmas.List.Elements.{All-weaker}
use Rattle.mentions_arranging.specs.Arranged.{arranged_cites}
use Rattle.mentions_arranging.specs.Order.{final_request}
use Rattle.mentions_arranging.specs.Repeating.{final_positions, repeating_request}
use Rattle.mentions_arranging.specs.Requests.{Request as Arranged}
use Rattle.mentions_arranging.specs.declared.request.FinalCite.{FinalCite}
use Rattle.driver_assembly.specs.ByMeans.{bibliography_by_means}
use Rattle.driver_assembly.specs.declared.rendered.Rendered.{Rendered}
use Rattle.mentions_cited.specs.ToldMeans.{means_of}
use Rattle.csl_driver.specs.Answer.{Job, numbered_finally, used_order}
use Rattle.csl_driver.specs.AnswerLaws.{AreInOrder, HasOwnCites, HaveNumbersOnce}
use Rattle.csl_driver.specs.CslAccount.{entries_told, every_second}
use Rattle.csl_driver.specs.CslAnswer.{cite_notes, cites_arranged, cites_in_order, entry_suffixes, item_means, keyed, known, listed, listed_cites, numbers_in_the_end, ordered, read, repeated_cites, repeated_firsts, same_locator, shown_mentions, shown_repeated, states}
use Rattle.csl_driver.specs.CslByEntry.{entries_had, means_had, state_of}
use Rattle.csl_driver.specs.CslCitations.{ComeArranged, IsListedByMeans, IsNumbered, IsToldWhole}
use Rattle.csl_driver.specs.CslLaws.{KeepsCslLaws, NumbersEntries}
use Rattle.csl_driver.specs.CslPromised.{IsExactlyCsl}
use Rattle.csl_driver.specs.ShownEntries.{entries_shown}
use Rattle.csl_driver.specs.declared.csl_account.CslAccount.{CslAccount}
use Rattle.csl_driver.proofs.CslBlocks.{ArePlaced, finals-placed, rows-in-blocks, shown-placed}
use Rattle.csl_driver.proofs.CslCounts.{notes-counted, ordered-once}
use Rattle.csl_driver.proofs.CslEntries.{equal-told, numbered-by-order, told-count}
use Rattle.csl_driver.proofs.CslKept.{has-costs, has-entries, tells-apart}
use Rattle.csl_driver.proofs.CslLong.{arranged-long, positions-long}
use Rattle.csl_driver.proofs.CslOnce.{AreWhole, IsWhole, rows-own}
use Rattle.csl_driver.proofs.CslPairs.{firsts-count, laters-count, turns}
use Rattle.csl_driver.proofs.CslReadBack.{rows-back}
use Rattle.csl_driver.proofs.CslShown.{citations-seen}
use Rattle.csl_driver.proofs.CslTold.{AreStanding, HasMeans, HasNumber, all-arranged, equal-places, keyed-stand, means-arranged, numbers-arranged, shown-stand, turn-of}
use Rattle.csl_driver.proofs.KeptLaws.{by-final-order, numbered-once}
use Rattle.driver_entries.specs.Entries.{bibliography_order, distinct, is_in, number, place}
use Rattle.driver_entries.proofs.Distinct.{is_in-distinct}
use Rattle.driver_entries.proofs.Once.{holds_each_once, without_gaps}
use Rattle.driver_lookup.specs.Properties.{LocatorValue}
use Rattle.mentions_groups.specs.declared.state.MentionState.{MentionState}
use Rattle.mentions_groups.specs.declared.written.Written.{Written}
use Rattle.driver_passes.specs.Renders.{CiteRender}
use Rattle.driver_passes.specs.Request.{Request, cited, wanted_source}
use Rattle.driver_positions.specs.FinalProperties.{cited_finally, items_finally}
use Rattle.mentions_cited.specs.Handed.{cite_counts}
use Rattle.mentions_cited.specs.Handed.{is_cited_again}
use Rattle.mentions_cited.specs.Homes.{HomeValue, homes_of}
use Rattle.mentions_tables.specs.Asked.{untold}
use Rattle.mentions_cites.specs.Mentions.{mention_index, suffix_number}
use Rattle.mentions_cites.proofs.Standing.{told-cited as told-cites-cited, told-of}
use Rattle.driver_writers.specs.Tasks.{CiteTaskValue}
use Rattle.driver_writers.specs.Writing.{Writing}

as-long : {A B : Type 0} (R : A → B → Type 0) (xs : List A) (ys : List B) → AllZip R xs ys → length ys ≡ length xs
as-long R [] [] h = refl
as-long R [] (y ∷ ys) h = absurd h
as-long R (x ∷ xs) [] h = absurd h
as-long R (x ∷ xs) (y ∷ ys) h = ap suc (as-long R xs ys h.1)

-- numbers of the entries of a bibliography
module _ {E P : Type 0} (eq : E → E → Bool) (laws : IsEquivalence eq) (requests : List (Request E P)) (cites : List (CiteRender E P)) (same : (e : E) → is_in eq e (cited_finally cites) ≡ is_in eq e (cited requests)) (offset : ℕ) where
  abbrev listed_by : Option (List E) → List E
  listed_by order = bibliography_order eq order (cited requests)

  abbrev numbers_by : Option (List E) → List ℕ
  numbers_by order = map (number eq offset (numbered_finally eq order requests cites)) (listed_by order)

  once-numbered : (order : Option (List E)) → HaveNumbersOnce eq offset (listed_by order) (numbers_by order)
  once-numbered None =
      let finally = holds_each_once eq laws None (cited_finally cites) in
      numbered-once eq laws offset (distinct eq (cited_finally cites)) (listed_by None) finally.once (holds_each_once eq laws None (cited requests)).once
      (λ e. is_in-distinct eq laws e (cited_finally cites) ∙ same e ∙ sym (is_in-distinct eq laws e (cited requests))) (without_gaps eq laws offset (distinct eq (cited_finally cites)) finally.once)
  once-numbered (Some order) =
      let once = (holds_each_once eq laws (Some order) (cited requests)).once in
      numbered-once eq laws offset (listed_by (Some order)) (listed_by (Some order)) once once (λ e. refl) (without_gaps eq laws offset (listed_by (Some order)) once)

  by-first-cites : (order : Option (List E)) → order ≡ None → AreInOrder eq offset (listed_by order) (numbers_by order) (distinct eq (cited_finally cites))
  by-first-cites order none =
      subst (λ o. AreInOrder eq offset (listed_by o) (numbers_by o) (distinct eq (cited_finally cites))) (sym none)
      (by-final-order eq laws (holds_each_once eq laws) (λ n o es. without_gaps eq laws n (bibliography_order eq o es) (holds_each_once eq laws o es).once) requests cites same offset)

module _ {E P : Type 0} (eq : E → E → Bool) (laws : IsEquivalence eq) (payload_eq : P → P → Bool) (writing : Writing E P) (job : Job E P) where
  abbrev finals : List (Arranged (FinalCite (LocatorValue P)))
  finals = ordered eq job writing payload_eq

  abbrev cites : List (CiteRender E P)
  cites = cites_in_order eq job writing payload_eq

  abbrev drawn : List (CiteRender E P)
  drawn = cites_arranged eq job writing payload_eq

  notes-long : map length (cite_notes eq job) ≡ cite_counts job.requests
  notes-long = notes-counted eq job

  whole : AreWhole job.requests finals
  whole = ordered-once eq job writing payload_eq

  -- they stand at their places, whatever they show
  standing : AreStanding eq (listed eq job) (known eq job writing) (shown_mentions eq job writing) (entry_suffixes eq job writing) job.requests (cite_notes eq job) finals
  standing =
      let stand = keyed-stand eq (listed eq job) (known eq job writing) (shown_mentions eq job writing) (entry_suffixes eq job writing) (shown_repeated eq job writing (repeated_firsts eq job writing payload_eq)) job.requests (cite_notes eq job) in
      shown-stand eq (listed eq job) (known eq job writing) (shown_mentions eq job writing) (entry_suffixes eq job writing) (map (shown_repeated eq job writing) (repeated_cites eq job writing payload_eq)) job.requests (cite_notes eq job)
      (map final_request (keyed eq job writing payload_eq)) stand

  -- and in the final order of their requests
  placed : ArePlaced (keyed eq job writing payload_eq) finals
  placed =
      shown-placed (map (shown_repeated eq job writing) (repeated_cites eq job writing payload_eq)) (keyed eq job writing payload_eq) (map final_request (keyed eq job writing payload_eq))
      (finals-placed (keyed eq job writing payload_eq))

  requests-are : map (λ c. c.request) cites ≡ job.requests
  requests-are =
      told-of (known eq job writing) job.requests (cite_notes eq job) finals
      (sym (length-map (cite_notes eq job) length) ∙ ap length notes-long ∙ length-map job.requests _) (as-long IsWhole job.requests finals whole)

  own : All HasOwnCites cites
  own = rows-own (known eq job writing) job.requests (cite_notes eq job) finals notes-long whole

  pub cites-cited : (e : E) → is_in eq e (cited_finally cites) ≡ is_in eq e (cited job.requests)
  cites-cited e = told-cites-cited (known eq job writing) eq e job.requests (cite_notes eq job) finals notes-long whole

  module _ (r : Rendered × CslAccount E) (is : IsExactlyCsl eq payload_eq writing job r) where
    abbrev homes : List (HomeValue E P)
    homes = homes_of eq (listed eq job) job.requests

    abbrev again : ℕ → Bool
    again = is_cited_again eq (listed eq job) job.requests

    abbrev write : CiteTaskValue E P → MentionState → Written
    write = read eq job writing

    -- an entry stands at the place of its equal
    same-place : (e : E) → place eq e (listed eq job) ≡ place eq e (entries_had r.1)
    same-place e = equal-places eq laws e (listed eq job) (entries_told eq job) (equal-told eq laws job) ∙ ap (place eq e) (sym is.entries)

    -- the state of a mention is that of the account
    same-state : (k : ℕ) (is_first : Bool) → unwrap_or (slice_get (states eq job writing) (mention_index k is_first)) untold ≡ state_of r.1 k is_first
    same-state k is_first =
        let all : List MentionState = states eq job writing in
        let first = every_second true all in
        let later = every_second false all in
        let long : length first ≡ length later = firsts-count job.offset again write homes ∙ sym (laters-count job.offset again write homes) in
        ap (λ l. unwrap_or (slice_get l (mention_index k is_first)) untold) (sym (turns job.offset again write homes))
        ∙ ap (λ o. unwrap_or o untold) (turn-of first later long k is_first)
        ∙ (λ i. unwrap_or (slice_get (cond is_first (sym is.first_mentions i) (sym is.later_mentions i)) k) untold)

    told-whole : All (IsToldWhole eq payload_eq writing job r.1) (items_finally drawn)
    told-whole =
        All-weaker (HasMeans eq (listed eq job) (known eq job writing)) (IsToldWhole eq payload_eq writing job r.1)
        (λ i h. h ∙ (λ j. means_of (same-state (place eq i.entry (listed eq job)) i.properties.certain.is_first j) (suffix_number (sym is.suffixes j) (place eq i.entry (listed eq job))))
        ∙ ap (λ k. means_of (state_of r.1 k i.properties.certain.is_first) (suffix_number r.1.suffixes.items k)) (same-place i.entry))
        (items_finally drawn)
        (means-arranged eq (listed eq job) (known eq job writing) (shown_mentions eq job writing) (entry_suffixes eq job writing) job.requests (cite_notes eq job) finals
        (numbers_in_the_end eq job writing payload_eq) (arranged_cites (same_locator payload_eq) (numbers_in_the_end eq job writing payload_eq) finals) standing)

    numbered-whole : All (IsNumbered eq r.1) (items_finally drawn)
    numbered-whole =
        All-weaker (HasNumber eq (listed eq job) (known eq job writing) (numbers_in_the_end eq job writing payload_eq)) (IsNumbered eq r.1)
        (λ i h. h ∙ (λ j. slice_index (sym is.numbers j) (same-place i.entry j)))
        (items_finally drawn)
        (numbers-arranged eq (listed eq job) (known eq job writing) (shown_mentions eq job writing) (entry_suffixes eq job writing) job.requests (cite_notes eq job) finals
        (numbers_in_the_end eq job writing payload_eq) (arranged_cites (same_locator payload_eq) (numbers_in_the_end eq job writing payload_eq) finals) standing
        (arranged-long (numbers_in_the_end eq job writing payload_eq) (same_locator payload_eq) finals))

    abbrev come : ComeArranged eq payload_eq writing job r.1 r.0.citations
    come = record {
      ordered = cites;
      arranged = drawn;
      asked_for = requests-are;
      own_cites = own;
      blocks = rows-in-blocks (known eq job writing) job.requests (cite_notes eq job) (keyed eq job writing payload_eq) finals notes-long whole placed;
      arranges = all-arranged (numbers_in_the_end eq job writing payload_eq) finals (arranged_cites (same_locator payload_eq) (numbers_in_the_end eq job writing payload_eq) finals) cites;
      read_back = rows-back eq (listed eq job) (known eq job writing) (shown_mentions eq job writing) (numbers_in_the_end eq job writing payload_eq) job.requests (cite_notes eq job) finals
          (final_positions (same_locator payload_eq) finals) standing (positions-long (numbers_in_the_end eq job writing payload_eq) (same_locator payload_eq) (map repeating_request finals) 0 finals);
      told_whole = told-whole;
      numbered = numbered-whole;
      made = ap (λ (a : Rendered). a.citations) is.ok;
      shows = ap (λ (a : Rendered). map (λ c. entries_shown c.citation) a.citations) is.ok ∙ citations-seen writing drawn;
    }

    as-many : length (listed eq job) ≡ length (entries_had r.1)
    as-many = sym (told-count eq laws job) ∙ ap length (sym is.entries)

    numbered : NumbersEntries eq job r.1 cites
    numbered = record {
      each_once = record {
        apart = (has-entries eq laws payload_eq writing job r is).none_twice;
        each_once = subst (λ n. IsPermutation (range_with_len job.offset n) r.1.numbers.items) as-many
            (subst (IsPermutation (range_with_len job.offset (length (listed eq job)))) (sym is.numbers)
            (once-numbered eq laws job.requests cites cites-cited job.offset (used_order job.wanted)).each_once);
      };
      by_order = λ order used. is.numbers ∙ numbered-by-order eq laws job cites order used ∙ ap (λ es. range_with_len job.offset (length es)) (sym is.entries);
      by_cites = λ none. (λ i. map (λ e. slice_index (is.numbers i) (sym (same-place e) i)) (distinct eq (cited_finally cites)))
          ∙ by-first-cites eq laws job.requests cites cites-cited job.offset (used_order job.wanted) none;
    }

    means-are : (k : ℕ) → item_means (states eq job writing) (entry_suffixes eq job writing) k ≡ means_had r.1 k
    means-are k = λ i. record { choose = (same-state k false i).chosen; suffix = suffix_number (sym is.suffixes i) k }

    by-means : IsListedByMeans eq payload_eq writing job r.1 drawn r.0
    by-means =
        ap (λ (a : Rendered). a.bibliography) is.ok
        ∙ (λ i. option_map (λ b. bibliography_by_means writing (wanted_source job.wanted) b (listed_cites eq (λ k. means-are k i) drawn (listed eq job))) job.wanted.style.bibliography)

    -- what is exactly the answer keeps the laws
    pub keeps-csl-laws : KeepsCslLaws eq job writing payload_eq r
    keeps-csl-laws = record {
      entries = has-entries eq laws payload_eq writing job r is;
      telling = tells-apart eq laws payload_eq writing job r is;
      costs = has-costs eq laws payload_eq writing job r is;
      citations = come;
      numbers = numbered;
      bibliography = by-means;
    }
