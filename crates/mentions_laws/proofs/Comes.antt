-- What is exactly the answer gives its cites exactly what the laws say.
use Rattle.std.proofs.Common.{◌≡◌, ℕ, suc, Bool, true, false, cond, Option, List, [], ◌∷◌, ◌++◌, All, length, map, refl, ap, sym, subst, ◌∙◌}
use Rattle.std.specs.Prelude.{option_map, slice_get, slice_index, unwrap_or, zip}
use Rattle.std.specs.Cmp.{IsEquivalence}
use Rattle.std.specs.List.{AllZip, enumerate_from}
use Rattle.std.proofs.Math.ListN.{length-map}
use Rattle.std.proofs.lemmas.List.Elements.{All-weaker}
use Rattle.std.proofs.lemmas.List.FromFn.{length-enumerate_from}
use Rattle.mentions_arranging.specs.Arranged.{arranged_cites}
use Rattle.mentions_arranging.specs.Order.{final_request, grouped_cite, is_grouped}
use Rattle.mentions_arranging.specs.Repeating.{final_positions, handed_request, repeating_request}
use Rattle.mentions_arranging.specs.Requests.{Request as Arranged}
use Rattle.mentions_arranging.specs.declared.arranged.ArrangedCite.{ArrangedCite}
use Rattle.mentions_arranging.specs.declared.repeating.Repeated.{Repeated}
use Rattle.mentions_arranging.specs.declared.request.FinalCite.{FinalCite}
use Rattle.mentions_arranging.specs.declared.request.RequestedCite.{RequestedCite as PlainCite}
use Rattle.mentions_arranging.specs.declared.request.Shown.{Shown}
use Rattle.driver_assembly.specs.ByMeans.{bibliography_by_means}
use Rattle.driver_assembly.specs.declared.rendered.Rendered.{Rendered}
use Rattle.mentions_cited.specs.ToldMeans.{means_of}
use Rattle.driver_entries.specs.Entries.{is_in, place}
use Rattle.driver_lookup.specs.Properties.{LocatorValue}
use Rattle.mentions_groups.specs.declared.state.MentionState.{MentionState}
use Rattle.mentions_groups.specs.declared.written.Written.{Written}
use Rattle.mentions_notes.specs.Repeats.{positions}
use Rattle.driver_passes.specs.Renders.{CiteRender, ItemRender}
use Rattle.driver_passes.specs.Request.{wanted_source}
use Rattle.driver_positions.specs.FinalProperties.{cited_finally, items_finally}
use Rattle.mentions_cited.specs.Handed.{cite_counts, is_cited_again}
use Rattle.mentions_cited.specs.Homes.{HomeValue, homes_of}
use Rattle.mentions_tables.specs.Asked.{untold}
use Rattle.mentions_tables.specs.Steps.{all_changed}
use Rattle.mentions_cites.specs.Mentions.{mention_index, suffix_number}
use Rattle.mentions_cites.specs.Repeats.{cites_with_shown, shown_repeat}
use Rattle.mentions_cites.proofs.Standing.{told-of}
use Rattle.driver_writers.specs.Tasks.{CiteTaskValue}
use Rattle.driver_writers.specs.Writing.{Writing}
use Rattle.csl_driver.specs.Answer.{Job}
use Rattle.csl_driver.specs.CslAccount.{entries_told, every_second}
use Rattle.csl_driver.specs.CslAnswer.{cite_notes, cites_arranged, cites_in_order, entry_suffixes, item_means, keyed, known, last_kept, listed, listed_cites, mentions, numbers_in_the_end, ordered, plain, read, repeated_cites, repeated_firsts, same_locator, shown_mentions, shown_repeated, states}
use Rattle.csl_driver.specs.CslByEntry.{entries_had, means_had, state_of, states_had}
use Rattle.csl_driver.specs.CslCitations.{ComeArranged, IsArranged, IsNumbered, IsToldWhole, unarranged}
use Rattle.csl_driver.specs.CslPromised.{IsExactlyCsl}
use Rattle.csl_driver.specs.ShownEntries.{entries_shown}
use Rattle.csl_driver.specs.declared.csl_account.CslAccount.{CslAccount}
use Rattle.csl_driver.proofs.CslBlocks.{ArePlaced, finals-placed, rows-in-blocks, shown-placed}
use Rattle.csl_driver.proofs.CslComes.{cites-cited}
use Rattle.csl_driver.proofs.CslCounts.{notes-counted, ordered-once}
use Rattle.csl_driver.proofs.CslEntries.{equal-told}
use Rattle.csl_driver.proofs.CslLong.{arranged-long, both-long, positions-long}
use Rattle.csl_driver.proofs.CslOnce.{AreWhole, IsWhole, rows-own}
use Rattle.csl_driver.proofs.CslPairs.{by_turns, firsts-count, laters-count, turns}
use Rattle.csl_driver.proofs.CslReadBack.{rows-back}
use Rattle.csl_driver.proofs.CslShown.{citations-seen}
use Rattle.csl_driver.proofs.CslTold.{HasMeans, HasNumber, all-arranged, equal-places, means-arranged, numbers-arranged, turn-of}
use Rattle.csl_driver.proofs.CslTold.{AreStanding as AreStandingThere, keyed-stand as keyed-stand-there, shown-stand as shown-stand-there}
use Rattle.csl_driver.proofs.ListedKeys.{AreEqual}
use Rattle.mentions_laws.specs.Adding.{NamesAreAsStylesSay}
use Rattle.mentions_laws.specs.Cites.{AreGivenExactly, IsByMentionsAlone}
use Rattle.mentions_laws.specs.Laws.{GivesCitesExactly, KeepsMentionLaws, StandsInBlockOrder, handed_in, in_order, positioned, rows}
use Rattle.mentions_laws.specs.Order.{AreInBlockOrder}
use Rattle.mentions_laws.proofs.Adding.{as-styles-say}
use Rattle.mentions_laws.proofs.Alone.{rows-alone}
use Rattle.mentions_laws.proofs.Giving.{rows-given}
use Rattle.mentions_laws.proofs.Listing.{lists-once}
use Rattle.mentions_laws.proofs.Ordering.{in-block-order}
use Rattle.mentions_laws.proofs.Standing.{AreStanding, RowShows, keyed-show, keyed-stand, rows-show, shown-stand, still-placed, still-repeating}

as-long : {A B : Type 0} (R : A → B → Type 0) (xs : List A) (ys : List B) → AllZip R xs ys → length ys ≡ length xs
as-long R [] [] h = refl
as-long R [] (y ∷ ys) h = absurd h
as-long R (x ∷ xs) [] h = absurd h
as-long R (x ∷ xs) (y ∷ ys) h = ap suc (as-long R xs ys h.1)

-- blocks stand in order, whatever cites show
finals-in-order : {P : Type 0} (plains : List (Arranged (PlainCite (LocatorValue P)))) → AllZip StandsInBlockOrder plains (map final_request plains)
finals-in-order [] = tt
finals-in-order (plain ∷ plains) = (in-block-order plain.facts.style plain.cites, finals-in-order plains)

shown-in-order : {P : Type 0} (shown : List (List (Option Shown))) (plains : List (Arranged (PlainCite (LocatorValue P)))) (fs : List (Arranged (FinalCite (LocatorValue P))))
    → AllZip StandsInBlockOrder plains fs → AllZip StandsInBlockOrder plains (all_changed cites_with_shown shown fs)
shown-in-order [] plains fs h = h
shown-in-order (s ∷ shown) plains [] h = h
shown-in-order (s ∷ shown) [] (f ∷ fs) h = absurd h
shown-in-order (s ∷ shown) (plain ∷ plains) (f ∷ fs) h =
    (subst (AreInBlockOrder (is_grouped plain.facts.style) (map grouped_cite plain.cites)) (sym (still-placed s f.cites)) h.0, shown-in-order shown plains fs h.1)

-- arranging changes no entries
module _ {E P : Type 0} where
  bare-entries : (xs : List (ItemRender E P)) → map (λ i. i.entry) (map unarranged xs) ≡ map (λ i. i.entry) xs
  bare-entries [] = refl
  bare-entries (x ∷ xs) = ap (λ l. x.entry ∷ l) (bare-entries xs)

  entries-stay : (cs ds : List (CiteRender E P)) → AllZip IsArranged cs ds → cited_finally ds ≡ cited_finally cs
  entries-stay [] [] h = refl
  entries-stay [] (d ∷ ds) h = absurd h
  entries-stay (c ∷ cs) [] h = absurd h
  entries-stay (c ∷ cs) (d ∷ ds) h =
      let one : map (λ i. i.entry) d.items ≡ map (λ i. i.entry) c.items = sym (bare-entries d.items) ∙ ap (map (λ i. i.entry)) h.0.same_cites ∙ bare-entries c.items in
      λ i. one i ++ entries-stay cs ds h.1 i

module _ {E P : Type 0} (eq : E → E → Bool) (laws : IsEquivalence eq) (payload_eq : P → P → Bool) (writing : Writing E P) (job : Job E P) where
  abbrev finals : List (Arranged (FinalCite (LocatorValue P)))
  finals = ordered eq job writing payload_eq

  abbrev keyed_finals : List (Arranged (FinalCite (LocatorValue P)))
  keyed_finals = map final_request (keyed eq job writing payload_eq)

  abbrev cites : List (CiteRender E P)
  cites = cites_in_order eq job writing payload_eq

  abbrev drawn : List (CiteRender E P)
  drawn = cites_arranged eq job writing payload_eq

  abbrev ways : List (List ArrangedCite)
  ways = arranged_cites (same_locator payload_eq) (numbers_in_the_end eq job writing payload_eq) finals

  notes-long : map length (cite_notes eq job) ≡ cite_counts job.requests
  notes-long = notes-counted eq job

  as-many-notes : length (cite_notes eq job) ≡ length job.requests
  as-many-notes = sym (length-map (cite_notes eq job) length) ∙ ap length notes-long ∙ length-map job.requests _

  whole : AreWhole job.requests finals
  whole = ordered-once eq job writing payload_eq

  as-many-finals : length finals ≡ length job.requests
  as-many-finals = as-long IsWhole job.requests finals whole

  -- ---- the cites as they come

  standing-there : AreStandingThere eq (listed eq job) (known eq job writing) (shown_mentions eq job writing) (entry_suffixes eq job writing) job.requests (cite_notes eq job) finals
  standing-there =
      shown-stand-there eq (listed eq job) (known eq job writing) (shown_mentions eq job writing) (entry_suffixes eq job writing) (map (shown_repeated eq job writing) (repeated_cites eq job writing payload_eq)) job.requests
      (cite_notes eq job) keyed_finals
      (keyed-stand-there eq (listed eq job) (known eq job writing) (shown_mentions eq job writing) (entry_suffixes eq job writing) (shown_repeated eq job writing (repeated_firsts eq job writing payload_eq)) job.requests (cite_notes eq job))

  placed : ArePlaced (keyed eq job writing payload_eq) finals
  placed = shown-placed (map (shown_repeated eq job writing) (repeated_cites eq job writing payload_eq)) (keyed eq job writing payload_eq) keyed_finals (finals-placed (keyed eq job writing payload_eq))

  positions-are-long : AllZip (λ f p. length p ≡ length f.cites) finals (final_positions (same_locator payload_eq) finals)
  positions-are-long = positions-long (numbers_in_the_end eq job writing payload_eq) (same_locator payload_eq) (map repeating_request finals) 0 finals

  module _ (r : Rendered × CslAccount E) (is : IsExactlyCsl eq payload_eq writing job r) where
    abbrev homes : List (HomeValue E P)
    homes = homes_of eq (listed eq job) job.requests

    abbrev again : ℕ → Bool
    again = is_cited_again eq (listed eq job) job.requests

    abbrev write : CiteTaskValue E P → MentionState → Written
    write = read eq job writing

    same-place : (e : E) → place eq e (listed eq job) ≡ place eq e (entries_had r.1)
    same-place e = equal-places eq laws e (listed eq job) (entries_told eq job) (equal-told eq laws job) ∙ ap (place eq e) (sym is.entries)

    same-state : (k : ℕ) (is_first : Bool) → unwrap_or (slice_get (states eq job writing) (mention_index k is_first)) untold ≡ state_of r.1 k is_first
    same-state k is_first =
        let all : List MentionState = states eq job writing in
        let first = every_second true all in
        let later = every_second false all in
        let long : length first ≡ length later = firsts-count job.offset again write homes ∙ sym (laters-count job.offset again write homes) in
        ap (λ l. unwrap_or (slice_get l (mention_index k is_first)) untold) (sym (turns job.offset again write homes))
        ∙ ap (λ o. unwrap_or o untold) (turn-of first later long k is_first)
        ∙ (λ i. unwrap_or (slice_get (cond is_first (sym is.first_mentions i) (sym is.later_mentions i)) k) untold)

    told-whole : All (IsToldWhole eq payload_eq writing job r.1) (items_finally drawn)
    told-whole =
        All-weaker (HasMeans eq (listed eq job) (known eq job writing)) (IsToldWhole eq payload_eq writing job r.1)
        (λ i h. h ∙ (λ j. means_of (same-state (place eq i.entry (listed eq job)) i.properties.certain.is_first j) (suffix_number (sym is.suffixes j) (place eq i.entry (listed eq job))))
        ∙ ap (λ k. means_of (state_of r.1 k i.properties.certain.is_first) (suffix_number r.1.suffixes.items k)) (same-place i.entry))
        (items_finally drawn)
        (means-arranged eq (listed eq job) (known eq job writing) (shown_mentions eq job writing) (entry_suffixes eq job writing) job.requests (cite_notes eq job) finals
        (numbers_in_the_end eq job writing payload_eq) ways standing-there)

    numbered-whole : All (IsNumbered eq r.1) (items_finally drawn)
    numbered-whole =
        All-weaker (HasNumber eq (listed eq job) (known eq job writing) (numbers_in_the_end eq job writing payload_eq)) (IsNumbered eq r.1)
        (λ i h. h ∙ (λ j. slice_index (sym is.numbers j) (same-place i.entry j)))
        (items_finally drawn)
        (numbers-arranged eq (listed eq job) (known eq job writing) (shown_mentions eq job writing) (entry_suffixes eq job writing) job.requests (cite_notes eq job) finals
        (numbers_in_the_end eq job writing payload_eq) ways standing-there
        (arranged-long (numbers_in_the_end eq job writing payload_eq) (same_locator payload_eq) finals))

    abbrev come : ComeArranged eq payload_eq writing job r.1 r.0.citations
    come = record {
      ordered = cites;
      arranged = drawn;
      asked_for = told-of (known eq job writing) job.requests (cite_notes eq job) finals as-many-notes as-many-finals;
      own_cites = rows-own (known eq job writing) job.requests (cite_notes eq job) finals notes-long whole;
      blocks = rows-in-blocks (known eq job writing) job.requests (cite_notes eq job) (keyed eq job writing payload_eq) finals notes-long whole placed;
      arranges = all-arranged (numbers_in_the_end eq job writing payload_eq) finals ways cites;
      read_back = rows-back eq (listed eq job) (known eq job writing) (shown_mentions eq job writing) (numbers_in_the_end eq job writing payload_eq) job.requests (cite_notes eq job) finals
          (final_positions (same_locator payload_eq) finals) standing-there positions-are-long;
      told_whole = told-whole;
      numbered = numbered-whole;
      made = ap (λ (a : Rendered). a.citations) is.ok;
      shows = ap (λ (a : Rendered). map (λ c. entries_shown c.citation) a.citations) is.ok ∙ citations-seen writing drawn;
    }

    -- ---- what they are given

    abbrev shows : ℕ × Option Repeated → Option Shown
    shows = shown_repeat (shown_mentions eq job writing) (mentions eq job) (states eq job writing) (last_kept eq job writing) writing.cite

    standing : AreStanding eq (listed eq job) (shown_mentions eq job writing) (entry_suffixes eq job writing) job.requests (cite_notes eq job) finals
    standing =
        shown-stand eq (listed eq job) (shown_mentions eq job writing) (entry_suffixes eq job writing) (map (shown_repeated eq job writing) (repeated_cites eq job writing payload_eq)) job.requests (cite_notes eq job) keyed_finals
        (keyed-stand eq (listed eq job) (shown_mentions eq job writing) (entry_suffixes eq job writing) (shown_repeated eq job writing (repeated_firsts eq job writing payload_eq)) job.requests (cite_notes eq job))

    -- what cites show doesn't change which of them repeat others
    same-positions : final_positions (same_locator payload_eq) keyed_finals ≡ in_order eq payload_eq writing job
    same-positions = sym (ap (positions (same_locator payload_eq)) (still-repeating (map (shown_repeated eq job writing) (repeated_cites eq job writing payload_eq)) keyed_finals))

    keyed-long : AllZip (λ f p. length p ≡ length f.cites) keyed_finals (final_positions (same_locator payload_eq) keyed_finals)
    keyed-long = positions-long (numbers_in_the_end eq job writing payload_eq) (same_locator payload_eq) (map repeating_request keyed_finals) 0 keyed_finals

    all-show : AllZip (RowShows eq (listed eq job) (shown_mentions eq job writing) (entry_suffixes eq job writing) shows (λ k. refl)) finals (in_order eq payload_eq writing job)
    all-show =
        subst (AllZip (RowShows eq (listed eq job) (shown_mentions eq job writing) (entry_suffixes eq job writing) shows (λ k. refl)) finals) same-positions
        (rows-show eq (listed eq job) (shown_mentions eq job writing) (entry_suffixes eq job writing) shows (λ k. refl) keyed_finals (final_positions (same_locator payload_eq) keyed_finals) keyed-long
        (keyed-show eq (listed eq job) (shown_mentions eq job writing) (entry_suffixes eq job writing) (shown_repeated eq job writing (repeated_firsts eq job writing payload_eq)) job.requests (cite_notes eq job)))

    given : AllZip (AreGivenExactly (shown_mentions eq job writing) (numbers_in_the_end eq job writing payload_eq))
        (rows (plain eq job writing) (cite_notes eq job) (map positioned (zip finals (in_order eq payload_eq writing job))) ways) drawn
    given =
        rows-given eq (listed eq job) (known eq job writing) (numbers_in_the_end eq job writing payload_eq) job.requests (cite_notes eq job) finals (in_order eq payload_eq writing job) as-many-notes as-many-finals standing
        all-show positions-are-long (arranged-long (numbers_in_the_end eq job writing payload_eq) (same_locator payload_eq) finals)

    as-many-plain : length (plain eq job writing) ≡ length job.requests
    as-many-plain = length-map (zip job.requests (cite_notes eq job)) _ ∙ both-long job.requests (cite_notes eq job) (length job.requests) refl as-many-notes

    as-many-handed : length (handed_in eq payload_eq writing job) ≡ length (plain eq job writing)
    as-many-handed =
        length-map (enumerate_from 0 (map handed_request (plain eq job writing))) _ ∙ length-enumerate_from 0 (map handed_request (plain eq job writing)) ∙ length-map (plain eq job writing) handed_request

    as-many-in-order : length (final_positions (same_locator payload_eq) keyed_finals) ≡ length (plain eq job writing)
    as-many-in-order =
        ap length same-positions ∙ length-map (enumerate_from 0 (map repeating_request finals)) _ ∙ length-enumerate_from 0 (map repeating_request finals) ∙ length-map finals repeating_request ∙ as-many-finals
        ∙ sym as-many-plain

    all-alone : AllZip IsByMentionsAlone (zip (plain eq job writing) (handed_in eq payload_eq writing job)) (zip finals (in_order eq payload_eq writing job))
    all-alone =
        subst (λ ps. AllZip IsByMentionsAlone (zip (plain eq job writing) (handed_in eq payload_eq writing job)) (zip finals ps)) same-positions
        (rows-alone shows (λ k. refl) 0 (plain eq job writing) (handed_in eq payload_eq writing job) (final_positions (same_locator payload_eq) keyed_finals) as-many-handed as-many-in-order)

    abbrev gives : GivesCitesExactly eq payload_eq writing job r
    gives = record {
      comes = come;
      blocks = shown-in-order (map (shown_repeated eq job writing) (repeated_cites eq job writing payload_eq)) (keyed eq job writing payload_eq) keyed_finals (finals-in-order (keyed eq job writing payload_eq));
      ways = ways;
      given = subst (λ numbers. AllZip (AreGivenExactly (shown_mentions eq job writing) numbers) (rows (plain eq job writing) (cite_notes eq job) (map positioned (zip finals (in_order eq payload_eq writing job))) ways) drawn) (sym is.numbers) given;
      alone = all-alone;
    }

    -- the account's states are those of the tables
    states-are : states_had r.1 ≡ states eq job writing
    states-are = (λ i. by_turns (is.first_mentions i) (is.later_mentions i)) ∙ turns job.offset again write homes

    means-are : (k : ℕ) → item_means (states eq job writing) (entry_suffixes eq job writing) k ≡ means_had r.1 k
    means-are k = λ i. record { choose = (same-state k false i).chosen; suffix = suffix_number (sym is.suffixes i) k }

    pub keeps-mention-laws : KeepsMentionLaws eq payload_eq writing job r
    keeps-mention-laws = record {
      cites = gives;
      names = subst (NamesAreAsStylesSay write (mentions eq job)) (sym states-are) (as-styles-say write (mentions eq job));
      bibliography = lists-once eq laws writing (means_had r.1) job (entries_had r.1) drawn (subst (AreEqual eq laws (listed eq job)) (sym is.entries) (equal-told eq laws job))
          (λ e. ap (is_in eq e) (entries-stay cites drawn come.arranges) ∙ cites-cited eq laws payload_eq writing job e) r.0.bibliography
          (ap (λ (a : Rendered). a.bibliography) is.ok
          ∙ (λ i. option_map (λ b. bibliography_by_means writing (wanted_source job.wanted) b (listed_cites eq (λ k. means-are k i) drawn (listed eq job))) job.wanted.style.bibliography));
    }
