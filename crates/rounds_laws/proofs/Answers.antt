-- The laws hold of every answer.
use Rattle.std.proofs.Common.{◌≡◌, ℕ, zero, suc, ◌+◌, ◌-◌, ◌*◌, ◌<◌, ◌≤◌, ◌^◌, ◌++◌, Bool, true, false, List, [], ◌∷◌, Option, None, Some, length, map, refl, ap, sym, subst, ◌∙◌, arith}
use Rattle.std.specs.Prelude.{if◌then◌else◌, min, slice_get, take}
use Rattle.std.specs.Cmp.{IsEquivalence}
use Rattle.std.specs.List.{AllZip, enumerate_from}
use Rattle.std.proofs.Math.ListN.{length-map}
use Rattle.std.proofs.Math.Seq.{length-take-le}
use Rattle.std.proofs.lemmas.Simd.{map-map}
use Rattle.driver_assembly.specs.declared.rendered.Rendered.{Rendered}
use Rattle.rounds_grouping.specs.Collapsed.{collapsed_finally}
use Rattle.rounds_grouping.proofs.ReadBack.{all-read-back}
use Rattle.csl_driver.specs.Account.{where_listed}
use Rattle.csl_driver.specs.Answer.{Job, entries_listed, final_number, in_final_order, in_the_end, numbered_finally, rendered_first, used_order}
use Rattle.csl_driver.specs.AnswerLaws.{AreInOrder, ComeFrom, IsBroughtTogether, IsReadBack, IsSettled, KeepsLaws, entries_in, number_in, numbers_in, unsettled}
use Rattle.csl_driver.specs.AreCitesOf.{AreCitesOf}
use Rattle.csl_driver.specs.ListedOnce.{ListsEachOnce}
use Rattle.csl_driver.specs.Promised.{IsExactly}
use Rattle.csl_driver.specs.ShownEntries.{entries_shown}
use Rattle.csl_driver.specs.declared.account.Account.{Account}
use Rattle.csl_driver.proofs.CiteNumbers.{drawn-numbered, each-cite, final-agree}
use Rattle.csl_driver.proofs.DrawnCites.{read-back}
use Rattle.csl_driver.proofs.EachOnce.{at-place, number-alike}
use Rattle.csl_driver.proofs.KeptLaws.{by-final-order}
use Rattle.csl_driver.proofs.ListedCount.{firsts-found}
use Rattle.csl_driver.proofs.ListedKeys.{lists-each-once}
use Rattle.csl_driver.proofs.OwnCites.{settled-own}
use Rattle.csl_driver.proofs.ShownTrees.{citations-shown}
use Rattle.csl_driver.proofs.Standing.{drawn-requests, final-stand, grouped-request, ordered-stand, same-changed}
use Rattle.driver_entries.specs.Entries.{bibliography_order, distinct, is_in, number}
use Rattle.driver_entries.specs.Table.{table_of}
use Rattle.driver_entries.proofs.Distinct.{is_in-distinct}
use Rattle.driver_entries.proofs.Once.{holds_each_once, length-bibliography_order, without_gaps}
use Rattle.rounds_grouping.specs.Blocks.{grouped}
use Rattle.rounds_grouping.proofs.FinalOrders.{grouped-ordered}
use Rattle.driver_passes.specs.Renders.{CiteRender}
use Rattle.driver_passes.specs.Request.{Request, cited, cites_of}
use Rattle.driver_passes.specs.declared.first.FirstProperties.{FirstProperties}
use Rattle.driver_positions.specs.FinalProperties.{cited_finally, items_before, with_final, with_final_items, with_final_properties}
use Rattle.driver_positions.specs.FirstProperties.{first_properties}
use Rattle.rounds_runs.specs.FirstRenders.{first_renders}
use Rattle.rounds_runs.specs.Rerenders.{rerenders}
use Rattle.rounds_runs.specs.RoundMarks.{has_any}
use Rattle.rounds_runs.specs.Rounds.{StateTable, no_states, told_by, with_marks}
use Rattle.rounds_runs.specs.RunLaws.{Ended, IsLawful}
use Rattle.rounds_runs.specs.Tables.{disambiguated, last_table, marked_at, marks_at, most_rounds, rounds, tables, tables_from}
use Rattle.rounds_runs.specs.declared.mode.RoundMode.{RoundMode}
use Rattle.driver_writers.specs.Writing.{Writing}
use Rattle.rounds_laws.specs.BlockLaws.{FormBlocks}
use Rattle.rounds_laws.specs.CollapseLaws.{DoCollapse}
use Rattle.rounds_laws.specs.FurtherLaws.{CountsRenders, KeepsFurtherLaws, listed_in, marks_of_rounds}
use Rattle.rounds_laws.proofs.AsRendered.{told-as-rendered}
use Rattle.rounds_laws.proofs.Blocks.{form-blocks}
use Rattle.rounds_laws.proofs.Counting.{as-many-cited, bounded, rerendered}
use Rattle.rounds_laws.proofs.Drawn.{do-collapse}

-- member by member
zip-mapped : {X Y : Type 0} (R : X → Y → Type 0) (f : X → Y) → ((x : X) → R x (f x)) → (xs : List X) → AllZip R xs (map f xs)
zip-mapped R f holds [] = tt
zip-mapped R f holds (x ∷ xs) = (holds x, zip-mapped R f holds xs)

zip-numbered : {X : Type 0} (R : X → X → Type 0) (h : ℕ → X → X) → ((k : ℕ) (x : X) → R x (h k x)) → (n : ℕ) (xs : List X) → AllZip R xs (map (λ p. h p.0 p.1) (enumerate_from n xs))
zip-numbered R h holds n [] = tt
zip-numbered R h holds n (x ∷ xs) = (holds n x, zip-numbered R h holds (n + 1) xs)

-- rounds that ended, by a count that stands still
few : (marked : ℕ) → min marked (2 ^ 128 - 1) < 3 → marked < 3
few marked h = omega (arith, h)

ended : (mode : RoundMode) (marked : ℕ) → Ended mode (min marked (2 ^ 128 - 1)) → Ended mode marked
ended RoundMode.Three marked h = few marked h
ended RoundMode.Full marked h = h

-- the first table is empty
begins : {E P : Type 0} (mode : RoundMode) (eq : E → E → Bool) (writing : Writing E P) (firsts : List (CiteRender E P)) (n : ℕ) (t : StateTable E)
    → slice_get (tables_from mode eq writing firsts n t) 0 ≡ Some t
unfolding tables_from
begins mode eq writing firsts zero t = refl
begins mode eq writing firsts (suc n) t = by (has_any (marks_at mode eq writing firsts t))
  where
    by : (b : Bool) → slice_get (if b then t ∷ tables_from mode eq writing firsts n (with_marks (marked_at mode eq writing firsts t) t) else t ∷ []) 0 ≡ Some t
    by true = refl
    by false = refl

module _ {E P : Type 0} (eq : E → E → Bool) (laws : IsEquivalence eq) (writing : Writing E P) (payload_eq : P → P → Bool) (mode : RoundMode) (job : Job E P)
    (r : Rendered × Account E) (is : IsExactly eq payload_eq writing mode job r) where
  abbrev firsts : List (CiteRender E P)
  firsts = rendered_first eq payload_eq writing job

  abbrev all_tables : List (StateTable E)
  all_tables = tables mode eq writing firsts

  abbrev in_order : List (CiteRender E P)
  in_order = in_final_order eq payload_eq writing mode job

  abbrev number_of : E → ℕ
  number_of = final_number eq payload_eq writing mode job

  abbrev in_end : List (CiteRender E P)
  in_end = in_the_end eq payload_eq writing mode job

  abbrev account_number : E → ℕ
  account_number = numbers_in eq r.1

  ordered : AreCitesOf eq (table_of eq job.requests) job.requests in_order
  ordered = ordered-stand laws writing payload_eq job {table = table_of eq job.requests} refl {begun = firsts} refl mode {told = disambiguated mode eq writing firsts} {ordered = in_order} refl refl

  same-cited : (e : E) → is_in eq e (cited_finally in_order) ≡ is_in eq e (cited job.requests)
  same-cited e = ordered.same e ∙ is_in-distinct eq laws e (cited job.requests)

  abbrev settled : ℕ → CiteRender E P → CiteRender E P
  settled k c = record c { items = with_final_items eq payload_eq number_of (items_before in_order k) c.items }

  is-settled : (k : ℕ) (c : CiteRender E P) → IsSettled c (settled k c)
  is-settled k c = record {
    same_request = refl;
    same_cites = same-changed (λ j i. with_final eq payload_eq number_of (items_before in_order k ++ take j c.items) i) unsettled (λ j i. refl) 0 c.items;
  }

  same-number : (e : E) → is_in eq e (cited_finally in_order) ≡ true → number_of e ≡ account_number e
  same-number e within =
      sym ((λ i. number_in eq (is.entries i) (is.numbers i) e)
      ∙ at-place eq laws number_of (number-alike eq laws job.offset (numbered_finally eq (used_order job.wanted) job.requests in_order)) e (distinct eq (cited job.requests))
      (is_in-distinct eq laws e (cited job.requests) ∙ sym (same-cited e) ∙ within))

  placed : in_end ≡ with_final_properties eq payload_eq account_number in_order
  placed = final-agree eq payload_eq number_of account_number in_order (each-cite eq laws (λ e. number_of e ≡ account_number e) in_order same-number)

  listed-once : ListsEachOnce eq writing job (entries_in r.1) in_end r.0.bibliography
  listed-once =
      let entries : List E = distinct eq (cited job.requests) in
      let listed = holds_each_once eq laws (used_order job.wanted) (cited job.requests) in
      let stand = final-stand eq laws writing (table_of eq job.requests) job.requests in_order ordered payload_eq number_of in
      subst (λ es. ListsEachOnce eq writing job es in_end r.0.bibliography) (sym is.entries)
      (lists-each-once eq laws writing job entries in_end (holds_each_once eq laws None (cited job.requests)).once listed.once
      (λ e. listed.same e ∙ sym (is_in-distinct eq laws e (cited job.requests)))
      (firsts-found eq laws in_end job.requests (used_order job.wanted) (table_of eq job.requests) refl stand)
      r.0.bibliography (ap (λ (a : Rendered). a.bibliography) is.ok))

  are-read-back : AllZip IsReadBack in_end (map collapsed_finally in_end)
  are-read-back = zip-mapped IsReadBack collapsed_finally (read-back (λ c. all-read-back c.request.style.citation.collapse c.request.style.citation c.items)) in_end

  module _ (h : KeepsLaws eq payload_eq writing mode job r)
      (lawful : (m : RoundMode) (requests : List (Request E P)) (properties : List (List FirstProperties))
      → let fs = first_renders writing requests properties in IsLawful m eq writing fs (tables m eq writing fs) (rounds m eq writing fs)) where
    abbrev come : ComeFrom eq payload_eq writing job account_number (disambiguated mode eq writing firsts) r.0.citations
    come = record {
      ordered = in_order;
      settled = in_end;
      drawn = map collapsed_finally in_end;
      final_orders = zip-mapped IsBroughtTogether grouped (λ c. record { same_request = grouped-request c; final_order = grouped-ordered c }) (disambiguated mode eq writing firsts);
      settles = zip-numbered IsSettled settled is-settled 0 in_order;
      positions = placed;
      own_cites = settled-own eq payload_eq writing mode job grouped-ordered number_of;
      runs = are-read-back;
      numbered = drawn-numbered eq payload_eq account_number in_order (map collapsed_finally in_end) (subst (λ cs. AllZip IsReadBack cs (map collapsed_finally in_end)) placed are-read-back);
      asked_for = drawn-requests in_end ∙ (final-stand eq laws writing (table_of eq job.requests) job.requests in_order ordered payload_eq number_of).of;
      made = ap (λ (a : Rendered). a.citations) is.ok;
      shows = ap (λ (a : Rendered). map (λ c. entries_shown c.citation) a.citations) is.ok ∙ citations-shown writing (map collapsed_finally in_end);
    }

    laws-of-rounds : IsLawful mode eq writing firsts all_tables (rounds mode eq writing firsts) → IsLawful mode eq writing firsts all_tables r.1.rounds
    laws-of-rounds l =
        let back : Ended mode r.1.rounds → Ended mode (rounds mode eq writing firsts) = λ e. ended mode (rounds mode eq writing firsts) (subst (Ended mode) is.rounds e) in
        record {
          go_on = l.go_on;
          stay = l.stay;
          left = record {
            only_ambiguous = l.left.only_ambiguous;
            none_left = λ e. l.left.none_left (back e);
            told_apart = λ e. l.left.told_apart (back e);
          };
          marks = l.marks;
          ranks = l.ranks;
        }

    in-their-order : (used : Option (List E)) → used ≡ None
        → AreInOrder eq job.offset (distinct eq (cited job.requests)) (map (number eq job.offset (numbered_finally eq used job.requests in_order)) (distinct eq (cited job.requests))) (distinct eq (cited_finally in_order))
    in-their-order used none =
        let entries : List E = distinct eq (cited job.requests) in
        subst (λ o. AreInOrder eq job.offset entries (map (number eq job.offset (numbered_finally eq o job.requests in_order)) entries) (distinct eq (cited_finally in_order))) (sym none)
        (by-final-order eq laws (holds_each_once eq laws) (λ offset order es. without_gaps eq laws offset (bibliography_order eq order es) (holds_each_once eq laws order es).once) job.requests in_order same-cited job.offset)

    -- the renderings, by what each round marks
    count : CountsRenders eq payload_eq writing mode job all_tables r.1
    count = record { renders = exactly; at_most = subst (λ n. n ≤ (2 + r.1.rounds) * cites + listed_in job r.1) (sym exactly) most }
      where
        cites : ℕ
        cites = length (cites_of job.requests)

        again : ℕ
        again = rerenders (cited job.requests) (marks_of_rounds eq payload_eq writing mode job all_tables)

        as-many : length (entries_listed eq job.wanted job.requests) ≡ length (entries_in r.1)
        as-many = length-bibliography_order eq laws (used_order job.wanted) (cited job.requests) ∙ ap length (sym is.entries)

        exactly : r.1.renders ≡ min (2 * cites + again + listed_in job r.1) (2 ^ 128 - 1)
        exactly = is.renders ∙ ap (λ n. min (2 * cites + again + where_listed job.wanted.style.bibliography n) (2 ^ 128 - 1)) as-many

        long : length (marks_of_rounds eq payload_eq writing mode job all_tables) ≡ length all_tables - 1
        long =
            length-map (take (length all_tables - 1) all_tables) (marked_at mode eq writing firsts)
            ∙ length-take-le (length all_tables - 1) all_tables (omega arith)

        few-again : again ≤ (length all_tables - 1) * cites
        few-again =
            subst (λ n. again ≤ n * cites) long
            (subst (λ n. again ≤ length (marks_of_rounds eq payload_eq writing mode job all_tables) * n) (as-many-cited job.requests)
            (rerendered (cited job.requests) (marks_of_rounds eq payload_eq writing mode job all_tables)))

        most : min (2 * cites + again + listed_in job r.1) (2 ^ 128 - 1) ≤ (2 + r.1.rounds) * cites + listed_in job r.1
        most =
            subst (λ n. min (2 * cites + again + listed_in job r.1) (2 ^ 128 - 1) ≤ (2 + n) * cites + listed_in job r.1) (sym is.rounds)
            (bounded cites again (listed_in job r.1) (length all_tables - 1) (2 ^ 128 - 1) few-again)

    pub keeps-further : KeepsFurtherLaws eq payload_eq writing mode job r
    unfolding disambiguated
    keeps-further = record {
      laws = record {
        tables = all_tables;
        first_is_empty = begins mode eq writing firsts (most_rounds mode eq firsts) no_states;
        one_for_each_round = is.rounds;
        last_is_told = is.states ∙ ap (map (λ e. told_by (last_table all_tables e))) (sym is.entries) ∙ map-map (λ e. told_by (last_table all_tables e)) (λ e. e.now) r.1.entries.items;
        rounds = laws-of-rounds (lawful mode job.requests (first_properties eq payload_eq (number eq job.offset (entries_listed eq job.wanted job.requests)) job.requests));
        cited_entries = is.entries;
        numbers = h.numbers;
        citations = come;
        numbers_in_order = λ none. (λ i. map (number_in eq (is.entries i) (is.numbers i)) (distinct eq (cited_finally in_order))) ∙ in-their-order (used_order job.wanted) none;
        numbers_by_order = h.numbers_by_order;
        bibliography = listed-once;
      };
      as_rendered = told-as-rendered writing job.requests (first_properties eq payload_eq (number eq job.offset (entries_listed eq job.wanted job.requests)) job.requests) (last_table all_tables);
      blocks = zip-mapped FormBlocks grouped form-blocks (disambiguated mode eq writing firsts);
      collapse = zip-mapped DoCollapse collapsed_finally do-collapse in_end;
      renders = count;
    }
