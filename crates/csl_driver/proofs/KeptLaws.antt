-- The laws of states, numbers, final orders and runs hold of every answer.
use Rattle.std.proofs.Common.{◌≡◌, ℕ, zero, suc, ◌+◌, ◌-◌, ◌<◌, ◌^◌, ◌++◌, Bool, true, false, List, [], ◌∷◌, Option, None, Some, length, map, refl, ap, sym, subst, ◌∙◌, arith}
use Rattle.std.specs.Prelude.{All, if◌then◌else◌, min, slice_get, take}
use Rattle.std.specs.Cmp.{IsEquivalence}
use Rattle.std.specs.List.{AllZip, enumerate_from, range_with_len}
use Rattle.std.specs.List.Sorted.{IsPermutation}
use Rattle.std.proofs.lemmas.List.Elements.{All-cons, All-nil}
use Rattle.std.proofs.lemmas.List.Sorted.{length_permutation}
use Rattle.std.proofs.Math.ListN.{length-map}
use Rattle.std.proofs.lemmas.Bool.{or_left, or_right}
use Rattle.std.proofs.lemmas.Simd.{map-map}
use Rattle.driver_assembly.specs.declared.rendered.Rendered.{Rendered}
use Rattle.driver_writers.specs.Writing.{Writing}
use Rattle.rounds_grouping.specs.Collapsed.{collapsed, collapsed_finally}
use Rattle.rounds_grouping.specs.NumberLaws.{CanBeReadBack}
use Rattle.csl_driver.specs.Answer.{Job, entries_listed, final_number, in_final_order, in_the_end, numbered_finally, used_order, rendered_first}
use Rattle.csl_driver.specs.AnswerLaws.{AreInOrder, ComeFrom, HaveNumbersOnce, IsBroughtTogether, IsReadBack, IsSettled, KeepsLaws, entries_in, number_in, numbers_in, unsettled}
use Rattle.csl_driver.specs.AreCitesOf.{AreCitesOf}
use Rattle.csl_driver.specs.ListedOnce.{ListsEachOnce}
use Rattle.csl_driver.specs.Promised.{IsAnswer, IsExactly}
use Rattle.csl_driver.specs.ShownEntries.{entries_shown}
use Rattle.csl_driver.specs.declared.account.Account.{Account}
use Rattle.csl_driver.proofs.ByEntries.{agree}
use Rattle.csl_driver.proofs.CiteNumbers.{drawn-numbered, each-cite, final-agree}
use Rattle.csl_driver.proofs.DrawnCites.{read-back}
use Rattle.csl_driver.proofs.EachOnce.{at-place, number-alike, permuted}
use Rattle.csl_driver.proofs.ListedCount.{firsts-found}
use Rattle.csl_driver.proofs.ListedKeys.{lists-each-once}
use Rattle.csl_driver.proofs.OwnCites.{settled-own}
use Rattle.csl_driver.proofs.ShownTrees.{citations-shown}
use Rattle.csl_driver.proofs.Standing.{drawn-requests, final-stand, grouped-request, ordered-stand, same-changed}
use Rattle.driver_entries.specs.Entries.{bibliography_order, distinct, is_in, number}
use Rattle.driver_entries.specs.Laws.{HoldsEachOnce, NoTwoEqual, NumbersWithoutGaps}
use Rattle.driver_entries.specs.Table.{table_of}
use Rattle.driver_entries.proofs.Distinct.{is_in-distinct}
use Rattle.rounds_grouping.specs.Blocks.{grouped, is_grouped}
use Rattle.rounds_grouping.specs.FinalOrder.{HasFinalOrder}
use Rattle.driver_passes.specs.Renders.{CiteRender}
use Rattle.driver_passes.specs.Request.{Request, cited}
use Rattle.driver_passes.specs.declared.first.FirstProperties.{FirstProperties}
use Rattle.driver_positions.specs.FinalProperties.{cited_finally, items_before, with_final, with_final_items, with_final_properties}
use Rattle.driver_positions.specs.FirstProperties.{first_properties}
use Rattle.rounds_runs.specs.FirstRenders.{first_renders}
use Rattle.rounds_runs.specs.RoundMarks.{has_any}
use Rattle.rounds_runs.specs.Rounds.{StateTable, no_states, told_by, with_marks}
use Rattle.rounds_runs.specs.RunLaws.{Ended, IsLawful}
use Rattle.rounds_runs.specs.Tables.{disambiguated, last_table, marked_at, marks_at, most_rounds, rounds, tables, tables_from}
use Rattle.rounds_runs.specs.declared.mode.RoundMode.{RoundMode}

-- place by place
zip-mapped : {X Y : Type 0} (R : X → Y → Type 0) (f : X → Y) → ((x : X) → R x (f x)) → (xs : List X) → AllZip R xs (map f xs)
zip-mapped R f holds [] = tt
zip-mapped R f holds (x ∷ xs) = (holds x, zip-mapped R f holds xs)

zip-numbered : {X : Type 0} (R : X → X → Type 0) (h : ℕ → X → X) → ((k : ℕ) (x : X) → R x (h k x)) → (n : ℕ) (xs : List X) → AllZip R xs (map (λ p. h p.0 p.1) (enumerate_from n xs))
zip-numbered R h holds n [] = tt
zip-numbered R h holds n (x ∷ xs) = (holds n x, zip-numbered R h holds (n + 1) xs)

few : (marked : ℕ) → min marked (2 ^ 128 - 1) < 3 → marked < 3
few marked h = omega (arith, h)

-- rounds that ended, by a count that stands still
ended : (mode : RoundMode) (marked : ℕ) → Ended mode (min marked (2 ^ 128 - 1)) → Ended mode marked
ended RoundMode.Three marked h = few marked h
ended RoundMode.Full marked h = h

-- the first table is empty
begins : {E P : Type 0} (mode : RoundMode) (eq : E → E → Bool) (writing : Writing E P) (firsts : List (CiteRender E P)) (n : ℕ) (t : StateTable E)
    → slice_get (tables_from mode eq writing firsts n t) 0 ≡ Some t
unfolding tables_from
begins mode eq writing firsts zero t = refl
begins mode eq writing firsts (suc n) t = by (has_any (marks_at mode eq writing firsts t))
  where
    by : (b : Bool) → slice_get (if b then t ∷ tables_from mode eq writing firsts n (with_marks (marked_at mode eq writing firsts t) t) else t ∷ []) 0 ≡ Some t
    by true = refl
    by false = refl

-- the entries that are cited, in an order that has each of them once
module _ {E : Type 0} (eq : E → E → Bool) (laws : IsEquivalence eq) where
  pub numbered-once : (offset : ℕ) (ordered entries : List E) → NoTwoEqual eq ordered → NoTwoEqual eq entries → ((e : E) → is_in eq e ordered ≡ is_in eq e entries) → NumbersWithoutGaps eq offset ordered
      → HaveNumbersOnce eq offset entries (map (number eq offset ordered) entries)
  numbered-once offset ordered entries once each same in_order =
      let among : IsPermutation (map (number eq offset ordered) ordered) (map (number eq offset ordered) entries) =
      permuted eq laws (number eq offset ordered) (number-alike eq laws offset ordered) ordered entries once each same in
      let as_many : length ordered ≡ length entries =
      sym (length-map ordered (number eq offset ordered)) ∙ sym (length_permutation _ _ among) ∙ length-map entries (number eq offset ordered) in
      record {
        apart = each;
        each_once = subst (λ ns. IsPermutation ns (map (number eq offset ordered) entries)) (in_order ∙ ap (range_with_len offset) as_many) among;
      }

  -- what is known of the members of a list of entries
  each-in : (Q : E → Type 0) (es : List E) → ((e : E) → is_in eq e es ≡ true → Q e) → All Q es
  each-in Q [] h = All-nil Q
  each-in Q (x ∷ xs) h =
      All-cons Q x xs (h x (or_left (eq x x) (is_in eq x xs) (laws.refl x))) (each-in Q xs (λ e within. h e (or_right (eq e x) (is_in eq e xs) within)))

  -- entries that are numbered in an order have their numbers in this order
  in-its-order : (offset : ℕ) (ordered entries : List E) → ((e : E) → is_in eq e ordered ≡ true → is_in eq e entries ≡ true) → NumbersWithoutGaps eq offset ordered
      → AreInOrder eq offset entries (map (number eq offset ordered) entries) ordered
  in-its-order offset ordered entries within in_order =
      let own : E → ℕ = number eq offset ordered in
      agree (number_in eq entries (map own entries)) own ordered
      (each-in (λ e. number_in eq entries (map own entries) e ≡ own e) ordered
      (λ e here. at-place eq laws own (number-alike eq laws offset ordered) e entries (within e here)))
      ∙ in_order

module _ {E P : Type 0} (eq : E → E → Bool) (laws : IsEquivalence eq) (each_once : (order : Option (List E)) (entries : List E) → HoldsEachOnce eq order entries)
    (gapless : (offset : ℕ) (order : Option (List E)) (entries : List E) → NumbersWithoutGaps eq offset (bibliography_order eq order entries)) where
  module _ (requests : List (Request E P)) (cites : List (CiteRender E P)) (same : (e : E) → is_in eq e (cited_finally cites) ≡ is_in eq e (cited requests)) where
    by-order : (offset : ℕ) (order : Option (List E)) → HaveNumbersOnce eq offset (distinct eq (cited requests)) (map (number eq offset (numbered_finally eq order requests cites)) (distinct eq (cited requests)))
    by-order offset None =
        numbered-once eq laws offset (distinct eq (cited_finally cites)) (distinct eq (cited requests)) (each_once None (cited_finally cites)).once (each_once None (cited requests)).once
        (λ e. is_in-distinct eq laws e (cited_finally cites) ∙ same e ∙ sym (is_in-distinct eq laws e (cited requests))) (gapless offset None (cited_finally cites))
    by-order offset (Some order) =
        numbered-once eq laws offset (bibliography_order eq (Some order) (cited requests)) (distinct eq (cited requests)) (each_once (Some order) (cited requests)).once (each_once None (cited requests)).once
        (λ e. (each_once (Some order) (cited requests)).same e ∙ sym (is_in-distinct eq laws e (cited requests))) (gapless offset (Some order) (cited requests))

    -- where no order is used, numbers go by the cites in their final order
    module _ (offset : ℕ) where
      abbrev entries : List E
      entries = distinct eq (cited requests)

      abbrev finally : List E
      finally = distinct eq (cited_finally cites)

      cited-there : (e : E) → is_in eq e finally ≡ true → is_in eq e entries ≡ true
      cited-there e within = is_in-distinct eq laws e (cited requests) ∙ sym (same e) ∙ sym (is_in-distinct eq laws e (cited_finally cites)) ∙ within

      pub by-final-order : AreInOrder eq offset entries (map (number eq offset finally) entries) finally
      by-final-order = in-its-order eq laws offset finally entries cited-there (gapless offset None (cited_finally cites))

      in-order : (order : Option (List E)) → order ≡ None → AreInOrder eq offset entries (map (number eq offset (numbered_finally eq order requests cites)) entries) finally
      in-order order none =
          subst (λ o. AreInOrder eq offset entries (map (number eq offset (numbered_finally eq o requests cites)) entries) finally) (sym none) by-final-order

      -- and where one is used, by that
      in-given-order : (used : Option (List E)) (order : List E) → used ≡ Some order
          → AreInOrder eq offset entries (map (number eq offset (numbered_finally eq used requests cites)) entries) (bibliography_order eq (Some order) (cited requests))
      in-given-order used order is =
          let listed : List E = bibliography_order eq (Some order) (cited requests) in
          subst (λ o. AreInOrder eq offset entries (map (number eq offset (numbered_finally eq o requests cites)) entries) listed) (sym is)
          (in-its-order eq laws offset listed entries (λ e within. is_in-distinct eq laws e (cited requests) ∙ sym ((each_once (Some order) (cited requests)).same e) ∙ within)
          (gapless offset (Some order) (cited requests)))

  module _ (writing : Writing E P) (payload_eq : P → P → Bool) (mode : RoundMode) (job : Job E P) (r : Rendered × Account E) (is : IsExactly eq payload_eq writing mode job r) where
    abbrev firsts : List (CiteRender E P)
    firsts = rendered_first eq payload_eq writing job

    abbrev all_tables : List (StateTable E)
    all_tables = tables mode eq writing firsts

    abbrev told : List (CiteRender E P)
    told = disambiguated mode eq writing firsts

    abbrev in_order : List (CiteRender E P)
    in_order = in_final_order eq payload_eq writing mode job

    abbrev number_of : E → ℕ
    number_of = final_number eq payload_eq writing mode job

    abbrev in_end : List (CiteRender E P)
    in_end = in_the_end eq payload_eq writing mode job

    ordered : AreCitesOf eq (table_of eq job.requests) job.requests in_order
    ordered =
        ordered-stand laws writing payload_eq job {table = table_of eq job.requests} refl {begun = firsts} refl mode {told = told} {ordered = in_order} refl refl

    same-cited : (e : E) → is_in eq e (cited_finally in_order) ≡ is_in eq e (cited job.requests)
    same-cited e = ordered.same e ∙ is_in-distinct eq laws e (cited job.requests)

    abbrev settled : ℕ → CiteRender E P → CiteRender E P
    settled k c = record c { items = with_final_items eq payload_eq number_of (items_before in_order k) c.items }

    is-settled : (k : ℕ) (c : CiteRender E P) → IsSettled c (settled k c)
    is-settled k c = record {
      same_request = refl;
      same_cites = same-changed (λ j i. with_final eq payload_eq number_of (items_before in_order k ++ take j c.items) i) unsettled (λ j i. refl) 0 c.items;
    }

    settled-cites : AllZip IsSettled in_order in_end
    settled-cites = zip-numbered IsSettled settled is-settled 0 in_order

    -- the account's numbers are those of the cites
    abbrev account_number : E → ℕ
    account_number = numbers_in eq r.1

    same-number : (e : E) → is_in eq e (cited_finally in_order) ≡ true → number_of e ≡ account_number e
    same-number e within =
        sym ((λ i. number_in eq (is.entries i) (is.numbers i) e)
        ∙ at-place eq laws number_of (number-alike eq laws job.offset (numbered_finally eq (used_order job.wanted) job.requests in_order)) e (distinct eq (cited job.requests))
        (is_in-distinct eq laws e (cited job.requests) ∙ sym (same-cited e) ∙ within))

    placed : in_end ≡ with_final_properties eq payload_eq account_number in_order
    placed = final-agree eq payload_eq number_of account_number in_order (each-cite eq laws (λ e. number_of e ≡ account_number e) in_order same-number)

    -- the bibliography
    listed-once : ListsEachOnce eq writing job (entries_in r.1) in_end r.0.bibliography
    listed-once =
        let entries : List E = distinct eq (cited job.requests) in
        let listed = each_once (used_order job.wanted) (cited job.requests) in
        let stand = final-stand eq laws writing (table_of eq job.requests) job.requests in_order ordered payload_eq number_of in
        subst (λ es. ListsEachOnce eq writing job es in_end r.0.bibliography) (sym is.entries)
        (lists-each-once eq laws writing job entries in_end (each_once None (cited job.requests)).once listed.once
        (λ e. listed.same e ∙ sym (is_in-distinct eq laws e (cited job.requests)))
        (firsts-found eq laws in_end job.requests (used_order job.wanted) (table_of eq job.requests) refl stand)
        r.0.bibliography (ap (λ (a : Rendered). a.bibliography) is.ok))

    module _ (brought : (c : CiteRender E P) → HasFinalOrder (is_grouped c.request.style.citation) c.items (grouped c).items)
        (drawn : (c : CiteRender E P) → CanBeReadBack c.items (collapsed c).items c.request.style.citation.collapse) where
      are-read-back : AllZip IsReadBack in_end (map collapsed_finally in_end)
      are-read-back = zip-mapped IsReadBack collapsed_finally (read-back drawn) in_end

      abbrev citations-come : ComeFrom eq payload_eq writing job account_number told r.0.citations
      citations-come = record {
        ordered = in_order;
        settled = in_end;
        drawn = map collapsed_finally in_end;
        final_orders = zip-mapped IsBroughtTogether grouped (λ c. record { same_request = grouped-request c; final_order = brought c }) told;
        settles = settled-cites;
        positions = placed;
        own_cites = settled-own eq payload_eq writing mode job brought number_of;
        runs = are-read-back;
        numbered = drawn-numbered eq payload_eq account_number in_order (map collapsed_finally in_end) (subst (λ cs. AllZip IsReadBack cs (map collapsed_finally in_end)) placed are-read-back);
        asked_for = drawn-requests in_end ∙ (final-stand eq laws writing (table_of eq job.requests) job.requests in_order ordered payload_eq number_of).of;
        made = ap (λ (a : Rendered). a.citations) is.ok;
        shows = ap (λ (a : Rendered). map (λ c. entries_shown c.citation) a.citations) is.ok ∙ citations-shown writing (map collapsed_finally in_end);
      }

      laws-of-rounds : IsLawful mode eq writing firsts all_tables (rounds mode eq writing firsts) → IsLawful mode eq writing firsts all_tables r.1.rounds
      laws-of-rounds h =
          let back : Ended mode r.1.rounds → Ended mode (rounds mode eq writing firsts) = λ e. ended mode (rounds mode eq writing firsts) (subst (Ended mode) is.rounds e) in
          record {
            go_on = h.go_on;
            stay = h.stay;
            left = record {
              only_ambiguous = h.left.only_ambiguous;
              none_left = λ e. h.left.none_left (back e);
              told_apart = λ e. h.left.told_apart (back e);
            };
            marks = h.marks;
            ranks = h.ranks;
          }

      pub keeps-laws : ((m : RoundMode) (requests : List (Request E P)) (properties : List (List FirstProperties))
          → let fs = first_renders writing requests properties in IsLawful m eq writing fs (tables m eq writing fs) (rounds m eq writing fs))
          → KeepsLaws eq payload_eq writing mode job r
      unfolding disambiguated
      keeps-laws lawful = record {
        tables = all_tables;
        first_is_empty = begins mode eq writing firsts (most_rounds mode eq firsts) no_states;
        one_for_each_round = is.rounds;
        last_is_told = is.states ∙ ap (map (λ e. told_by (last_table all_tables e))) (sym is.entries) ∙ map-map (λ e. told_by (last_table all_tables e)) (λ e. e.now) r.1.entries.items;
        rounds = laws-of-rounds (lawful mode job.requests (first_properties eq payload_eq (number eq job.offset (entries_listed eq job.wanted job.requests)) job.requests));
        cited_entries = is.entries;
        numbers = subst (λ es. HaveNumbersOnce eq job.offset es r.1.numbers.items) (sym is.entries)
            (subst (HaveNumbersOnce eq job.offset (distinct eq (cited job.requests))) (sym is.numbers) (by-order job.requests in_order same-cited job.offset (used_order job.wanted)));
        citations = citations-come;
        numbers_in_order = λ none. (λ i. map (number_in eq (is.entries i) (is.numbers i)) (distinct eq (cited_finally in_order)))
            ∙ in-order job.requests in_order same-cited job.offset (used_order job.wanted) none;
        numbers_by_order = λ order used. (λ i. map (number_in eq (is.entries i) (is.numbers i)) (bibliography_order eq (Some order) (cited job.requests)))
            ∙ in-given-order job.requests in_order same-cited job.offset (used_order job.wanted) order used;
        bibliography = listed-once;
      }

-- what is exactly the answer keeps the laws, and so is all that is promised
pub is-answer : {E P : Type 0} (eq : E → E → Bool) (payload_eq : P → P → Bool) (writing : Writing E P) (mode : RoundMode) (job : Job E P) (r : Rendered × Account E)
    → ((r : Rendered × Account E) → IsExactly eq payload_eq writing mode job r → KeepsLaws eq payload_eq writing mode job r)
    → IsExactly eq payload_eq writing mode job r → IsAnswer eq payload_eq writing mode job r
is-answer eq payload_eq writing mode job r keeps exact = record { exact = exact; laws = keeps r exact }
