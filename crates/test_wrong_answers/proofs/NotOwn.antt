-- Citations that show other cites than those of their requests.
use Rattle.std.proofs.Common.{◌≡◌, ◌⊎◌, inl, inr, ℕ, ◌+◌, ◌&&◌, Bool, true, false, cond, not, List, [], ◌∷◌, None, length, map, refl, ap, sym, subst, ◌∙◌, true≢false, arith}
use Rattle.std.specs.Prelude.{if◌then◌else◌, is_none, nat_eq, slice_index}
use Rattle.std.specs.List.{sum_by}
use Rattle.std.specs.List.Sorted.{IsPermutation}
use Rattle.std.proofs.lemmas.List.Sorted.{sum_by-IsPermutation}
use Rattle.std.proofs.lemmas.List.Sums.{sum_by-cons}
use Rattle.driver_assembly.specs.CitationTree.{citation_tree, shown}
use Rattle.driver_assembly.specs.declared.rendered.RenderedCitation.{RenderedCitation}
use Rattle.value_trees.specs.Tree.{plain}
use Rattle.csl_driver.specs.AnswerLaws.{KeepsLaws, cite_of, places_of}
use Rattle.csl_driver.specs.declared.account.Account.{Account}
use Rattle.driver_passes.specs.Purposes.{has_no_purpose}
use Rattle.driver_passes.specs.Renders.{CiteRender, ItemRender}
use Rattle.driver_passes.specs.Request.{RequestedCite, with_places}
use Rattle.rounds_runs.specs.declared.mode.RoundMode.{RoundMode}
use Rattle.test_wrong_answers.proofs.Differ.{above, below}
use Rattle.test_wrong_answers.proofs.OfRequests.{AllAnswer, IsOnly, all-answer, only}
use Rattle.test_wrong_answers.specs.Cites.{both_the_first, collapsed_all_the_same, hidden_one, of_three, shown_after_all, two, with_a_purpose}
use Rattle.test_wrong_answers.specs.Letters.{asked_cite, letters, request, shows}
use Rattle.test_wrong_answers.specs.Samples.{entry}
use Rattle.test_wrong_answers.specs.Silent.{same_sample}
use Rattle.test_wrong_answers.specs.declared.sample.Sample.{Sample}

abbrev three : RoundMode
three = RoundMode.Three

-- the tree of a request for one entry
module _ (k n : ℕ) (i : ItemRender Sample ℕ) (cites : i.entry ≡ entry n) (plainly : i.purpose ≡ None) (first : i.properties.certain.initial_idx ≡ 0) where
  abbrev only_cite : CiteRender Sample ℕ
  only_cite = record { items = i ∷ []; request = request (asked_cite n ∷ []) }

  tree-hidden : i.hidden ≡ true → citation_tree letters k only_cite ≡ []
  tree-hidden h = rw h refl

  tree-shown : i.hidden ≡ false → citation_tree letters k only_cite ≡ shows 0 n ∷ []
  tree-shown h = rw (h, cites, plainly, first) refl

  tree-is : (citation_tree letters k only_cite ≡ []) ⊎ (citation_tree letters k only_cite ≡ shows 0 n ∷ [])
  tree-is = by i.hidden refl
    where
      by : (b : Bool) → i.hidden ≡ b → (citation_tree letters k only_cite ≡ []) ⊎ (citation_tree letters k only_cite ≡ shows 0 n ∷ [])
      by true h = inl (tree-hidden h)
      by false h = inr (tree-shown h)

one-tree : (k n : ℕ) (d : CiteRender Sample ℕ) → d.request ≡ request (asked_cite n ∷ []) → IsOnly (asked_cite n) d.items
    → (citation_tree letters k d ≡ []) ⊎ (citation_tree letters k d ≡ shows 0 n ∷ [])
one-tree k n d same one =
    let whole : CiteRender Sample ℕ = record { items = one.item ∷ []; request = request (asked_cite n ∷ []) } in
    let is : whole ≡ d = λ j. record { items = sym one.alone j; request = sym same j } in
    subst (λ c. (citation_tree letters k c ≡ []) ⊎ (citation_tree letters k c ≡ shows 0 n ∷ [])) is (tree-is k n one.item one.entry one.purpose one.place)

-- both citations show the first entry
pub first-twice : (account : Account Sample) → ¬ KeepsLaws same_sample nat_eq letters three two (both_the_first, account)
first-twice account h =
    let c = h.citations in
    let all : AllAnswer letters 0 two.requests both_the_first.citations =
    all-answer letters 0 two.requests c.settled c.drawn both_the_first.citations c.asked_for c.runs c.own_cites c.made c.shows in
    let second = all.1.0 in
    let request_is = sym second.read.same_request ∙ second.same_request in
    let one = only (asked_cite 1) second.settled second.drawn second.own second.read (ap (λ r. (with_places r).cites) request_is) in
    let tree : shows 0 0 ∷ [] ≡ citation_tree letters 1 second.drawn = ap (λ (x : RenderedCitation). x.citation) second.made in
    elim (one-tree 1 1 second.drawn second.same_request one) [
      | inl none ↦ let empty : shows 0 0 ∷ [] ≡ [] = tree ∙ none in cc
      | inr other ↦ below 65 66 (omega arith) (ap (λ t. slice_index (plain t) 0) (tree ∙ other))
    ]

-- what the caller hid is shown
pub shown-hidden : (account : Account Sample) → ¬ KeepsLaws same_sample nat_eq letters three hidden_one (shown_after_all, account)
shown-hidden account h =
    let c = h.citations in
    let all : AllAnswer letters 0 hidden_one.requests shown_after_all.citations =
    all-answer letters 0 hidden_one.requests c.settled c.drawn shown_after_all.citations c.asked_for c.runs c.own_cites c.made c.shows in
    let first = all.0 in
    let request_is = sym first.read.same_request ∙ first.same_request in
    let requested : RequestedCite Sample ℕ = record (asked_cite 0) { hidden = true } in
    let one = only requested first.settled first.drawn first.own first.read (ap (λ r. (with_places r).cites) request_is) in
    let none : places_of (shown first.drawn.items) ≡ [] = ap (λ l. places_of (shown l)) one.alone ∙ ap (λ b. places_of (cond (not b) (one.item ∷ []) [])) (one.stays_hidden refl) in
    above 1 0 (omega arith) (ap length (first.shows ∙ none))

-- cites counted
abbrev one_if_shown : RequestedCite Sample ℕ → ℕ
one_if_shown q = if q.hidden then 0 else 1

abbrev one_if_for_a_purpose : RequestedCite Sample ℕ → ℕ
one_if_for_a_purpose q = if is_none q.purpose then 0 else 1

shown-count : (items : List (ItemRender Sample ℕ)) → length (places_of (shown items)) ≡ sum_by one_if_shown (map cite_of items)
shown-count [] = refl
shown-count (i ∷ items) = by i.hidden (shown-count items) ∙ sym (sum_by-cons one_if_shown (cite_of i) (map cite_of items))
  where
    by : (b : Bool) → length (places_of (shown items)) ≡ sum_by one_if_shown (map cite_of items)
        → length (places_of (cond (not b) (i ∷ shown items) (shown items))) ≡ (if b then 0 else 1) + sum_by one_if_shown (map cite_of items)
    by true more = omega (arith, more)
    by false more = omega (arith, more)

purpose-count : (items : List (ItemRender Sample ℕ)) → has_no_purpose items ≡ true → sum_by one_if_for_a_purpose (map cite_of items) ≡ 0
purpose-count [] h = refl
purpose-count (i ∷ items) h = sum_by-cons one_if_for_a_purpose (cite_of i) (map cite_of items) ∙ by (is_none i.purpose) h (purpose-count items)
  where
    by : (b : Bool) → (b && has_no_purpose items) ≡ true → (has_no_purpose items ≡ true → sum_by one_if_for_a_purpose (map cite_of items) ≡ 0)
        → (if b then 0 else 1) + sum_by one_if_for_a_purpose (map cite_of items) ≡ 0
    by true h more = omega (arith, more h)
    by false h more = absurd (true≢false (sym h))

-- the cites of a request of three, of which one has a purpose
abbrev three_cites : List (RequestedCite Sample ℕ)
three_cites = (with_places of_three).cites

module _ (items drawn : List (ItemRender Sample ℕ)) (own : IsPermutation three_cites (map cite_of items)) where
  purpose-there : (b : Bool) → has_no_purpose items ≡ b → has_no_purpose items ≡ false
  purpose-there false h = h
  purpose-there true h =
      let one : sum_by one_if_for_a_purpose (map cite_of items) ≡ 1 = sum_by-IsPermutation one_if_for_a_purpose three_cites (map cite_of items) own in
      absurd (omega (arith, one, purpose-count items h))

  all-three : (has_no_purpose items ≡ false → drawn ≡ items) → length (places_of (shown drawn)) ≡ 3
  all-three stays =
      ap (λ l. length (places_of (shown l))) (stays (purpose-there (has_no_purpose items) refl)) ∙ shown-count items
      ∙ sum_by-IsPermutation one_if_shown three_cites (map cite_of items) own

-- cites collapse though one has a purpose
pub collapsed-too : (account : Account Sample) → ¬ KeepsLaws same_sample nat_eq letters three with_a_purpose (collapsed_all_the_same, account)
collapsed-too account h =
    let c = h.citations in
    let all : AllAnswer letters 0 with_a_purpose.requests collapsed_all_the_same.citations =
    all-answer letters 0 with_a_purpose.requests c.settled c.drawn collapsed_all_the_same.citations c.asked_for c.runs c.own_cites c.made c.shows in
    let first = all.0 in
    let request_is = sym first.read.same_request ∙ first.same_request in
    let own : IsPermutation three_cites (map cite_of first.settled.items) = subst (λ r. IsPermutation (with_places r).cites (map cite_of first.settled.items)) request_is first.own in
    below 2 3 (omega arith) (ap length first.shows ∙ all-three first.settled.items first.drawn.items own first.read.purpose_stays)
