-- The entries of an account are those of the bibliography, each as it is cited first, and each has its home.
use Rattle.std.proofs.Common.{◌≡◌, ℕ, Bool, true, false, cond, ◌||◌, Option, Some, None, List, [], ◌∷◌, ◌++◌, filter, length, map, refl, ap, sym, subst, ◌∙◌, true≢false}
use Rattle.std.specs.Prelude.{find, is_some}
use Rattle.std.specs.Cmp.{IsEquivalence}
use Rattle.std.specs.List.{cons_option, filter_map, range_with_len}
use Rattle.csl_driver.specs.Answer.{Job, numbered_finally, used_order}
use Rattle.csl_driver.specs.CslAccount.{entries_told}
use Rattle.csl_driver.specs.CslAnswer.{listed}
use Rattle.csl_driver.proofs.ListedKeys.{AreEqual, equal-apart, equal-in, equal-length}
use Rattle.driver_entries.specs.Entries.{bibliography_order, distinct, is_in, number, place}
use Rattle.driver_entries.specs.Laws.{HoldsEachOnce, NoTwoEqual}
use Rattle.driver_entries.specs.Listed.{Listed, listed_places}
use Rattle.driver_entries.proofs.Distinct.{is_in-distinct}
use Rattle.driver_entries.proofs.ListedPlaces.{all-cited, listing-of}
use Rattle.driver_entries.proofs.Once.{NoTwoEqual-distinct, holds_each_once, without_gaps}
use Rattle.driver_entries.proofs.Placing.{all_in, left, right}
use Rattle.driver_passes.specs.Renders.{CiteRender}
use Rattle.driver_passes.specs.Request.{Request, cited}
use Rattle.mentions_cited.specs.Homes.{homes_of}
use Rattle.mentions_cited.proofs.Finding.{homes-count}

module _ {E : Type 0} (eq : E → E → Bool) (laws : IsEquivalence eq) where
  find-in : (e : E) (xs : List E) → is_some (find (eq e) xs) ≡ is_in eq e xs
  find-in e [] = refl
  find-in e (x ∷ xs) = by (eq e x) (find-in e xs)
    where
      by : (b : Bool) → is_some (find (eq e) xs) ≡ is_in eq e xs → is_some (cond b (Some x) (find (eq e) xs)) ≡ (b || is_in eq e xs)
      by true more = refl
      by false more = more

  find-equal : (e : E) (xs : List E) (x : E) → find (eq e) xs ≡ Some x → eq e x ≡ true
  find-equal e [] x h = cc
  find-equal e (y ∷ xs) x h = by (eq e y) refl h (find-equal e xs x)
    where
      by : (b : Bool) → eq e y ≡ b → cond b (Some y) (find (eq e) xs) ≡ Some x → (find (eq e) xs ≡ Some x → eq e x ≡ true) → eq e x ≡ true
      by true is h more = let same : y ≡ x = cc in ap (eq e) (sym same) ∙ is
      by false is h more = more h

  each-told : (among es : List E) → all_in eq laws among es ≡ true → AreEqual eq laws es (filter_map (λ e. find (eq e) among) es)
  each-told among [] h = tt
  each-told among (e ∷ es) h = by (find (eq e) among) refl (each-told among es (right (is_in eq e among) (all_in eq laws among es) h))
    where
      by : (o : Option E) → find (eq e) among ≡ o → AreEqual eq laws es (filter_map (λ e. find (eq e) among) es) → AreEqual eq laws (e ∷ es) (cons_option o (filter_map (λ e. find (eq e) among) es))
      by None is rest = absurd (true≢false (sym (sym (ap is_some is) ∙ find-in e among ∙ left (is_in eq e among) (all_in eq laws among es) h)))
      by (Some x) is rest = (find-equal e among x is, rest)

  module _ {P : Type 0} (requests : List (Request E P)) where
    abbrev entries : List E
    entries = distinct eq (cited requests)

    -- each entry of the bibliography has a home
    homes-by : (order : Option (List E)) → length (homes_of eq (bibliography_order eq order (cited requests)) requests) ≡ length (bibliography_order eq order (cited requests))
    homes-by None =
        let places : Listed = listed_places (length entries) (map (λ e. place eq e entries) (cited requests)) in
        homes-count eq laws requests (distinct eq (cited requests)) places
        (listing-of eq laws entries (cited requests) (NoTwoEqual-distinct eq laws (cited requests)) (λ e. sym (is_in-distinct eq laws e (cited requests))) places refl)
    homes-by (Some order) =
        let all : List E = filter (λ e. is_in eq e (cited requests)) order ++ cited requests in
        let places : Listed = listed_places (length entries) (map (λ e. place eq e entries) all) in
        homes-count eq laws requests (distinct eq all) places
        (listing-of eq laws entries all (NoTwoEqual-distinct eq laws (cited requests))
        (λ e. sym (is_in-distinct eq laws e all) ∙ (holds_each_once eq laws (Some order) (cited requests)).same e ∙ sym (is_in-distinct eq laws e (cited requests))) places refl)

    -- where an order is used the numbers of its entries are the offset and those that follow
    by-its-order : (offset : ℕ) (cites : List (CiteRender E P)) (used : Option (List E)) (order : List E) → used ≡ Some order
        → let all = bibliography_order eq used (cited requests) in map (number eq offset (numbered_finally eq used requests cites)) all ≡ range_with_len offset (length all)
    by-its-order offset cites used order is =
        subst (λ u. map (number eq offset (numbered_finally eq u requests cites)) (bibliography_order eq u (cited requests)) ≡ range_with_len offset (length (bibliography_order eq u (cited requests)))) (sym is)
        (without_gaps eq laws offset (bibliography_order eq (Some order) (cited requests)) (holds_each_once eq laws (Some order) (cited requests)).once)

  module _ {P : Type 0} (job : Job E P) where
    abbrev each_once : HoldsEachOnce eq (used_order job.wanted) (cited job.requests)
    each_once = holds_each_once eq laws (used_order job.wanted) (cited job.requests)

    -- those of the account are those of the bibliography
    pub equal-told : AreEqual eq laws (listed eq job) (entries_told eq job)
    equal-told =
        each-told (distinct eq (cited job.requests)) (listed eq job)
        (all-cited eq laws (distinct eq (cited job.requests)) (listed eq job) (λ e. each_once.same e ∙ sym (is_in-distinct eq laws e (cited job.requests))))

    pub told-count : length (entries_told eq job) ≡ length (listed eq job)
    told-count = equal-length eq laws (listed eq job) (entries_told eq job) equal-told

    pub told-once : NoTwoEqual eq (entries_told eq job)
    told-once = equal-apart eq laws (listed eq job) (entries_told eq job) equal-told each_once.once

    pub told-cited : (e : E) → is_in eq e (entries_told eq job) ≡ is_in eq e (cited job.requests)
    told-cited e = equal-in eq laws e (listed eq job) (entries_told eq job) equal-told ∙ each_once.same e

    pub homes-told : length (homes_of eq (listed eq job) job.requests) ≡ length (entries_told eq job)
    homes-told = homes-by job.requests (used_order job.wanted) ∙ sym told-count

    pub numbered-by-order : (cites : List (CiteRender E P)) (order : List E) → used_order job.wanted ≡ Some order
        → map (number eq job.offset (numbered_finally eq (used_order job.wanted) job.requests cites)) (listed eq job) ≡ range_with_len job.offset (length (entries_told eq job))
    numbered-by-order cites order is =
        by-its-order job.requests job.offset cites (used_order job.wanted) order is ∙ ap (range_with_len job.offset) (sym told-count)
