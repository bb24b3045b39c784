-- The bibliography lists each entry of the account once.
use Rattle.std.proofs.Common.{◌≡◌, ℕ, ◌+◌, Bool, true, false, ◌||◌, cond, List, [], ◌∷◌, ◌++◌, Option, Some, None, length, map, refl, ap, sym, subst, ◌∙◌, arith}
use Rattle.std.specs.Prelude.{All, IfSome, find, is_some, option_map}
use Rattle.std.specs.Cmp.{IsEquivalence}
use Rattle.std.specs.List.{cons_option, enumerate_from, filter_map}
use Rattle.std.proofs.Math.ListN.{length-map}
use Rattle.std.proofs.lemmas.List.{map-append}
use Rattle.std.proofs.lemmas.List.Elements.{All-cons, All-head, All-nil, All-tail}
use Rattle.driver_assembly.specs.BibliographyItems.{item_by, with_first_field}
use Rattle.driver_assembly.specs.ByMeans.{bibliography_by_means, task_by}
use Rattle.driver_assembly.specs.declared.by_means.ItemMeans.{ItemMeans}
use Rattle.driver_assembly.specs.declared.rendered.RenderedBibliography.{RenderedBibliography}
use Rattle.mentions_authors.specs.Substitution.{Item, each_substituted, repeats, substitute_text, with_substitute}
use Rattle.mentions_authors.specs.declared.repeated.Substituted.{Substituted}
use Rattle.mentions_authors.proofs.Repeating.{length-repeats}
use Rattle.value_styles.specs.Style.{BibliographyValue}
use Rattle.value_styles.specs.declared.style.SubsequentAuthorSubstituteRule.{SubsequentAuthorSubstituteRule}
use Rattle.value_sources.specs.declared.formatting.Formatted.{Formatted}
use Rattle.csl_driver.specs.Answer.{Job, used_order}
use Rattle.csl_driver.specs.CslAnswer.{listed, listed_cites}
use Rattle.csl_driver.specs.ListedOnce.{EqualHaveEqualKeys, key_of, keys_of}
use Rattle.csl_driver.proofs.ListedKeys.{AreEqual, equal-apart, equal-in, equal-length}
use Rattle.driver_entries.specs.Entries.{is_in}
use Rattle.driver_entries.specs.Laws.{NoTwoEqual}
use Rattle.driver_entries.proofs.ListedPlaces.{all-cited}
use Rattle.driver_entries.proofs.Once.{holds_each_once}
use Rattle.driver_entries.proofs.Placing.{all_in, left, right}
use Rattle.driver_lookup.specs.Lookup.{Source}
use Rattle.driver_passes.specs.Renders.{CiteRender, ItemRender}
use Rattle.driver_passes.specs.Request.{cited, wanted_source}
use Rattle.driver_positions.specs.FinalProperties.{cited_finally, first_item, items_finally}
use Rattle.driver_writers.specs.Writing.{Writing}
use Rattle.mentions_laws.specs.Listing.{ListsEntriesOnce}

-- where each member gives one, these are what they give
all-given : {A B : Type 0} (f : A → Option B) (xs : List A) → All (λ x. is_some (f x) ≡ true) xs → map f xs ≡ map Some (filter_map f xs)
all-given f [] h = refl
all-given {A} {B} f (x ∷ xs) h = by (f x) (All-head (λ x. is_some (f x) ≡ true) x xs h) (all-given f xs (All-tail (λ x. is_some (f x) ≡ true) x xs h))
  where
    by : (o : Option B) → is_some o ≡ true → map f xs ≡ map Some (filter_map f xs) → o ∷ map f xs ≡ map Some (cons_option o (filter_map f xs))
    by None e more = cc
    by (Some y) e more = ap (λ l. Some y ∷ l) more

-- of an option that is mapped
mapped-some : {A B : Type 0} (f : A → B) (o : Option A) → is_some (option_map f o) ≡ is_some o
mapped-some f None = refl
mapped-some f (Some a) = refl

mapped-all : {A B : Type 0} (Q : B → Type 0) (f : A → B) → ((a : A) → Q (f a)) → (o : Option A) → IfSome (option_map f o) Q
mapped-all Q f holds None = tt
mapped-all Q f holds (Some a) = holds a

-- substitution and first fields keep the keys
each-keys : (substitute : Formatted) (told : List Substituted) (items : List Item) → length told ≡ length items → map (λ i. i.1) (each_substituted substitute told items) ≡ map (λ i. i.1) items
each-keys substitute [] [] h = refl
each-keys substitute [] (i ∷ items) h = absurd (omega (arith, h))
each-keys substitute (t ∷ told) [] h = absurd (omega (arith, h))
each-keys substitute (t ∷ told) (i ∷ items) h = ap (λ l. i.1 ∷ l) (each-keys substitute told items (omega (arith, h)))

substituted-keys : (substitute : Option (List ℕ)) (rule : SubsequentAuthorSubstituteRule) (items : List Item) → map (λ i. i.1) (with_substitute substitute rule items) ≡ map (λ i. i.1) items
substituted-keys None rule items = refl
substituted-keys (Some bytes) rule items = each-keys (substitute_text bytes) (repeats rule items) items (length-repeats rule items)

field-keys : (aligned : Bool) (items : List Item) → map (λ i. i.key) (map (with_first_field aligned) items) ≡ map (λ i. i.1) items
field-keys aligned [] = refl
field-keys true (x ∷ xs) = ap (λ l. x.1 ∷ l) (field-keys true xs)
field-keys false (x ∷ xs) = ap (λ l. x.1 ∷ l) (field-keys false xs)

-- equal entries, one by one, have equal values
module _ {E X : Type 0} (eq : E → E → Bool) (laws : IsEquivalence eq) (f : E → X) (alike : (d e : E) → eq d e ≡ true → f d ≡ f e) where
  equal-values : (xs ys : List E) → AreEqual eq laws xs ys → map f ys ≡ map f xs
  equal-values [] [] h = refl
  equal-values [] (y ∷ ys) h = absurd h
  equal-values (x ∷ xs) [] h = absurd h
  equal-values (x ∷ xs) (y ∷ ys) h = λ i. sym (alike x y h.0) i ∷ equal-values xs ys h.1 i

module _ {E P : Type 0} (eq : E → E → Bool) where
  find-in : (e : E) (items : List (ItemRender E P)) → is_some (find (λ i. eq e i.entry) items) ≡ is_in eq e (map (λ i. i.entry) items)
  find-in e [] = refl
  find-in e (i ∷ items) = by (eq e i.entry) (find-in e items)
    where
      by : (b : Bool) → is_some (find (λ i. eq e i.entry) items) ≡ is_in eq e (map (λ i. i.entry) items)
          → is_some (cond b (Some i) (find (λ i. eq e i.entry) items)) ≡ (b || is_in eq e (map (λ i. i.entry) items))
      by true more = refl
      by false more = more

  entries-joined : (cites : List (CiteRender E P)) → map (λ i. i.entry) (items_finally cites) ≡ cited_finally cites
  entries-joined [] = refl
  entries-joined (c ∷ cs) = map-append (λ i. i.entry) c.items (items_finally cs) ∙ ap (λ l. map (λ i. i.entry) c.items ++ l) (entries-joined cs)

  -- the first cite of an entry cites an equal one
  found-equal : (e : E) (items : List (ItemRender E P)) (i : ItemRender E P) → find (λ j. eq e j.entry) items ≡ Some i → eq e i.entry ≡ true
  found-equal e [] i h = cc
  found-equal e (j ∷ items) i h = by (eq e j.entry) refl h (found-equal e items i)
    where
      by : (b : Bool) → eq e j.entry ≡ b → cond b (Some j) (find (λ j. eq e j.entry) items) ≡ Some i → (find (λ j. eq e j.entry) items ≡ Some i → eq e i.entry ≡ true) → eq e i.entry ≡ true
      by true is h more = let same : j ≡ i = cc in ap (λ k. eq e k.entry) (sym same) ∙ is
      by false is h more = more h

  module _ (laws : IsEquivalence eq) where
    firsts-equal : (cites : List (CiteRender E P)) (es : List E) (firsts : List (ItemRender E P)) → map (first_item eq cites) es ≡ map Some firsts → AreEqual eq laws es (map (λ i. i.entry) firsts)
    firsts-equal cites [] [] h = tt
    firsts-equal cites [] (i ∷ firsts) h = cc
    firsts-equal cites (e ∷ es) [] h = cc
    firsts-equal cites (e ∷ es) (i ∷ firsts) h =
        let first : first_item eq cites e ≡ Some i = cc in
        let rest : map (first_item eq cites) es ≡ map Some firsts = cc in
        (found-equal e (items_finally cites) i first, firsts-equal cites es firsts rest)

    each-found : (cites : List (CiteRender E P)) (order xs : List E) → ((e : E) → is_in eq e order ≡ is_in eq e (cited_finally cites)) → all_in eq laws order xs ≡ true → All (λ e. is_some (first_item eq cites e) ≡ true) xs
    each-found cites order [] same h = All-nil (λ e. is_some (first_item eq cites e) ≡ true)
    each-found cites order (x ∷ xs) same h =
        All-cons (λ e. is_some (first_item eq cites e) ≡ true) x xs
        (find-in x (items_finally cites) ∙ ap (is_in eq x) (entries-joined cites) ∙ sym (same x) ∙ left (is_in eq x order) (all_in eq laws order xs) h)
        (each-found cites order xs same (right (is_in eq x order) (all_in eq laws order xs) h))

    module _ (writing : Writing E P) (means : ℕ → ItemMeans) where
      -- what is written has the keys of the cited entries
      written-keys : (source : Source) (firsts : List (ItemRender E P × ItemMeans)) → map (λ i. i.1) (map (λ p. item_by writing (task_by source p)) firsts) ≡ map (λ p. key_of eq writing p.0.entry) firsts
      written-keys source [] = refl
      written-keys source (p ∷ firsts) = ap (λ l. key_of eq writing p.0.entry ∷ l) (written-keys source firsts)

      bibliography-keys : (source : Source) (b : BibliographyValue) (firsts : List (ItemRender E P × ItemMeans)) → keys_of (bibliography_by_means writing source b firsts) ≡ map (λ p. key_of eq writing p.0.entry) firsts
      bibliography-keys source b firsts =
          field-keys (is_some b.second_field_align) (with_substitute b.subsequent_author_substitute b.subsequent_author_substitute_rule (map (λ p. item_by writing (task_by source p)) firsts))
          ∙ substituted-keys b.subsequent_author_substitute b.subsequent_author_substitute_rule (map (λ p. item_by writing (task_by source p)) firsts)
          ∙ written-keys source firsts

      -- first cites with means
      with-means : (cites : List (CiteRender E P)) (n : ℕ) (es : List E)
          → map (λ p. key_of eq writing p.0.entry) (filter_map (λ p. option_map {U = ItemRender E P × ItemMeans} (λ i. (i, means p.0)) (first_item eq cites p.1)) (enumerate_from n es))
          ≡ map (λ i. key_of eq writing i.entry) (filter_map (first_item eq cites) es)
      with-means cites n [] = refl
      with-means cites n (e ∷ es) = by (first_item eq cites e) (with-means cites (n + 1) es)
        where
          rest : List (ItemRender E P × ItemMeans)
          rest = filter_map (λ p. option_map {U = ItemRender E P × ItemMeans} (λ i. (i, means p.0)) (first_item eq cites p.1)) (enumerate_from (n + 1) es)

          by : (o : Option (ItemRender E P)) → map (λ p. key_of eq writing p.0.entry) rest ≡ map (λ i. key_of eq writing i.entry) (filter_map (first_item eq cites) es)
              → map (λ p. key_of eq writing p.0.entry) (cons_option (option_map {U = ItemRender E P × ItemMeans} (λ i. (i, means n)) o) rest)
              ≡ map (λ i. key_of eq writing i.entry) (cons_option o (filter_map (first_item eq cites) es))
          by None more = more
          by (Some i) more = ap (λ l. key_of eq writing i.entry ∷ l) more

      module _ (job : Job E P) (entries : List E) (cites : List (CiteRender E P)) (equal : AreEqual eq laws (listed eq job) entries) (same : (e : E) → is_in eq e (cited_finally cites) ≡ is_in eq e (cited job.requests)) where
        abbrev firsts : List (ItemRender E P)
        firsts = filter_map (first_item eq cites) (listed eq job)

        listed-once : NoTwoEqual eq (listed eq job)
        listed-once = (holds_each_once eq laws (used_order job.wanted) (cited job.requests)).once

        found : All (λ e. is_some (first_item eq cites e) ≡ true) (listed eq job)
        found =
            each-found cites (listed eq job) (listed eq job) (λ e. (holds_each_once eq laws (used_order job.wanted) (cited job.requests)).same e ∙ sym (same e))
            (all-cited eq laws (listed eq job) (listed eq job) (λ e. refl))

        each : AreEqual eq laws (listed eq job) (map (λ i. i.entry) firsts)
        each = firsts-equal cites (listed eq job) firsts (all-given (first_item eq cites) (listed eq job) found)

        abbrev made : BibliographyValue → RenderedBibliography
        made b = bibliography_by_means writing (wanted_source job.wanted) b (listed_cites eq means cites (listed eq job))

        keys-made : (b : BibliographyValue) → keys_of (made b) ≡ map (λ i. key_of eq writing i.entry) firsts
        keys-made b = bibliography-keys (wanted_source job.wanted) b (listed_cites eq means cites (listed eq job)) ∙ with-means cites 0 (listed eq job)

        count : (b : BibliographyValue) → length (made b).items ≡ length entries
        count b =
            sym (length-map (made b).items (λ item. item.key)) ∙ ap length (keys-made b) ∙ length-map firsts (λ i. key_of eq writing i.entry) ∙ sym (length-map firsts (λ i. i.entry))
            ∙ equal-length eq laws (listed eq job) (map (λ i. i.entry) firsts) each ∙ sym (equal-length eq laws (listed eq job) entries equal)

        map-map : (xs : List (ItemRender E P)) → map (key_of eq writing) (map (λ i. i.entry) xs) ≡ map (λ i. key_of eq writing i.entry) xs
        map-map [] = refl
        map-map (x ∷ xs) = ap (λ l. key_of eq writing x.entry ∷ l) (map-map xs)

        keys-of-entries : EqualHaveEqualKeys eq writing → (b : BibliographyValue) → keys_of (made b) ≡ map (key_of eq writing) entries
        keys-of-entries alike b =
            keys-made b ∙ sym (map-map firsts) ∙ equal-values eq laws (key_of eq writing) alike (listed eq job) (map (λ i. i.entry) firsts) each
            ∙ sym (equal-values eq laws (key_of eq writing) alike (listed eq job) entries equal)

        pub lists-once : (bibliography : Option RenderedBibliography) → bibliography ≡ option_map made job.wanted.style.bibliography → ListsEntriesOnce eq writing job entries cites bibliography
        lists-once bibliography is = subst (ListsEntriesOnce eq writing job entries cites) (sym is) (record {
          where_asked_for = mapped-some made job.wanted.style.bibliography;
          firsts = firsts;
          first_cites = all-given (first_item eq cites) (listed eq job) found;
          none_twice = equal-apart eq laws (listed eq job) (map (λ i. i.entry) firsts) each listed-once;
          no_other = λ e. equal-in eq laws e (listed eq job) (map (λ i. i.entry) firsts) each ∙ sym (equal-in eq laws e (listed eq job) entries equal);
          as_many = mapped-all _ _ count job.wanted.style.bibliography;
          keys = mapped-all _ _ keys-made job.wanted.style.bibliography;
          keys_of_entries = λ alike. mapped-all _ _ (keys-of-entries alike) job.wanted.style.bibliography;
        })
