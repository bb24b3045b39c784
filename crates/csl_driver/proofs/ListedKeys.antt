-- The bibliography lists each entry of the account once, and no other.
use Rattle.std.proofs.Common.{◌≡◌, ℕ, suc, ◌+◌, Bool, true, false, ◌||◌, cond, List, [], ◌∷◌, Option, Some, None, length, map, refl, ap, sym, subst, ◌∙◌}
use Rattle.std.specs.Prelude.{All, IfSome, find, is_some, option_map}
use Rattle.std.specs.Cmp.{IsEquivalence}
use Rattle.std.specs.List.{AllZip, cons_option, enumerate_from, filter_map}
use Rattle.std.specs.List.Sorted.{IsPermutation}
use Rattle.std.proofs.Math.ListN.{length-map}
use Rattle.std.proofs.lemmas.List.Elements.{All-head, All-tail}
use Rattle.std.proofs.lemmas.List.Sorted.{length_permutation}
use Rattle.std.proofs.lemmas.Simd.{map-map}
use Rattle.driver_assembly.specs.BibliographyItems.{bibliography_of, with_first_field, written_item}
use Rattle.driver_assembly.specs.declared.rendered.RenderedBibliography.{RenderedBibliography}
use Rattle.value_styles.specs.Style.{BibliographyValue}
use Rattle.value_styles.specs.declared.style.SubsequentAuthorSubstituteRule.{SubsequentAuthorSubstituteRule}
use Rattle.csl_driver.specs.Answer.{Job, entries_listed}
use Rattle.csl_driver.specs.ListedOnce.{EqualHaveEqualKeys, ListsEachOnce, key_of, keys_of}
use Rattle.csl_driver.proofs.EachOnce.{permuted}
use Rattle.driver_entries.specs.Entries.{is_in}
use Rattle.driver_entries.specs.Laws.{NoTwoEqual}
use Rattle.driver_entries.proofs.Distinct.{is_in-equal}
use Rattle.driver_lookup.specs.Lookup.{Source}
use Rattle.driver_passes.specs.Renders.{CiteRender, ItemRender}
use Rattle.driver_passes.specs.Request.{wanted_source}
use Rattle.driver_positions.specs.FinalProperties.{first_item, items_finally}
use Rattle.rounds_substitution.specs.Substitution.{Item, item_after, substituted, substitute_text}
use Rattle.driver_writers.specs.Writing.{Writing}

-- where each member gives one, these are what they give
all-given : {A B : Type 0} (f : A → Option B) (xs : List A) → All (λ x. is_some (f x) ≡ true) xs → map f xs ≡ map Some (filter_map f xs)
all-given f [] h = refl
all-given {A} {B} f (x ∷ xs) h = by (f x) (All-head (λ x. is_some (f x) ≡ true) x xs h) (all-given f xs (All-tail (λ x. is_some (f x) ≡ true) x xs h))
  where
    by : (o : Option B) → is_some o ≡ true → map f xs ≡ map Some (filter_map f xs) → o ∷ map f xs ≡ map Some (cons_option o (filter_map f xs))
    by None e more = cc
    by (Some y) e more = ap (λ l. Some y ∷ l) more

-- of an option that is mapped
mapped-some : {A B : Type 0} (f : A → B) (o : Option A) → is_some (option_map f o) ≡ is_some o
mapped-some f None = refl
mapped-some f (Some a) = refl

mapped-all : {A B : Type 0} (Q : B → Type 0) (f : A → B) → ((a : A) → Q (f a)) → (o : Option A) → IfSome (option_map f o) Q
mapped-all Q f holds None = tt
mapped-all Q f holds (Some a) = holds a

-- substitution and first fields keep the keys
module _ (rule : SubsequentAuthorSubstituteRule) where
  item-keys : (bytes : List ℕ) (items : List Item) (n : ℕ) (xs : List Item) → map (λ i. i.1) (map (item_after (substitute_text bytes) rule items) (enumerate_from n xs)) ≡ map (λ i. i.1) xs
  item-keys bytes items n [] = refl
  item-keys bytes items n (x ∷ xs) = ap (λ l. x.1 ∷ l) (item-keys bytes items (n + 1) xs)

  substituted-keys : (substitute : Option (List ℕ)) (items : List Item) → map (λ i. i.1) (substituted substitute rule items) ≡ map (λ i. i.1) items
  substituted-keys None items = refl
  substituted-keys (Some bytes) items = item-keys bytes items 0 items

field-keys : (aligned : Bool) (items : List Item) → map (λ i. i.key) (map (with_first_field aligned) items) ≡ map (λ i. i.1) items
field-keys aligned [] = refl
field-keys true (x ∷ xs) = ap (λ l. x.1 ∷ l) (field-keys true xs)
field-keys false (x ∷ xs) = ap (λ l. x.1 ∷ l) (field-keys false xs)

module _ {E : Type 0} (eq : E → E → Bool) (laws : IsEquivalence eq) where
  abbrev pub AreEqual : List E → List E → Type 0
  AreEqual = AllZip (λ d e. eq d e ≡ true)

  -- equal entries, one by one, are the same up to equality
  pub equal-in : (e : E) (xs ys : List E) → AreEqual xs ys → is_in eq e ys ≡ is_in eq e xs
  equal-in e [] [] h = refl
  equal-in e [] (y ∷ ys) h = absurd h
  equal-in e (x ∷ xs) [] h = absurd h
  equal-in e (x ∷ xs) (y ∷ ys) h = λ i. test i || equal-in e xs ys h.1 i
    where
      test : eq e y ≡ eq e x
      test = laws.symm e y ∙ sym (laws.congr x y e h.0) ∙ laws.symm x e

  pub equal-apart : (xs ys : List E) → AreEqual xs ys → NoTwoEqual eq xs → NoTwoEqual eq ys
  equal-apart [] [] h once = tt
  equal-apart [] (y ∷ ys) h once = absurd h
  equal-apart (x ∷ xs) [] h once = absurd h
  equal-apart (x ∷ xs) (y ∷ ys) h once =
      (equal-in y xs ys h.1 ∙ is_in-equal eq laws y x xs (laws.symm y x ∙ h.0) ∙ once.0, equal-apart xs ys h.1 once.1)

  equal-values : {X : Type 0} (f : E → X) → ((d e : E) → eq d e ≡ true → f d ≡ f e) → (xs ys : List E) → AreEqual xs ys → map f ys ≡ map f xs
  equal-values f alike [] [] h = refl
  equal-values f alike [] (y ∷ ys) h = absurd h
  equal-values f alike (x ∷ xs) [] h = absurd h
  equal-values f alike (x ∷ xs) (y ∷ ys) h = λ i. sym (alike x y h.0) i ∷ equal-values f alike xs ys h.1 i

  pub equal-length : (xs ys : List E) → AreEqual xs ys → length ys ≡ length xs
  equal-length [] [] h = refl
  equal-length [] (y ∷ ys) h = absurd h
  equal-length (x ∷ xs) [] h = absurd h
  equal-length (x ∷ xs) (y ∷ ys) h = ap suc (equal-length xs ys h.1)

  -- lists of the same entries, each once, are as long
  same-length : (ys xs : List E) → NoTwoEqual eq ys → NoTwoEqual eq xs → ((e : E) → is_in eq e ys ≡ is_in eq e xs) → length ys ≡ length xs
  same-length ys xs h g same =
      let none : E → ℕ = λ e. 0 in
      sym (length-map ys none) ∙ sym (length_permutation (map none ys) (map none xs) (permuted eq laws none (λ x y e. refl) ys xs h g same)) ∙ length-map xs none

  module _ {P : Type 0} where
    -- the first cite of an entry cites an equal one
    found-equal : (e : E) (items : List (ItemRender E P)) (i : ItemRender E P) → find (λ j. eq e j.entry) items ≡ Some i → eq e i.entry ≡ true
    found-equal e [] i h = cc
    found-equal e (j ∷ items) i h = by (eq e j.entry) refl h (found-equal e items i)
      where
        by : (b : Bool) → eq e j.entry ≡ b → cond b (Some j) (find (λ j. eq e j.entry) items) ≡ Some i → (find (λ j. eq e j.entry) items ≡ Some i → eq e i.entry ≡ true) → eq e i.entry ≡ true
        by true is h more = let same : j ≡ i = cc in ap (λ k. eq e k.entry) (sym same) ∙ is
        by false is h more = more h

    firsts-equal : (cites : List (CiteRender E P)) (listed : List E) (firsts : List (ItemRender E P)) → map (first_item eq cites) listed ≡ map Some firsts → AreEqual listed (map (λ i. i.entry) firsts)
    firsts-equal cites [] [] h = tt
    firsts-equal cites [] (i ∷ firsts) h = cc
    firsts-equal cites (e ∷ listed) [] h = cc
    firsts-equal cites (e ∷ listed) (i ∷ firsts) h =
        let first : first_item eq cites e ≡ Some i = cc in
        let rest : map (first_item eq cites) listed ≡ map Some firsts = cc in
        (found-equal e (items_finally cites) i first, firsts-equal cites listed firsts rest)

  module _ {P : Type 0} (writing : Writing E P) where
    -- what is written has the keys of the cited entries
    written-keys : (source : Source) (firsts : List (ItemRender E P)) → map (λ i. i.1) (map (written_item writing source) firsts) ≡ map (λ i. key_of eq writing i.entry) firsts
    written-keys source [] = refl
    written-keys source (i ∷ firsts) = ap (λ l. key_of eq writing i.entry ∷ l) (written-keys source firsts)

    bibliography-keys : (source : Source) (b : BibliographyValue) (firsts : List (ItemRender E P)) → keys_of (bibliography_of writing source b firsts) ≡ map (λ i. key_of eq writing i.entry) firsts
    bibliography-keys source b firsts =
        field-keys (is_some b.second_field_align) (substituted b.subsequent_author_substitute b.subsequent_author_substitute_rule (map (written_item writing source) firsts))
        ∙ substituted-keys b.subsequent_author_substitute_rule b.subsequent_author_substitute (map (written_item writing source) firsts)
        ∙ written-keys source firsts

    module _ (job : Job E P) (entries : List E) (cites : List (CiteRender E P)) (once : NoTwoEqual eq entries) where
      abbrev listed : List E
      listed = entries_listed eq job.wanted job.requests

      abbrev first_cites : List (ItemRender E P)
      first_cites = filter_map (first_item eq cites) listed

      abbrev made : Option RenderedBibliography
      made = option_map (λ b. bibliography_of writing (wanted_source job.wanted) b first_cites) job.wanted.style.bibliography

      module _ (listed_once : NoTwoEqual eq listed) (same : (e : E) → is_in eq e listed ≡ is_in eq e entries) (found : All (λ e. is_some (first_item eq cites e) ≡ true) listed) where
        each : AreEqual listed (map (λ i. i.entry) first_cites)
        each = firsts-equal cites listed first_cites (all-given (first_item eq cites) listed found)

        count : (b : BibliographyValue) → length (bibliography_of writing (wanted_source job.wanted) b first_cites).items ≡ length entries
        count b =
            let whole : RenderedBibliography = bibliography_of writing (wanted_source job.wanted) b first_cites in
            sym (length-map whole.items (λ item. item.key)) ∙ ap length (bibliography-keys (wanted_source job.wanted) b first_cites)
            ∙ length-map first_cites (λ i. key_of eq writing i.entry) ∙ sym (length-map first_cites (λ i. i.entry))
            ∙ equal-length listed (map (λ i. i.entry) first_cites) each ∙ same-length listed entries listed_once once same

        in-order : EqualHaveEqualKeys eq writing → (b : BibliographyValue) → keys_of (bibliography_of writing (wanted_source job.wanted) b first_cites) ≡ map (key_of eq writing) listed
        in-order alike b =
            bibliography-keys (wanted_source job.wanted) b first_cites ∙ sym (map-map (key_of eq writing) (λ i. i.entry) first_cites)
            ∙ equal-values (key_of eq writing) alike listed (map (λ i. i.entry) first_cites) each

        pub lists-each-once : (bibliography : Option RenderedBibliography) → bibliography ≡ made → ListsEachOnce eq writing job entries cites bibliography
        lists-each-once bibliography is = subst (ListsEachOnce eq writing job entries cites) (sym is) (record {
          where_asked_for = mapped-some (λ b. bibliography_of writing (wanted_source job.wanted) b first_cites) job.wanted.style.bibliography;
          firsts = first_cites;
          first_cites = all-given (first_item eq cites) listed found;
          none_twice = equal-apart listed (map (λ i. i.entry) first_cites) each listed_once;
          no_other = λ e. equal-in e listed (map (λ i. i.entry) first_cites) each ∙ same e;
          as_many = mapped-all _ _ count job.wanted.style.bibliography;
          keys = mapped-all _ _ (λ b. bibliography-keys (wanted_source job.wanted) b first_cites) job.wanted.style.bibliography;
          keys_in_order = λ alike. mapped-all _ _ (in-order alike) job.wanted.style.bibliography;
          keys_of_entries = λ alike. mapped-all _ _
              (λ b. subst (IsPermutation (map (key_of eq writing) entries)) (sym (in-order alike b))
              (permuted eq laws (key_of eq writing) alike entries listed once listed_once (λ e. sym (same e)))) job.wanted.style.bibliography;
          made = refl;
        })
