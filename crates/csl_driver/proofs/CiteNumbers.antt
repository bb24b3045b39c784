-- The cites of an answer have the numbers that its account has for their entries.
use Rattle.std.proofs.Common.{◌≡◌, ℕ, ◌+◌, Bool, true, List, [], ◌∷◌, ◌++◌, map, take, refl, subst, ◌∙◌}
use Rattle.std.specs.Prelude.{All}
use Rattle.std.specs.Cmp.{IsEquivalence}
use Rattle.std.specs.List.{AllZip, enumerate_from}
use Rattle.std.proofs.lemmas.Bool.{or_left, or_right}
use Rattle.std.proofs.lemmas.List.Elements.{All-append, All-cons, All-head, All-nil, All-tail}
use Rattle.csl_driver.specs.AnswerLaws.{IsReadBack, uncollapsed}
use Rattle.driver_entries.specs.Entries.{is_in}
use Rattle.driver_entries.proofs.Distinct.{is_in-append}
use Rattle.driver_passes.specs.Renders.{CiteRender, ItemRender}
use Rattle.driver_positions.specs.FinalProperties.{cited_finally, final_position, items_before, items_finally, placed_finally, with_final, with_final_items, with_final_properties}

module _ {E P : Type 0} (eq : E → E → Bool) (laws : IsEquivalence eq) (Q : E → Type 0) where
  -- what is known of the entries that are cited is known of that of each cite
  each-item : (items : List (ItemRender E P)) → ((e : E) → is_in eq e (map (λ i. i.entry) items) ≡ true → Q e) → All (λ i. Q i.entry) items
  each-item [] h = All-nil (λ i. Q i.entry)
  each-item (i ∷ items) h =
      let rest : List E = map (λ j. j.entry) items in
      All-cons (λ j. Q j.entry) i items (h i.entry (or_left (eq i.entry i.entry) (is_in eq i.entry rest) (laws.refl i.entry)))
      (each-item items (λ e within. h e (or_right (eq e i.entry) (is_in eq e rest) within)))

  pub each-cite : (cites : List (CiteRender E P)) → ((e : E) → is_in eq e (cited_finally cites) ≡ true → Q e) → All (λ c. All (λ i. Q i.entry) c.items) cites
  each-cite [] h = All-nil (λ c. All (λ i. Q i.entry) c.items)
  each-cite (c ∷ cs) h =
      let own : List E = map (λ i. i.entry) c.items in
      let rest : List E = cited_finally cs in
      All-cons (λ d. All (λ i. Q i.entry) d.items) c cs
      (each-item c.items (λ e within. h e (is_in-append eq laws e own rest ∙ or_left (is_in eq e own) (is_in eq e rest) within)))
      (each-cite cs (λ e within. h e (is_in-append eq laws e own rest ∙ or_right (is_in eq e own) (is_in eq e rest) within)))

module _ {E P : Type 0} (eq : E → E → Bool) (payload_eq : P → P → Bool) where
  -- it matters only which numbers the entries have that are cited
  module _ (f g : E → ℕ) where
    abbrev Agree : ItemRender E P → Type 0
    Agree i = f i.entry ≡ g i.entry

    items-agree : (before : ℕ → List (ItemRender E P)) (n : ℕ) (items : List (ItemRender E P)) → All Agree items
        → map (λ p. with_final eq payload_eq f (before p.0) p.1) (enumerate_from n items) ≡ map (λ p. with_final eq payload_eq g (before p.0) p.1) (enumerate_from n items)
    items-agree before n [] h = refl
    items-agree before n (i ∷ items) h =
        let same : f i.entry ≡ g i.entry = All-head Agree i items h in
        λ j. record i { properties = placed_finally (final_position eq payload_eq (before n) i) (same j) i.properties }
        ∷ items-agree before (n + 1) items (All-tail Agree i items h) j

    cites-agree : (all : List (CiteRender E P)) (n : ℕ) (cites : List (CiteRender E P)) → All (λ c. All Agree c.items) cites
        → map (λ p. record p.1 { items = with_final_items eq payload_eq f (items_before all p.0) p.1.items }) (enumerate_from n cites)
        ≡ map (λ p. record p.1 { items = with_final_items eq payload_eq g (items_before all p.0) p.1.items }) (enumerate_from n cites)
    cites-agree all n [] h = refl
    cites-agree all n (c ∷ cs) h =
        let same = items-agree (λ k. items_before all n ++ take k c.items) 0 c.items (All-head (λ d. All Agree d.items) c cs h) in
        λ j. record c { items = same j } ∷ cites-agree all (n + 1) cs (All-tail (λ d. All Agree d.items) c cs h) j

    pub final-agree : (cites : List (CiteRender E P)) → All (λ c. All Agree c.items) cites → with_final_properties eq payload_eq f cites ≡ with_final_properties eq payload_eq g cites
    final-agree cites h = cites-agree cites 0 cites h

  module _ (number_of : E → ℕ) where
    abbrev IsNumbered : ItemRender E P → Type 0
    IsNumbered i = i.properties.speculative.citation_number ≡ number_of i.entry

    abbrev AreNumbered : CiteRender E P → Type 0
    AreNumbered c = All IsNumbered c.items

    -- with their final properties cites are numbered
    changed-all : {X : Type 0} (R : X → Type 0) (h : ℕ → X → X) → ((k : ℕ) (x : X) → R (h k x)) → (n : ℕ) (xs : List X) → All R (map (λ p. h p.0 p.1) (enumerate_from n xs))
    changed-all R h holds n [] = All-nil R
    changed-all R h holds n (x ∷ xs) = All-cons R (h n x) (map (λ p. h p.0 p.1) (enumerate_from (n + 1) xs)) (holds n x) (changed-all R h holds (n + 1) xs)

    settled-numbered : (cites : List (CiteRender E P)) → All AreNumbered (with_final_properties eq payload_eq number_of cites)
    settled-numbered cites =
        changed-all AreNumbered (λ k c. record c { items = with_final_items eq payload_eq number_of (items_before cites k) c.items })
        (λ k c. changed-all IsNumbered (λ j i. with_final eq payload_eq number_of (items_before cites k ++ take j c.items) i) (λ j i. refl) 0 c.items) 0 cites

    -- and collapsing keeps the numbers
    items-keep : (items drawn : List (ItemRender E P)) → map uncollapsed drawn ≡ map uncollapsed items → All IsNumbered items → All IsNumbered drawn
    items-keep items [] same h = All-nil IsNumbered
    items-keep [] (d ∷ drawn) same h = cc
    items-keep (i ∷ items) (d ∷ drawn) same h =
        let first : uncollapsed i ≡ uncollapsed d = cc in
        let rest : map uncollapsed drawn ≡ map uncollapsed items = cc in
        All-cons IsNumbered d drawn (subst IsNumbered first (All-head IsNumbered i items h)) (items-keep items drawn rest (All-tail IsNumbered i items h))

    drawn-keep : (settled drawn : List (CiteRender E P)) → AllZip IsReadBack settled drawn → All AreNumbered settled → All IsNumbered (items_finally drawn)
    drawn-keep [] [] runs h = All-nil IsNumbered
    drawn-keep [] (d ∷ ds) runs h = absurd runs
    drawn-keep (c ∷ cs) [] runs h = absurd runs
    drawn-keep (c ∷ cs) (d ∷ ds) runs h =
        All-append IsNumbered d.items (items_finally ds) (items-keep c.items d.items runs.0.same_cites (All-head AreNumbered c cs h)) (drawn-keep cs ds runs.1 (All-tail AreNumbered c cs h))

    pub drawn-numbered : (cites drawn : List (CiteRender E P)) → AllZip IsReadBack (with_final_properties eq payload_eq number_of cites) drawn → All IsNumbered (items_finally drawn)
    drawn-numbered cites drawn runs = drawn-keep (with_final_properties eq payload_eq number_of cites) drawn runs (settled-numbered cites)
