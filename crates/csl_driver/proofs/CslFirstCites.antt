-- The first cites of the bibliography's entries, each with the means of its item.
use Rattle.std.proofs.Common.{◌≡◌, ℕ, suc, ◌+◌, ◌<◌, Bool, true, List, [], ◌∷◌, ◌++◌, Option, Some, None, length, map, take, get_or, refl, ap, sym, ◌∙◌, arith}
use Rattle.std.specs.Prelude.{option_map}
use Rattle.std.specs.Cmp.{IsEquivalence}
use Rattle.std.specs.List.{cons_option, enumerate_from, filter_map, zip}
use Rattle.std.proofs.lemmas.Bool.{or_right}
use Rattle.std.proofs.lemmas.List.{append-nil}
use Rattle.std.proofs.lemmas.List.Elements.{filter_map-append}
use Rattle.driver_assembly.specs.ByMeans.{cite_with_means, cites_with_means}
use Rattle.driver_assembly.specs.declared.by_means.ItemMeans.{ItemMeans}
use Rattle.driver_assembly.proofs.Paired.{twice}
use Rattle.driver_entries.specs.Entries.{is_in, place}
use Rattle.driver_passes.specs.Places.{cite_at}
use Rattle.driver_passes.specs.Renders.{CiteRender, ItemRender, Place}
use Rattle.driver_passes.specs.Request.{Request}
use Rattle.driver_positions.specs.FinalProperties.{AreFirstItems, first_item}
use Rattle.csl_driver.specs.CslAnswer.{listed_cites}
use Rattle.csl_driver.proofs.ByIndex.{numbered-more}
use Rattle.csl_driver.proofs.FirstCites.{cite-item, first_of, none-first, own-first, some-first}

-- one pair more of two lists that are as long
zip-push : {A B : Type 0} (xs : List A) (ys : List B) (x : A) (y : B) → length ys ≡ length xs → zip (xs ++ x ∷ []) (ys ++ y ∷ []) ≡ zip xs ys ++ (x, y) ∷ []
zip-push [] [] x y long = refl
zip-push [] (b ∷ ys) x y long = absurd (omega (arith, long))
zip-push (a ∷ xs) [] x y long = absurd (omega (arith, long))
zip-push (a ∷ xs) (b ∷ ys) x y long = ap (λ l. (a, b) ∷ l) (zip-push xs ys x y (omega (arith, long)))

pushed : {A : Type 0} (xs : List A) (x : A) → length (xs ++ x ∷ []) ≡ suc (length xs)
pushed [] x = refl
pushed (y ∷ xs) x = ap suc (pushed xs x)

-- they stay as long where each gets one member more
pub as-long-more : {A B : Type 0} (xs : List A) (ys : List B) (x : A) (y : B) {more : List A} {now : List B} → length ys ≡ length xs → more ≡ xs ++ x ∷ [] → now ≡ ys ++ y ∷ [] → length now ≡ length more
as-long-more xs ys x y long grown told = ap length told ∙ pushed ys y ∙ ap suc long ∙ sym (pushed xs x) ∙ sym (ap length grown)

module _ {E P : Type 0} (eq : E → E → Bool) (entries : List E) (cites : List (CiteRender E P)) (means : ℕ → ItemMeans) where
  -- the first cite of the entry at a place of the table, with the means at an index
  abbrev pub first_with_means : ℕ × ℕ → Option (ItemRender E P × ItemMeans)
  first_with_means p = option_map (λ i. (i, means p.0)) (first_of eq entries cites p.1)

  -- those of entries, by their places in the order of their indexes
  abbrev pub firsts_with_means : List ℕ → List (ItemRender E P × ItemMeans)
  firsts_with_means order = filter_map first_with_means (enumerate_from 0 order)

  module _ (order : List ℕ) (k : ℕ) (places : List Place) (made : List ItemMeans) (found : cites_with_means cites places made ≡ firsts_with_means (take k order))
      (p : ℕ) (next : k < length order) (here : p ≡ get_or order k p) (firsts : List (Option Place)) (are : AreFirstItems eq entries cites firsts) (within : p < length firsts) where
    one-more : firsts_with_means (take (k + 1) order) ≡ firsts_with_means (take k order) ++ cons_option (first_with_means (k, p)) []
    one-more = ap (filter_map first_with_means) (numbered-more order k p next here) ∙ filter_map-append first_with_means (enumerate_from 0 (take k order)) ((k, p) ∷ [])

    -- an entry that no cite cites
    pub means-same : None ≡ get_or firsts p None → cites_with_means cites places made ≡ firsts_with_means (take (k + 1) order)
    means-same none =
        found ∙ sym (append-nil (firsts_with_means (take k order)))
        ∙ ap (λ o. firsts_with_means (take k order) ++ cons_option (option_map {U = ItemRender E P × ItemMeans} (λ i. (i, means k)) o) []) (sym (none-first eq entries cites firsts are p within none))
        ∙ sym one-more

    -- an entry with its first cite, and its means
    pub means-more : (at : Place) (more : List Place) (now : List ItemMeans) → length made ≡ length places → Some at ≡ get_or firsts p (Some at)
        → more ≡ places ++ at ∷ [] → now ≡ made ++ means k ∷ [] → cites_with_means cites more now ≡ firsts_with_means (take (k + 1) order)
    means-more at more now long some grown told =
        let there = some-first eq entries cites firsts are p within at some in
        let one : cite_with_means cites (at, means k) ≡ Some (there.0, means k) =
        sym (twice (cite_at cites at) (λ (c : Request E P × ItemRender E P). c.1) (means k)) ∙ ap (option_map {U = ItemRender E P × ItemMeans} (λ i. (i, means k))) (cite-item eq entries cites at ∙ there.1) in
        (λ i. cites_with_means cites (grown i) (told i))
        ∙ ap (filter_map (cite_with_means cites)) (zip-push places made at (means k) long)
        ∙ filter_map-append (cite_with_means cites) (zip places made) ((at, means k) ∷ [])
        ∙ (λ i. found i ++ cons_option (one i) [])
        ∙ ap (λ o. firsts_with_means (take k order) ++ cons_option (option_map {U = ItemRender E P × ItemMeans} (λ i. (i, means k)) o) []) (sym there.2)
        ∙ sym one-more

  module _ (laws : IsEquivalence eq) where
    from : (n : ℕ) (order : List E) → ((e : E) → is_in eq e order ≡ true → is_in eq e entries ≡ true)
        → filter_map first_with_means (enumerate_from n (map (λ e. place eq e entries) order)) ≡ filter_map (λ p. option_map {U = ItemRender E P × ItemMeans} (λ i. (i, means p.0)) (first_item eq cites p.1)) (enumerate_from n order)
    from n [] h = refl
    from n (e ∷ order) h =
        let own : is_in eq e (e ∷ order) ≡ true = rw (laws.refl e) refl in
        let first = own-first eq entries cites laws e (h e own) in
        λ i. cons_option (option_map {U = ItemRender E P × ItemMeans} (λ r. (r, means n)) (first i)) (from (n + 1) order (λ d inside. h d (or_right (eq d e) (is_in eq d order) inside)) i)

    -- those of entries that are listed by their places
    pub listed-by-places : (order : List E) → ((e : E) → is_in eq e order ≡ true → is_in eq e entries ≡ true)
        → firsts_with_means (map (λ e. place eq e entries) order) ≡ listed_cites eq means cites order
    listed-by-places = from 0
