-- Each entry of the bibliography has a first cite.
use Rattle.std.proofs.Common.{◌≡◌, ℕ, suc, ◌+◌, Bool, true, false, cond, ◌||◌, List, [], ◌∷◌, ◌++◌, Option, Some, None, length, map, refl, ap, sym, ◌∙◌}
use Rattle.std.specs.Prelude.{All, find, is_some, option_map}
use Rattle.std.specs.Cmp.{IsEquivalence}
use Rattle.std.specs.List.{cons_option, enumerate_from, filter_map}
use Rattle.std.proofs.lemmas.List.{map-append}
use Rattle.std.proofs.lemmas.List.Elements.{All-cons, All-head, All-nil, All-tail}
use Rattle.driver_assembly.specs.declared.by_means.ItemMeans.{ItemMeans}
use Rattle.csl_driver.specs.AreCitesOf.{AreCitesOf}
use Rattle.csl_driver.specs.CslAnswer.{listed_cites}
use Rattle.driver_entries.specs.Entries.{bibliography_order, is_in}
use Rattle.driver_entries.specs.Table.{Table, table_of}
use Rattle.driver_entries.proofs.Distinct.{is_in-distinct}
use Rattle.driver_entries.proofs.ListedPlaces.{all-cited}
use Rattle.driver_entries.proofs.Once.{holds_each_once}
use Rattle.driver_entries.proofs.Placing.{all_in, left, right}
use Rattle.driver_passes.specs.Renders.{CiteRender, ItemRender}
use Rattle.driver_passes.specs.Request.{Request, cited}
use Rattle.driver_positions.specs.FinalProperties.{cited_finally, first_item, items_finally}

-- where each member gives one, there are as many
all-found : {A B : Type 0} (f : A → Option B) (xs : List A) → All (λ x. is_some (f x) ≡ true) xs → length (filter_map f xs) ≡ length xs
all-found f [] h = refl
all-found {A} {B} f (x ∷ xs) h = by (f x) (All-head (λ x. is_some (f x) ≡ true) x xs h) (all-found f xs (All-tail (λ x. is_some (f x) ≡ true) x xs h))
  where
    by : (o : Option B) → is_some o ≡ true → length (filter_map f xs) ≡ length xs → length (cons_option o (filter_map f xs)) ≡ suc (length xs)
    by None e more = cc
    by (Some y) e more = ap suc more

-- the same, each with what its number gives
numbered-found : {A B C : Type 0} (f : A → Option B) (g : ℕ → B → C) (n : ℕ) (xs : List A) → All (λ x. is_some (f x) ≡ true) xs
    → length (filter_map (λ p. option_map (g p.0) (f p.1)) (enumerate_from n xs)) ≡ length xs
numbered-found f g n [] h = refl
numbered-found {A} {B} {C} f g n (x ∷ xs) h = by (f x) (All-head (λ x. is_some (f x) ≡ true) x xs h) (numbered-found f g (n + 1) xs (All-tail (λ x. is_some (f x) ≡ true) x xs h))
  where
    rest : List C
    rest = filter_map (λ p. option_map (g p.0) (f p.1)) (enumerate_from (n + 1) xs)

    by : (o : Option B) → is_some o ≡ true → length rest ≡ length xs → length (cons_option (option_map (g n) o) rest) ≡ suc (length xs)
    by None e more = cc
    by (Some y) e more = ap suc more

module _ {E P : Type 0} (eq : E → E → Bool) where
  find-in : (e : E) (items : List (ItemRender E P)) → is_some (find (λ i. eq e i.entry) items) ≡ is_in eq e (map (λ i. i.entry) items)
  find-in e [] = refl
  find-in e (i ∷ items) = by (eq e i.entry) (find-in e items)
    where
      by : (b : Bool) → is_some (find (λ i. eq e i.entry) items) ≡ is_in eq e (map (λ i. i.entry) items)
          → is_some (cond b (Some i) (find (λ i. eq e i.entry) items)) ≡ (b || is_in eq e (map (λ i. i.entry) items))
      by true more = refl
      by false more = more

  entries-joined : (cites : List (CiteRender E P)) → map (λ i. i.entry) (items_finally cites) ≡ cited_finally cites
  entries-joined [] = refl
  entries-joined (c ∷ cs) = map-append (λ i. i.entry) c.items (items_finally cs) ∙ ap (λ l. map (λ i. i.entry) c.items ++ l) (entries-joined cs)

  module _ (laws : IsEquivalence eq) (cites : List (CiteRender E P)) where
    each-found : (order xs : List E) → ((e : E) → is_in eq e order ≡ is_in eq e (cited_finally cites)) → all_in eq laws order xs ≡ true → All (λ e. is_some (first_item eq cites e) ≡ true) xs
    each-found order [] same h = All-nil (λ e. is_some (first_item eq cites e) ≡ true)
    each-found order (x ∷ xs) same h =
        All-cons (λ e. is_some (first_item eq cites e) ≡ true) x xs
        (find-in x (items_finally cites) ∙ ap (is_in eq x) (entries-joined cites) ∙ sym (same x) ∙ left (is_in eq x order) (all_in eq laws order xs) h)
        (each-found order xs same (right (is_in eq x order) (all_in eq laws order xs) h))

    module _ (requests : List (Request E P)) (order : Option (List E)) (table : Table E) (is : table ≡ table_of eq requests) (are : AreCitesOf eq table requests cites) where
      abbrev listed : List E
      listed = bibliography_order eq order (cited requests)

      -- each entry has a first cite
      pub firsts-found : All (λ e. is_some (first_item eq cites e) ≡ true) listed
      firsts-found =
          each-found listed listed
          (λ e. (holds_each_once eq laws order (cited requests)).same e ∙ sym (is_in-distinct eq laws e (cited requests)) ∙ sym (ap (λ (t : Table E). is_in eq e t.entries) is) ∙ sym (are.same e))
          (all-cited eq laws listed listed (λ e. refl))

      -- there are as many first cites as entries
      pub firsts-counted : length (filter_map (first_item eq cites) listed) ≡ length listed
      firsts-counted = all-found (first_item eq cites) listed firsts-found

      -- the same, each with means
      pub means-counted : (means : ℕ → ItemMeans) → length (listed_cites eq means cites listed) ≡ length listed
      means-counted means = numbered-found (first_item eq cites) (λ k i. (i, means k)) 0 listed firsts-found
