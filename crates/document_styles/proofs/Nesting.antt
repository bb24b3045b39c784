-- Parts of a value nest less deep than the value, and forms that agree on parts agree on the whole.
use Rattle.std.proofs.Common.{◌≡◌, ℕ, zero, suc, ◌+◌, ◌-◌, ◌<◌, ◌≤◌, max, length, get_or, List, [], ◌∷◌, Bool, true, false, cond, Option, Some, None, option_and_then, refl, ap, ◌∙◌, arith}
use Rattle.std.specs.Prelude.{codes, nat_eq}
use Rattle.std.specs.Ordering.{nat_cmp, match_ordering}
use Rattle.std.specs.Cmp.Lexicographic.{slice_cmp, pointwise}
use Rattle.std.specs.declared.cmp.Ordering.{Ordering}
use Rattle.std.specs.declared.cmp.Ordering.TheVariants.{Less, Equal, Greater}
use Rattle.serde_json.specs.Data.{Data, null, boolean, number, string, array, object, Items, no_items, item, Members, no_members, member, depth, items_depth, members_depth}
use Rattle.serde_json.specs.Find.{get, get_member, as_array, as_str}
use Rattle.serde_json.specs.View.{view, items_view}
use Rattle.serde_json.specs.declared.value.Value.{Value}
use Rattle.value_styles.specs.Element.{Element, choose_element, branches_of, elements_of}
use Rattle.document_values.specs.Words.{has_only, object_with, required, optional, or_default, all_items, items_of_key, optional_items}
use Rattle.document_styles.specs.Elements.{group_keys, branch_keys, choose_keys, text_form, number_form, date_form, names_form, group_form, branch_form, choose_form, kind_form, element_over, element_within, element_form, ElementsNest}

-- ---- parts nest less deep

member_within : (k : List ℕ) (ms : Members) (e : Data) → get_member k ms ≡ Some e → depth e ≤ members_depth ms
member_within k no_members e q = cc
member_within k (member l d ms) e q = by (slice_cmp nat_cmp k l) (λ p. member_within k ms e p) q
  where
    by : (o : Ordering) → (get_member k ms ≡ Some e → depth e ≤ members_depth ms) → match_ordering o (get_member k ms) (Some d) (get_member k ms) ≡ Some e → depth e ≤ max (depth d) (members_depth ms)
    by Less rest p = let h = rest p in omega (arith, h)
    by Equal rest p = let same : d ≡ e = cc in omega (arith, ap depth same)
    by Greater rest p = let h = rest p in omega (arith, h)

get_within : (k : List ℕ) (d e : Data) → get k d ≡ Some e → depth e < depth d
get_within k null e q = cc
get_within k (boolean b) e q = cc
get_within k (number n) e q = cc
get_within k (string s) e q = cc
get_within k (array ds) e q = cc
get_within k (object ms) e q = let h = member_within k ms e q in omega (arith, h)

array_within : (d : Data) (ds : Items) → as_array d ≡ Some ds → items_depth ds < depth d
array_within null ds q = cc
array_within (boolean b) ds q = cc
array_within (number n) ds q = cc
array_within (string s) ds q = cc
array_within (array es) ds q = let same : es ≡ ds = cc in omega (arith, ap items_depth same)
array_within (object ms) ds q = cc

-- a list under a key
pub list_within : (k : List ℕ) (d : Data) (ds : Items) → required as_array k d ≡ Some ds → items_depth ds < depth d
list_within k d ds q = by (get k d) refl q
  where
    by : (o : Option Data) → get k d ≡ o → option_and_then as_array o ≡ Some ds → items_depth ds < depth d
    by None p r = cc
    by (Some e) p r = let h = get_within k d e p in let j = array_within e ds r in omega (arith, h, j)

-- a list under a key, or none
optional_within : (k : List ℕ) (d : Data) (ds : Items) → 0 < depth d → optional no_items as_array k d ≡ Some ds → items_depth ds < depth d
optional_within k d ds n q = by (get k d) refl q
  where
    by : (o : Option Data) → get k d ≡ o → or_default no_items as_array o ≡ Some ds → items_depth ds < depth d
    by None p r = let same : no_items ≡ ds = cc in omega (arith, n, ap items_depth same)
    by (Some e) p r = let h = get_within k d e p in let j = array_within e ds r in omega (arith, h, j)

-- an item of a list
pub item_within : (vs : List Value) (k : ℕ) (v : Value) → k < length vs → v ≡ get_or vs k v → depth (view v) ≤ items_depth (items_view vs)
item_within [] k v h e = absurd (omega arith)
item_within (w ∷ vs) zero v h e = omega (arith, ap (λ u. depth (view u)) e)
item_within (w ∷ vs) (suc k) v h e = let j = item_within vs k v (omega arith) e in omega (arith, j)

same_object : (keys : List (List ℕ)) (d o : Data) → object_with keys d ≡ Some o → d ≡ o
same_object keys d o q = by (has_only keys d) q
  where
    by : (b : Bool) → cond b (Some d) None ≡ Some o → d ≡ o
    by true p = cc
    by false p = cc

-- what has keys is an object
nested : (keys : List (List ℕ)) (d o : Data) → object_with keys d ≡ Some o → 0 < depth d
nested keys null o q = cc
nested keys (boolean b) o q = cc
nested keys (number n) o q = cc
nested keys (string s) o q = cc
nested keys (array ds) o q = cc
nested keys (object ms) o q = omega arith

-- a list under a key of an object of these keys
pub list_inside : (keys : List (List ℕ)) (k : List ℕ) (d o : Data) (ds : Items) → object_with keys d ≡ Some o → required as_array k o ≡ Some ds → items_depth ds < depth d
list_inside keys k d o ds p q = let h = list_within k o ds q in omega (arith, h, ap depth (same_object keys d o p))

-- the same, or none
pub optional_inside : (keys : List (List ℕ)) (k : List ℕ) (d o : Data) (ds : Items) → object_with keys d ≡ Some o → optional no_items as_array k o ≡ Some ds → items_depth ds < depth d
optional_inside keys k d o ds p q =
    let same = ap depth (same_object keys d o p) in
    let j = nested keys d o p in
    let h = optional_within k o ds (omega (arith, j, same)) q in
    omega (arith, h, same)

-- ---- forms that agree on parts

bind_agrees : {A B : Type 0} (F G : A → Option B) (o : Option A) → ((a : A) → o ≡ Some a → F a ≡ G a) → option_and_then F o ≡ option_and_then G o
bind_agrees F G None h = refl
bind_agrees F G (Some a) h = h a refl

items_agree : {X : Type 0} (F G : Data → Option X) (ds : Items) → ((e : Data) → depth e ≤ items_depth ds → F e ≡ G e) → all_items F ds ≡ all_items G ds
items_agree F G no_items h = refl
items_agree {X} F G (item d ds) h =
    let one : F d ≡ G d = h d (omega arith) in
    let rest : all_items F ds ≡ all_items G ds = items_agree F G ds (λ e k. h e (omega (arith, k))) in
    λ i. option_and_then (λ x. option_and_then (λ xs. Some (x ∷ xs)) (rest i)) (one i)

module _ {X : Type 0} (F G : Data → Option X) where
  -- on all that nests less deep than n
  abbrev pub AgreeBelow : ℕ → Type 0
  AgreeBelow n = (e : Data) → depth e < n → F e ≡ G e

  items_at_agree : (k : List ℕ) (d : Data) → AgreeBelow (depth d) → items_of_key F k d ≡ items_of_key G k d
  items_at_agree k d agree =
      bind_agrees (all_items F) (all_items G) (required as_array k d)
      (λ ds q. let within = list_within k d ds q in items_agree F G ds (λ e j. agree e (omega (arith, within, j))))

  optional_items_agree : (k : List ℕ) (d : Data) → AgreeBelow (depth d) → optional_items F k d ≡ optional_items G k d
  optional_items_agree k d agree = by (get k d) (get_within k d)
    where
      by : (o : Option Data) → ((e : Data) → o ≡ Some e → depth e < depth d) → option_and_then (all_items F) (or_default no_items as_array o) ≡ option_and_then (all_items G) (or_default no_items as_array o)
      by None h = refl
      by (Some e) h =
          bind_agrees (all_items F) (all_items G) (as_array e)
          (λ ds q. let within = array_within e ds q in let here = h e refl in items_agree F G ds (λ c j. agree c (omega (arith, within, here, j))))

-- an object is the value itself
in_object : {Y : Type 0} (K L : Data → Option Y) (keys : List (List ℕ)) (d : Data) → K d ≡ L d → option_and_then K (object_with keys d) ≡ option_and_then L (object_with keys d)
in_object {Y} K L keys d h = by (has_only keys d)
  where
    by : (b : Bool) → option_and_then K (cond b (Some d) None) ≡ option_and_then L (cond b (Some d) None)
    by true = h
    by false = refl

-- an object of these keys, the list under one of them, and what is made of both
pub list_agrees : {X Y : Type 0} (F G : Data → Option X) (keys : List (List ℕ)) (k : List ℕ) (d : Data) (K L : Data → List X → Option Y)
    → AgreeBelow F G (depth d) → ((xs : List X) → K d xs ≡ L d xs)
    → option_and_then (λ o. option_and_then (K o) (items_of_key F k o)) (object_with keys d)
    ≡ option_and_then (λ o. option_and_then (L o) (items_of_key G k o)) (object_with keys d)
list_agrees F G keys k d K L agree rest =
    in_object (λ o. option_and_then (K o) (items_of_key F k o)) (λ o. option_and_then (L o) (items_of_key G k o)) keys d
    (ap (option_and_then (K d)) (items_at_agree F G k d agree) ∙ bind_agrees (K d) (L d) (items_of_key G k d) (λ xs q. rest xs))

module _ (f g : Data → Option Element) where
  group_agrees : (d : Data) → AgreeBelow f g (depth d) → group_form f d ≡ group_form g d
  unfolding group_form
  group_agrees d agree = list_agrees f g group_keys (codes "children") d _ _ agree (λ xs. refl)

  branch_agrees : (d : Data) → AgreeBelow f g (depth d) → branch_form f d ≡ branch_form g d
  unfolding branch_form
  branch_agrees d agree = list_agrees f g branch_keys (codes "children") d _ _ agree (λ xs. refl)

  choose_agrees : (d : Data) → AgreeBelow f g (depth d) → choose_form f d ≡ choose_form g d
  unfolding choose_form
  choose_agrees d agree =
      list_agrees (branch_form f) (branch_form g) choose_keys (codes "branches") d _ _
      (λ e h. branch_agrees e (λ c j. agree c (omega (arith, h, j))))
      (λ branches. λ i. option_and_then (λ last. Some (choose_element (branches_of branches (elements_of last)))) (optional_items_agree f g (codes "else") d agree i))

  kind_agrees : (kind : List ℕ) (d : Data) → AgreeBelow f g (depth d) → kind_form f kind d ≡ kind_form g kind d
  kind_agrees kind d agree =
      let a = group_agrees d agree in
      let b = choose_agrees d agree in
      λ i. cond (pointwise nat_eq kind (codes "text")) (text_form d) (cond (pointwise nat_eq kind (codes "number")) (number_form d)
      (cond (pointwise nat_eq kind (codes "date")) (date_form d) (cond (pointwise nat_eq kind (codes "names")) (names_form d)
      (cond (pointwise nat_eq kind (codes "group")) (a i) (cond (pointwise nat_eq kind (codes "choose")) (b i) None)))))

  over_agrees : (d : Data) → AgreeBelow f g (depth d) → element_over f d ≡ element_over g d
  over_agrees d agree = λ i. option_and_then (λ kind. kind_agrees kind d agree i) (required as_str (codes "kind") d)

-- ---- no bound matters

enough : (n k : ℕ) (d : Data) → depth d < n → element_within (n + k) d ≡ element_within n d
enough zero k d h = absurd (omega (arith, h))
enough (suc n) k d h =
    let next : suc n + k ≡ suc (n + k) = omega arith in
    ap (λ j. element_within j d) next
    ∙ over_agrees (element_within (n + k)) (element_within n) d (λ e j. enough n k e (omega (arith, h, j)))

bound_unfelt : (n : ℕ) (d : Data) → depth d < n → element_within n d ≡ element_form d
unfolding element_form
bound_unfelt n d h =
    let sum : n ≡ suc (depth d) + (n - suc (depth d)) = omega (arith, h) in
    ap (λ j. element_within j d) sum ∙ enough (suc (depth d)) (n - suc (depth d)) d (omega arith)

opened : (d : Data) → element_form d ≡ element_over (element_within (depth d)) d
unfolding element_form
opened d = refl

pub elements_nest : ElementsNest
elements_nest d = opened d ∙ over_agrees (element_within (depth d)) element_form d (λ e j. bound_unfelt (depth d) e j)
