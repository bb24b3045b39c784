-- One step down to the first child that holds names.
use Rattle.std.proofs.Common.{◌≡◌, ℕ, suc, ◌+◌, ◌<◌, ◌≤◌, List, [], ◌∷◌, length, get_or, Option, None, Some, true, false, not, cond, is_some, refl, sym, ap, ◌∙◌, arith, inl, inr, true≢false}
use Rattle.std.proofs.Math.ListN.{set}
use Rattle.std.specs.Option.{option_or, option_and_then, option_map_or, unwrap_or}
use Rattle.std.proofs.lemmas.Bool.{cases_Bool, cases_lt, not-true, not-false}
use Rattle.std.proofs.lemmas.List.{map-set, set-get_or}
use Rattle.std.proofs.lemmas.List.Folds.{find_at}
use Rattle.std.proofs.lemmas.Option.{get_or_from_slice_get}
use Rattle.value_trees.specs.Child.{Child, text, elem, markup, link, transparent, kid, kids_of, list_of, kids_of-list_of, list_of-kids_of}
use Rattle.value_trees.specs.ChildView.{child_view, child_nodes, nodes}
use Rattle.value_trees.specs.Tree.{elem_of, has_names, find_elem, child_find, kids_find}
use Rattle.value_trees.specs.Nested.{inner, put_inner, with_children, child_is_elem}
use Rattle.value_trees.specs.FirstNames.{holds_names, put_names, child_put_names, kids_put_names, as_child}
use Rattle.value_trees.specs.FirstNamesStep.{elem_without_names, first_holder, names_lie_deeper, put_holder, put_holder_child, own_elem, put_own_elem, holder_elem, put_holder_elem, holder_index, with_elem}
use Rattle.value_trees.specs.declared.elem.Elem.{Elem}
use Rattle.value_trees.specs.declared.elem.ElemChild.{ElemChild}
use Rattle.value_trees.specs.declared.elem.ElemChild.TheVariants as v
use Rattle.value_trees.proofs.FirstPlace.{seen, found_none, found_at}
use Rattle.value_trees.proofs.Nested.{with_children-view, put_inner-same, inner_falls, one_before}

pub without_names-is_elem : (c : Child) → elem_without_names c ≡ true → child_is_elem c ≡ true
without_names-is_elem (elem ks d m) e = refl
without_names-is_elem (text f) e = cc
without_names-is_elem (markup s) e = cc
without_names-is_elem (link f s) e = cc
without_names-is_elem (transparent i f) e = cc

child_find-down : (c : Child) → elem_without_names c ≡ true → find_elem has_names (inner c) ≡ child_find has_names c
child_find-down (elem ks d m) e = ap (kids_find has_names) (kids_of-list_of ks) ∙ sym (ap (λ b. cond b (Some (elem_of ks d m)) (kids_find has_names ks)) (not-true (has_names (elem_of ks d m)) e))
child_find-down (text f) e = cc
child_find-down (markup s) e = cc
child_find-down (link f s) e = cc
child_find-down (transparent i f) e = cc

child_put-down : (c : Child) (w : Elem) → elem_without_names c ≡ true → put_inner c (put_names (inner c) w) ≡ child_put_names c w
child_put-down (elem ks d m) w e =
    ap (λ ls. elem ls d m) (kids_of-list_of (kids_put_names (kids_of (list_of ks)) w) ∙ ap (λ ls. kids_put_names ls w) (kids_of-list_of ks))
    ∙ sym (ap (λ b. cond b (as_child w) (elem (kids_put_names ks w) d m)) (not-true (has_names (elem_of ks d m)) e))
child_put-down (text f) w e = cc
child_put-down (markup s) w e = cc
child_put-down (link f s) w e = cc
child_put-down (transparent i f) w e = cc

child_find-here : (c : Child) → holds_names c ≡ true → elem_without_names c ≡ false → own_elem c ≡ child_find has_names c
child_find-here (elem ks d m) h e = sym (ap (λ b. cond b (Some (elem_of ks d m)) (kids_find has_names ks)) (not-false (has_names (elem_of ks d m)) e))
child_find-here (text f) h e = cc
child_find-here (markup s) h e = cc
child_find-here (link f s) h e = cc
child_find-here (transparent i f) h e = cc

child_put-here : (c : Child) (w : Elem) → elem_without_names c ≡ false → put_own_elem c w ≡ child_put_names c w
child_put-here (elem ks d m) w e = sym (ap (λ b. cond b (as_child w) (elem (kids_put_names ks w) d m)) (not-false (has_names (elem_of ks d m)) e))
child_put-here (text f) w e = refl
child_put-here (markup s) w e = refl
child_put-here (link f s) w e = refl
child_put-here (transparent i f) w e = refl

with_elem-view : (x : ElemChild) (w : Elem) → child_view (with_elem x w) ≡ put_own_elem (child_view x) w
with_elem-view (v.Text f) w = refl
with_elem-view (v.Elem e) w = refl
with_elem-view (v.Markup s) w = refl
with_elem-view (v.Link f s) w = refl
with_elem-view (v.Transparent i f) w = refl

-- ---- the first holder decides
or_first : {Y : Type 0} (a b : Option Y) → is_some a ≡ true → option_or a b ≡ a
or_first None b h = cc
or_first (Some x) b h = refl

pub or_next : {Y : Type 0} (a b : Option Y) → is_some a ≡ false → option_or a b ≡ b
or_next None b h = refl
or_next (Some x) b h = cc

set-past : (c : Child) (cs : List Child) (n : ℕ) (d : Child) → set (c ∷ cs) (1 + n) d ≡ c ∷ set cs n d
set-past c cs n d = let e : 1 + n ≡ suc n = omega arith in ap (λ k. set (c ∷ cs) k d) e

find-holder : (cs : List Child) → find_elem has_names cs ≡ option_and_then (child_find has_names) (first_holder cs)
find-holder [] = refl
find-holder (c ∷ cs) = elim (cases_Bool (holds_names c)) [
  | inl h ↦ or_first (child_find has_names c) (find_elem has_names cs) h ∙ sym (ap (λ b. option_and_then (child_find has_names) (cond b (Some c) (first_holder cs))) h)
  | inr h ↦ or_next (child_find has_names c) (find_elem has_names cs) h ∙ find-holder cs ∙ sym (ap (λ b. option_and_then (child_find has_names) (cond b (Some c) (first_holder cs))) h)
]

put-holder : (cs : List Child) (w : Elem) → put_names cs w ≡ option_map_or (λ c. put_holder cs (child_put_names c w)) (first_holder cs) cs
put-holder [] w = refl
put-holder (c ∷ cs) w = elim (cases_Bool (holds_names c)) [
  | inl h ↦ ap (λ b. list_of (cond b (kid (child_put_names c w) (kids_of cs)) (kid c (kids_put_names (kids_of cs) w)))) h
      ∙ ap (λ ds. child_put_names c w ∷ ds) (list_of-kids_of cs)
      ∙ sym (ap (λ b. option_map_or (λ d. set (c ∷ cs) (cond (not b) (1 + holder_index cs) 0) (child_put_names d w)) (cond b (Some c) (first_holder cs)) (c ∷ cs)) h)
  | inr h ↦ ap (λ b. list_of (cond b (kid (child_put_names c w) (kids_of cs)) (kid c (kids_put_names (kids_of cs) w)))) h
      ∙ ap (λ ds. c ∷ ds) (put-holder cs w)
      ∙ sym (one_before c cs (λ d. put_holder cs (child_put_names d w)) (first_holder cs))
      ∙ sym (ap (λ f. option_map_or f (first_holder cs) (c ∷ cs)) (λ i d. set-past c cs (holder_index cs) (child_put_names d w) i))
      ∙ sym (ap (λ b. option_map_or (λ d. set (c ∷ cs) (cond (not b) (1 + holder_index cs) 0) (child_put_names d w)) (cond b (Some c) (first_holder cs)) (c ∷ cs)) h)
]

holder-holds : (cs : List Child) (d : Child) → Some d ≡ first_holder cs → holds_names d ≡ true
holder-holds [] d l = cc
holder-holds (c ∷ cs) d l = elim (cases_Bool (holds_names c)) [
  | inl h ↦ ap (λ o. holds_names (unwrap_or o d)) (l ∙ ap (λ b. cond b (Some c) (first_holder cs)) h) ∙ h
  | inr h ↦ holder-holds cs d (l ∙ ap (λ b. cond b (Some c) (first_holder cs)) h)
]

-- ---- d is the first holder
pub holder-without_names : (cs : List Child) (d : Child) → Some d ≡ first_holder cs → names_lie_deeper cs ≡ true → elem_without_names d ≡ true
holder-without_names cs d l e = ap (λ o. option_map_or elem_without_names o false) l ∙ e

pub names_down : (cs : List Child) (d : Child) → Some d ≡ first_holder cs → elem_without_names d ≡ true → find_elem has_names (inner d) ≡ find_elem has_names cs
names_down cs d l e = child_find-down d e ∙ ap (option_and_then (child_find has_names)) l ∙ sym (find-holder cs)

put_down : (cs : List Child) (d : Child) (w : Elem) → Some d ≡ first_holder cs → elem_without_names d ≡ true → put_holder cs (put_inner d (put_names (inner d) w)) ≡ put_names cs w
put_down cs d w l e =
    ap (put_holder cs) (child_put-down d w e)
    ∙ ap (λ o. option_map_or (λ c. put_holder cs (child_put_names c w)) o cs) l
    ∙ sym (put-holder cs w)

put_same : (cs : List Child) (d : Child) → Some d ≡ first_holder cs → put_holder cs d ≡ cs
put_same cs d l =
    let at = get_or_from_slice_get cs (holder_index cs) d d (sym (l ∙ find_at holds_names cs)) in
    ap (put_holder cs) (sym at) ∙ set-get_or cs (holder_index cs) d

pub nodes_fall : (cs : List Child) (d : Child) → Some d ≡ first_holder cs → child_is_elem d ≡ true → nodes (inner d) < nodes cs
nodes_fall [] d l e = cc
nodes_fall (c ∷ cs) d l e = elim (cases_Bool (holds_names c)) [
  | inl h ↦ omega (arith, inner_falls d e, ap (λ o. child_nodes (unwrap_or o d)) (l ∙ ap (λ b. cond b (Some c) (first_holder cs)) h))
  | inr h ↦ omega (arith, nodes_fall cs d (l ∙ ap (λ b. cond b (Some c) (first_holder cs)) h) e)
]

-- ---- the first holder is the names' element, or there is none
pub names_here : (cs : List Child) → names_lie_deeper cs ≡ false → holder_elem cs ≡ find_elem has_names cs
names_here cs e = here (first_holder cs) (λ d l. holder-holds cs d l) e ∙ sym (find-holder cs)
  where
    here : (o : Option Child) → ((d : Child) → Some d ≡ o → holds_names d ≡ true) → option_map_or elem_without_names o false ≡ false → option_and_then own_elem o ≡ option_and_then (child_find has_names) o
    here None h e = refl
    here (Some d) h e = child_find-here d (h d refl) e

pub put_here : (cs : List Child) (w : Elem) → names_lie_deeper cs ≡ false → put_holder_elem cs w ≡ put_names cs w
put_here cs w e = here (first_holder cs) e ∙ sym (put-holder cs w)
  where
    here : (o : Option Child) → option_map_or elem_without_names o false ≡ false → option_map_or (λ c. put_holder cs (put_own_elem c w)) o cs ≡ option_map_or (λ c. put_holder cs (child_put_names c w)) o cs
    here None e = refl
    here (Some d) e = ap (put_holder cs) (child_put-here d w e)

-- ---- the step of `src/`: the child x, its children k, and what is written there
pub step_put : (cs k : List Child) (x : ElemChild) (w : Elem) → Some (child_view x) ≡ first_holder cs → k ≡ inner (child_view x) → elem_without_names (child_view x) ≡ true → put_holder_child cs (with_children x (put_names k w)) ≡ put_names cs w
step_put cs k x w l s e = ap (put_holder cs) (with_children-view x (put_names k w) ∙ ap (λ ks. put_inner (child_view x) (put_names ks w)) s) ∙ put_down cs (child_view x) w l e

pub step_same : (cs k : List Child) (x : ElemChild) → Some (child_view x) ≡ first_holder cs → k ≡ inner (child_view x) → put_holder_child cs (with_children x k) ≡ cs
step_same cs k x l s = ap (put_holder cs) (with_children-view x k ∙ ap (put_inner (child_view x)) s ∙ put_inner-same (child_view x)) ∙ put_same cs (child_view x) l

-- ---- at its index
pub not_deeper : (xs : List ElemChild) → length xs ≤ holder_index (seen xs) → names_lie_deeper (seen xs) ≡ false
not_deeper xs l = ap (λ o. option_map_or elem_without_names o false) (found_none holds_names xs l)

pub deeper_within : (xs : List ElemChild) → names_lie_deeper (seen xs) ≡ true → holder_index (seen xs) < length xs
deeper_within xs e = elim (cases_lt (holder_index (seen xs)) (length xs)) [
  | inl l ↦ l
  | inr l ↦ absurd (true≢false (sym e ∙ not_deeper xs l))
]

pub no_elem : (xs : List ElemChild) → length xs ≤ holder_index (seen xs) → holder_elem (seen xs) ≡ None
no_elem xs l = ap (option_and_then own_elem) (found_none holds_names xs l)

module _ (xs : List ElemChild) (n : ℕ) (x : ElemChild) (e : n ≡ holder_index (seen xs)) (l : n < length xs) (is : x ≡ get_or xs n x) where
  pub holder_at : Some (child_view x) ≡ first_holder (seen xs)
  holder_at = sym (found_at holds_names xs n x e l is)

  pub deeper_at : elem_without_names (child_view x) ≡ names_lie_deeper (seen xs)
  deeper_at = ap (λ o. option_map_or elem_without_names o false) holder_at

  pub elem_at : own_elem (child_view x) ≡ holder_elem (seen xs)
  elem_at = ap (option_and_then own_elem) holder_at

  pub put_elem_at : (w : Elem) → seen (set xs n (with_elem x w)) ≡ put_holder_elem (seen xs) w
  put_elem_at w =
      map-set child_view xs n (with_elem x w)
      ∙ (λ i. set (seen xs) (e i) (with_elem-view x w i))
      ∙ ap (λ o. option_map_or (λ c. put_holder (seen xs) (put_own_elem c w)) o (seen xs)) holder_at

pub put_at : (xs : List ElemChild) (n : ℕ) (w : ElemChild) → n ≡ holder_index (seen xs) → seen (set xs n w) ≡ put_holder_child (seen xs) w
put_at xs n w e = map-set child_view xs n w ∙ ap (λ k. set (seen xs) k (child_view w)) e
