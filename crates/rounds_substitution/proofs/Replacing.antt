-- Names replaced among the children of a tree.
use Rattle.std.proofs.Common.{◌≡◌, ℕ, zero, suc, ◌+◌, ◌-◌, ◌<◌, ◌≤◌, true, false, not, cond, List, [], ◌∷◌, ◌++◌, map, take, drop, length, get_or, Option, None, Some, is_some, refl, sym, ap, ap₂, ◌∙◌, arith, inl, inr, true≢false}
use Rattle.std.specs.Option.{option_or}
use Rattle.std.specs.List.{position_or_len}
use Rattle.std.proofs.Math.ListN.{set}
use Rattle.std.proofs.lemmas.Bool.{cases_Bool}
use Rattle.std.proofs.lemmas.List.{same_lists, take-append-drop, length-drop}
use Rattle.value_trees.specs.Child.{Child, text, elem, markup, link, transparent, Kids, no_kids, kid, kids_of, list_of, list_of-kids_of}
use Rattle.value_trees.specs.ChildView.{child_view}
use Rattle.value_trees.specs.Tree.{elem_of, find_elem, child_find, kids_find}
use Rattle.value_trees.specs.declared.elem.ElemChild.{ElemChild}
use Rattle.value_sources.specs.declared.formatting.Formatted.{Formatted}
use Rattle.value_trees.proofs.FirstNamesLaws.{neither}
use Rattle.rounds_substitution.specs.Names.{is_name}
use Rattle.rounds_substitution.specs.Rewriting.{holds_name, name_replaced, kids_name_replaced, first_name_replaced, up_to_names}

or_first : {Y : Type 0} (a b : Option Y) → is_some a ≡ true → is_some (option_or a b) ≡ true
or_first None b e = cc
or_first (Some x) b e = refl

or_second : {Y : Type 0} (a b : Option Y) → is_some b ≡ true → is_some (option_or a b) ≡ true
or_second None b e = e
or_second (Some x) b e = refl

or_none : {Y : Type 0} (a b : Option Y) → is_some a ≡ false → is_some b ≡ false → is_some (option_or a b) ≡ false
or_none None b e f = f
or_none (Some x) b e f = cc

-- what holds no name stays as it is
mutual
  pub name_stays : (t : Formatted) (c : Child) → holds_name c ≡ false → name_replaced t c ≡ c
  name_stays t (text f) e = refl
  name_stays t (elem ks d m) e = elim (cases_Bool (is_name (elem_of ks d m))) [
    | inl y ↦ absurd (true≢false (sym (ap (λ b. is_some (cond b (Some (elem_of ks d m)) (kids_find is_name ks))) y) ∙ e))
    | inr n ↦ ap (λ b. cond b (elem (kid (text t) no_kids) d m) (elem (kids_of (kids_name_replaced t ks)) d m)) n
        ∙ ap (λ ls. elem ls d m) (kids_stay t ks (sym (ap (λ b. is_some (cond b (Some (elem_of ks d m)) (kids_find is_name ks))) n) ∙ e))
  ]
  name_stays t (markup s) e = refl
  name_stays t (link f s) e = refl
  name_stays t (transparent i f) e = refl

  kids_stay : (t : Formatted) (ks : Kids) → is_some (kids_find is_name ks) ≡ false → kids_of (kids_name_replaced t ks) ≡ ks
  kids_stay t no_kids e = refl
  kids_stay t (kid c ks) e =
      let p = neither (child_find is_name c) (kids_find is_name ks) e in
      ap (λ b. kids_of (cond b (name_replaced t c ∷ list_of ks) (c ∷ kids_name_replaced t ks))) p.0 ∙ ap (kid c) (kids_stay t ks p.1)

-- one of the children holds a name
pub held_at : (ys : List ElemChild) (i : ℕ) (x : ElemChild) → i < length ys → holds_name (child_view (get_or ys i x)) ≡ true → is_some (find_elem is_name (map child_view ys)) ≡ true
held_at [] i x l e = absurd (omega (arith, l))
held_at (y ∷ ys) zero x l e = or_first (child_find is_name (child_view y)) (find_elem is_name (map child_view ys)) e
held_at (y ∷ ys) (suc i) x l e = or_second (child_find is_name (child_view y)) (find_elem is_name (map child_view ys)) (held_at ys i x (omega (arith, l)) e)

-- none of them does
pub none_held : (ys : List ElemChild) → ((k : ℕ) (d : ElemChild) → k < length ys → holds_name (child_view (get_or ys k d)) ≡ false) → is_some (find_elem is_name (map child_view ys)) ≡ false
none_held [] h = refl
none_held (y ∷ ys) h = or_none (child_find is_name (child_view y)) (find_elem is_name (map child_view ys)) (h 0 y (omega arith)) (none_held ys (λ k d l. h (suc k) d (omega (arith, l))))

pub none_replaced : (t : Formatted) (ys : List ElemChild) → ((k : ℕ) (d : ElemChild) → k < length ys → holds_name (child_view (get_or ys k d)) ≡ false) → map (name_replaced t) (map child_view ys) ≡ first_name_replaced t (map child_view ys)
none_replaced t [] h = refl
none_replaced t (y ∷ ys) h =
    let n = h 0 y (omega arith) in
    ap₂ (λ c cs. c ∷ cs) (name_stays t (child_view y) n) (none_replaced t ys (λ k d l. h (suc k) d (omega (arith, l))))
    ∙ sym (ap (λ b. cond b (name_replaced t (child_view y) ∷ list_of (kids_of (map child_view ys))) (child_view y ∷ first_name_replaced t (map child_view ys))) n)

-- the first that does is written
pub first_written : (t : Formatted) (xs ys : List ElemChild) (i : ℕ) (w : ElemChild)
    → length xs ≡ length ys
    → ((k : ℕ) (d : ElemChild) → i ≤ k → get_or xs k d ≡ get_or ys k d)
    → ((k : ℕ) (d : ElemChild) → k < i → child_view (get_or xs k d) ≡ name_replaced t (child_view (get_or ys k d)))
    → ((k : ℕ) (d : ElemChild) → k < i → holds_name (child_view (get_or ys k d)) ≡ false)
    → i < length ys → holds_name (child_view (get_or ys i w)) ≡ true → child_view w ≡ name_replaced t (child_view (get_or ys i w))
    → map child_view (set xs i w) ≡ first_name_replaced t (map child_view ys)
first_written t [] [] i w s u v n l e r = absurd (omega (arith, l))
first_written t [] (y ∷ ys) i w s u v n l e r = absurd (omega (arith, s))
first_written t (x ∷ xs) [] i w s u v n l e r = absurd (omega (arith, s))
first_written t (x ∷ xs) (y ∷ ys) zero w s u v n l e r =
    let rest : xs ≡ ys = same_lists xs ys (omega (arith, s)) (λ k d h. u (suc k) d (omega arith)) in
    ap₂ (λ c cs. c ∷ cs) r (ap (map child_view) rest ∙ sym (list_of-kids_of (map child_view ys)))
    ∙ sym (ap (λ b. cond b (name_replaced t (child_view y) ∷ list_of (kids_of (map child_view ys))) (child_view y ∷ first_name_replaced t (map child_view ys))) e)
first_written t (x ∷ xs) (y ∷ ys) (suc i) w s u v n l e r =
    let m = n 0 y (omega arith) in
    ap₂ (λ c cs. c ∷ cs) (v 0 x (omega arith) ∙ name_stays t (child_view y) m)
    (first_written t xs ys i w (omega (arith, s)) (λ k d h. u (suc k) d (omega (arith, h))) (λ k d h. v (suc k) d (omega (arith, h))) (λ k d h. n (suc k) d (omega (arith, h))) (omega (arith, l)) e r)
    ∙ sym (ap (λ b. cond b (name_replaced t (child_view y) ∷ list_of (kids_of (map child_view ys))) (child_view y ∷ first_name_replaced t (map child_view ys))) m)

-- the children up to so many names, one child on
next_found : (m : ℕ) (c : Child) (cs : List Child) → holds_name c ≡ true → up_to_names (suc m) (c ∷ cs) ≡ c ∷ up_to_names m cs
next_found m c cs e =
    ap (λ b. take (cond (not b) (1 + position_or_len holds_name cs) 0 + 1) (c ∷ cs) ++ up_to_names m (drop (cond (not b) (1 + position_or_len holds_name cs) 0 + 1) (c ∷ cs))) e

next_past : (m : ℕ) (c : Child) (cs : List Child) → holds_name c ≡ false → up_to_names (suc m) (c ∷ cs) ≡ c ∷ up_to_names (suc m) cs
next_past m c cs e =
    let p = position_or_len holds_name cs in
    let one_on : 1 + p + 1 ≡ suc (p + 1) = omega arith in
    ap (λ b. take (cond (not b) (1 + p) 0 + 1) (c ∷ cs) ++ up_to_names m (drop (cond (not b) (1 + p) 0 + 1) (c ∷ cs))) e
    ∙ ap (λ k. take k (c ∷ cs) ++ up_to_names m (drop k (c ∷ cs))) one_on

pub up_to_found : (n : ℕ) (c : Child) (cs : List Child) → (n ≡ 0 → ⊥) → holds_name c ≡ true → up_to_names n (c ∷ cs) ≡ c ∷ up_to_names (n - 1) cs
up_to_found zero c cs h e = absurd (h refl)
up_to_found (suc m) c cs h e = next_found m c cs e ∙ ap (λ k. c ∷ up_to_names k cs) (omega arith)

pub up_to_past : (n : ℕ) (c : Child) (cs : List Child) → (n ≡ 0 → ⊥) → holds_name c ≡ false → up_to_names n (c ∷ cs) ≡ c ∷ up_to_names n cs
up_to_past zero c cs h e = absurd (h refl)
up_to_past (suc m) c cs h e = next_past m c cs e

-- all children, where there are no more of them than names that are asked for
pub up_to_all : (n : ℕ) (cs : List Child) → length cs ≤ n → up_to_names n cs ≡ cs
up_to_all zero [] l = refl
up_to_all zero (c ∷ cs) l = absurd (omega (arith, l))
up_to_all (suc n) cs l =
    let p = position_or_len holds_name cs + 1 in
    ap (λ ds. take p cs ++ ds) (up_to_all n (drop p cs) (omega (arith, l, length-drop p cs))) ∙ take-append-drop p cs

pub up_to_none : (n : ℕ) → up_to_names n [] ≡ []
up_to_none n = up_to_all n [] (omega arith)
