-- The first element of meta Names of a tree after a write.
use Rattle.std.proofs.Common.{◌≡◌, true, false, cond, List, Option, None, Some, is_some, true≢false, refl, sym, ap, ◌∙◌, inl, inr}
use Rattle.std.specs.Option.{option_or}
use Rattle.std.proofs.lemmas.Bool.{cases_Bool}
use Rattle.value_trees.specs.Child.{Child, text, elem, markup, link, transparent, Kids, no_kids, kid, kids_of, list_of, kids_of-list_of, list_of-kids_of}
use Rattle.value_trees.specs.Tree.{elem_of, has_names, find_elem, child_find, kids_find}
use Rattle.value_trees.specs.FirstNames.{holds_names, as_child, put_names, child_put_names, kids_put_names}
use Rattle.value_trees.specs.declared.elem.Elem.{Elem}
use Rattle.value_trees.proofs.Trees.{elem_back}
use Rattle.value_trees.proofs.FirstNamesSteps.{or_next}

abbrev given_or : Elem → Option Elem → Elem
given_or g None = g
given_or g (Some e) = e

or_found : {Y : Type 0} (a b : Option Y) (y : Y) → a ≡ Some y → option_or a b ≡ Some y
or_found a b y h = ap (λ o. option_or o b) h

or_same : {Y : Type 0} (a b : Option Y) (y : Y) → is_some a ≡ true → option_or a b ≡ Some y → a ≡ Some y
or_same None b y h e = cc
or_same (Some x) b y h e = e

pub neither : {Y : Type 0} (a b : Option Y) → is_some (option_or a b) ≡ false → (is_some a ≡ false) × (is_some b ≡ false)
neither None b e = (refl, e)
neither (Some x) b e = cc

-- an element as a child is found, if its meta is Names
self_found : (w : Elem) → has_names w ≡ true → child_find has_names (as_child w) ≡ Some w
self_found w h = rw (elem_back w, h)

-- what was written is read
mutual
  child_read : (c : Child) (w : Elem) → holds_names c ≡ true → has_names w ≡ true → child_find has_names (child_put_names c w) ≡ Some w
  child_read (elem ks d m) w e h = elim (cases_Bool (has_names (elem_of ks d m))) [
    | inl y ↦ ap (λ b. child_find has_names (cond b (as_child w) (elem (kids_put_names ks w) d m))) y ∙ self_found w h
    | inr n ↦ ap (λ b. child_find has_names (cond b (as_child w) (elem (kids_put_names ks w) d m))) n
        ∙ ap (λ b. cond b (Some (elem_of (kids_put_names ks w) d m)) (kids_find has_names (kids_put_names ks w))) n
        ∙ kids_read ks w (sym (ap (λ b. is_some (cond b (Some (elem_of ks d m)) (kids_find has_names ks))) n) ∙ e) h
  ]
  child_read (text f) w e h = cc
  child_read (markup s) w e h = cc
  child_read (link f s) w e h = cc
  child_read (transparent i f) w e h = cc

  kids_read : (ks : Kids) (w : Elem) → is_some (kids_find has_names ks) ≡ true → has_names w ≡ true → kids_find has_names (kids_put_names ks w) ≡ Some w
  kids_read no_kids w e h = cc
  kids_read (kid c ks) w e h = elim (cases_Bool (holds_names c)) [
    | inl y ↦ ap (λ b. kids_find has_names (cond b (kid (child_put_names c w) ks) (kid c (kids_put_names ks w)))) y
        ∙ or_found (child_find has_names (child_put_names c w)) (kids_find has_names ks) w (child_read c w y h)
    | inr n ↦ ap (λ b. kids_find has_names (cond b (kid (child_put_names c w) ks) (kid c (kids_put_names ks w)))) n
        ∙ or_next (child_find has_names c) (kids_find has_names (kids_put_names ks w)) n
        ∙ kids_read ks w (ap is_some (sym (or_next (child_find has_names c) (kids_find has_names ks) n)) ∙ e) h
  ]

pub read_after_write : (cs : List Child) (w : Elem) → is_some (find_elem has_names cs) ≡ true → has_names w ≡ true → find_elem has_names (put_names cs w) ≡ Some w
read_after_write cs w e h = ap (kids_find has_names) (kids_of-list_of (kids_put_names (kids_of cs) w)) ∙ kids_read (kids_of cs) w e h

-- what was read, written back
mutual
  child_same : (c : Child) (w : Elem) → child_find has_names c ≡ Some w → child_put_names c w ≡ c
  child_same (elem ks d m) w e = elim (cases_Bool (has_names (elem_of ks d m))) [
    | inl y ↦ ap (λ b. cond b (as_child w) (elem (kids_put_names ks w) d m)) y
        ∙ ap (λ o. as_child (given_or w o)) (sym e ∙ ap (λ b. cond b (Some (elem_of ks d m)) (kids_find has_names ks)) y)
        ∙ ap (λ ls. elem ls d m) (kids_of-list_of ks)
    | inr n ↦ ap (λ b. cond b (as_child w) (elem (kids_put_names ks w) d m)) n
        ∙ ap (λ ls. elem ls d m) (kids_same ks w (sym (ap (λ b. cond b (Some (elem_of ks d m)) (kids_find has_names ks)) n) ∙ e))
  ]
  child_same (text f) w e = cc
  child_same (markup s) w e = cc
  child_same (link f s) w e = cc
  child_same (transparent i f) w e = cc

  kids_same : (ks : Kids) (w : Elem) → kids_find has_names ks ≡ Some w → kids_put_names ks w ≡ ks
  kids_same no_kids w e = cc
  kids_same (kid c ks) w e = elim (cases_Bool (holds_names c)) [
    | inl y ↦ ap (λ b. cond b (kid (child_put_names c w) ks) (kid c (kids_put_names ks w))) y
        ∙ ap (λ b. kid b ks) (child_same c w (or_same (child_find has_names c) (kids_find has_names ks) w y e))
    | inr n ↦ ap (λ b. cond b (kid (child_put_names c w) ks) (kid c (kids_put_names ks w))) n
        ∙ ap (kid c) (kids_same ks w (sym (or_next (child_find has_names c) (kids_find has_names ks) n) ∙ e))
  ]

pub write_what_is_read : (cs : List Child) (e : Elem) → find_elem has_names cs ≡ Some e → put_names cs e ≡ cs
write_what_is_read cs e p = ap list_of (kids_same (kids_of cs) e p) ∙ list_of-kids_of cs

-- a write where there is none
mutual
  child_none : (c : Child) (w : Elem) → holds_names c ≡ false → child_put_names c w ≡ c
  child_none (elem ks d m) w e = elim (cases_Bool (has_names (elem_of ks d m))) [
    | inl y ↦ absurd (true≢false (sym (ap (λ b. is_some (cond b (Some (elem_of ks d m)) (kids_find has_names ks))) y) ∙ e))
    | inr n ↦ ap (λ b. cond b (as_child w) (elem (kids_put_names ks w) d m)) n
        ∙ ap (λ ls. elem ls d m) (kids_none ks w (sym (ap (λ b. is_some (cond b (Some (elem_of ks d m)) (kids_find has_names ks))) n) ∙ e))
  ]
  child_none (text f) w e = refl
  child_none (markup s) w e = refl
  child_none (link f s) w e = refl
  child_none (transparent i f) w e = refl

  kids_none : (ks : Kids) (w : Elem) → is_some (kids_find has_names ks) ≡ false → kids_put_names ks w ≡ ks
  kids_none no_kids w e = refl
  kids_none (kid c ks) w e =
      let p = neither (child_find has_names c) (kids_find has_names ks) e in
      ap (λ b. cond b (kid (child_put_names c w) ks) (kid c (kids_put_names ks w))) p.0 ∙ ap (kid c) (kids_none ks w p.1)

pub no_names_no_change : (cs : List Child) (w : Elem) → find_elem has_names cs ≡ None → put_names cs w ≡ cs
no_names_no_change cs w e = ap list_of (kids_none (kids_of cs) w (ap is_some e)) ∙ list_of-kids_of cs
