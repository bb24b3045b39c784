-- The loop that compares the children of two trees.
use Rattle.std.proofs.Common.{◌≡◌, ℕ, ◌+◌, ◌<◌, ◌≤◌, List, [], ◌∷◌, take, map, length, get_or, true, false, refl, sym, ap, ◌∙◌, true≢false}
use Rattle.std.proofs.lemmas.List.{take_all, get_or_default, take_more_same}
use Rattle.std.specs.Bool.{one_answer}
use Rattle.value_trees.specs.Child.{Child, kids_of, list_of, list_of-kids_of}
use Rattle.value_trees.specs.ChildView.{child_view}
use Rattle.value_trees.specs.SameTree.{same_trees, same_trees-Decides}
use Rattle.value_trees.specs.declared.elem.ElemChild.{ElemChild}
use Rattle.value_trees.specs.declared.elem.ElemChild.TheVariants as v

pub kids_of-inj : (cs ds : List Child) → kids_of cs ≡ kids_of ds → cs ≡ ds
kids_of-inj cs ds p = sym (list_of-kids_of cs) ∙ ap list_of p ∙ list_of-kids_of ds

pub child_view-inj : (x y : ElemChild) → child_view x ≡ child_view y → x ≡ y
child_view-inj (v.Text f) (v.Text g) p = cc
child_view-inj (v.Elem e) (v.Elem d) p =
    let ks : kids_of e.children ≡ kids_of d.children = cc in
    let a : e.display ≡ d.display = cc in
    let b : e.meta ≡ d.meta = cc in
    λ i. v.Elem (record { children = kids_of-inj e.children d.children ks i; display = a i; meta = b i })
child_view-inj (v.Markup s) (v.Markup t) p = cc
child_view-inj (v.Link f s) (v.Link g t) p = cc
child_view-inj (v.Transparent m f) (v.Transparent n g) p = cc
child_view-inj _ _ p = cc

pub view-inj : (xs ys : List ElemChild) → map child_view xs ≡ map child_view ys → xs ≡ ys
view-inj [] [] p = refl
view-inj (x ∷ xs) (y ∷ ys) p =
    let first : child_view x ≡ child_view y = cc in
    let rest : map child_view xs ≡ map child_view ys = cc in
    λ i. child_view-inj x y first i ∷ view-inj xs ys rest i
view-inj _ _ p = cc

pub not_same : (a b : List Child) → (a ≡ b → ⊥) → false ≡ same_trees a b
not_same a b h = one_answer false (same_trees a b) (λ e. absurd (true≢false (sym e)), λ p. absurd (h p)) (same_trees-Decides a b)

module _ (xs ys : List ElemChild) (a b : List Child) (va : map child_view xs ≡ a) (vb : map child_view ys ≡ b) where
  pub lists_same : a ≡ b → xs ≡ ys
  lists_same p = view-inj xs ys (va ∙ p ∙ sym vb)

  pub other_length : (length xs ≡ length ys → ⊥) → false ≡ same_trees a b
  other_length h = not_same a b (λ p. h (ap length (lists_same p)))

  pub other_child : (i : ℕ) (x y : ElemChild) → i < length ys → x ≡ get_or xs i x → y ≡ get_or ys i y → (x ≡ y → ⊥) → false ≡ same_trees a b
  other_child i x y h p q r = not_same a b (λ e. r (p ∙ ap (λ zs. get_or zs i x) (lists_same e) ∙ get_or_default ys i x y h ∙ sym q))

  pub all_same : (i : ℕ) → length xs ≤ i → length ys ≤ i → take i xs ≡ take i ys → true ≡ same_trees a b
  all_same i h k e = sym ((same_trees-Decides a b).1 (sym va ∙ ap (map child_view) (sym (take_all i xs h) ∙ e ∙ take_all i ys k) ∙ vb))

pub same_next : (xs ys : List ElemChild) (i : ℕ) (x y : ElemChild) → i < length xs → i < length ys → x ≡ get_or xs i x → y ≡ get_or ys i y → x ≡ y → take i xs ≡ take i ys → take (i + 1) xs ≡ take (i + 1) ys
same_next xs ys i x y h k p q e t = take_more_same xs ys i x h k t (sym p ∙ e ∙ q ∙ sym (get_or_default ys i x y k))
