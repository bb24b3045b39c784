-- One step down to the last child.
use Rattle.std.proofs.Common.{◌≡◌, ℕ, zero, suc, ◌+◌, ◌<◌, List, [], ◌∷◌, length, get_or, Option, None, Some, true, false, refl, sym, ap, ◌∙◌, arith}
use Rattle.std.proofs.Math.ListN.{set}
use Rattle.std.specs.Option.{option_and_then, option_map_or, unwrap_or}
use Rattle.value_trees.specs.Child.{Child, text, elem, markup, link, transparent, kids_of, list_of, kids_of-list_of}
use Rattle.value_trees.specs.ChildView.{child_view, child_nodes, nodes}
use Rattle.value_trees.specs.Tree.{last_text, child_last_text, kids_last_text}
use Rattle.value_trees.specs.Nested.{child_is_elem, inner, put_inner, with_children}
use Rattle.value_trees.specs.LastText.{put_last_text, child_put_last_text, kids_put_last_text}
use Rattle.value_trees.specs.LastTextStep.{with_text, ends_in_elem, last_child, put_last, put_last_child, own_text, put_own_text, end_text, put_end_text}
use Rattle.value_sources.specs.declared.formatting.Formatted.{Formatted}
use Rattle.value_trees.specs.declared.elem.ElemChild.{ElemChild}
use Rattle.value_trees.specs.declared.elem.ElemChild.TheVariants as v
use Rattle.value_trees.proofs.FirstPlace.{seen}
use Rattle.value_trees.proofs.Nested.{with_children-view, put_inner-same, inner_falls, one_before}

-- ---- of one child
child_text-down : (c : Child) → child_is_elem c ≡ true → last_text (inner c) ≡ child_last_text c
child_text-down (elem ks d m) e = ap kids_last_text (kids_of-list_of ks)
child_text-down _ e = cc

child_put-down : (c : Child) (w : Formatted) → child_is_elem c ≡ true → put_inner c (put_last_text (inner c) w) ≡ child_put_last_text c w
child_put-down (elem ks d m) w e = ap (λ ls. elem ls d m) (kids_of-list_of (kids_put_last_text (kids_of (list_of ks)) w) ∙ ap (λ ls. kids_put_last_text ls w) (kids_of-list_of ks))
child_put-down _ w e = cc

child_text-here : (c : Child) → child_is_elem c ≡ false → own_text c ≡ child_last_text c
child_text-here (text f) e = refl
child_text-here (elem ks d m) e = cc
child_text-here (markup s) e = refl
child_text-here (link f s) e = refl
child_text-here (transparent i f) e = refl

child_put-here : (c : Child) (w : Formatted) → child_is_elem c ≡ false → put_own_text c w ≡ child_put_last_text c w
child_put-here (text f) w e = refl
child_put-here (elem ks d m) w e = cc
child_put-here (markup s) w e = refl
child_put-here (link f s) w e = refl
child_put-here (transparent i f) w e = refl

with_text-view : (x : ElemChild) (w : Formatted) → child_view (with_text x w) ≡ put_own_text (child_view x) w
with_text-view (v.Text f) w = refl
with_text-view (v.Elem e) w = refl
with_text-view (v.Markup s) w = refl
with_text-view (v.Link f s) w = refl
with_text-view (v.Transparent i f) w = refl

-- ---- the last child decides
text-last : (cs : List Child) → last_text cs ≡ option_and_then child_last_text (last_child cs)
text-last [] = refl
text-last (c ∷ []) = refl
text-last (c ∷ b ∷ cs) = text-last (b ∷ cs)

put-last : (cs : List Child) (w : Formatted) → put_last_text cs w ≡ option_map_or (λ c. put_last cs (child_put_last_text c w)) (last_child cs) cs
put-last [] w = refl
put-last (c ∷ []) w = refl
put-last (c ∷ b ∷ cs) w = ap (λ bs. c ∷ bs) (put-last (b ∷ cs) w) ∙ sym (one_before c (b ∷ cs) (λ d. put_last (b ∷ cs) (child_put_last_text d w)) (last_child (b ∷ cs)))

-- ---- d is the last child
pub last_is_elem : (cs : List Child) (d : Child) → Some d ≡ last_child cs → ends_in_elem cs ≡ true → child_is_elem d ≡ true
last_is_elem cs d l e = ap (λ o. option_map_or child_is_elem o false) l ∙ e

pub text_down : (cs : List Child) (d : Child) → Some d ≡ last_child cs → child_is_elem d ≡ true → last_text (inner d) ≡ last_text cs
text_down cs d l e = child_text-down d e ∙ ap (option_and_then child_last_text) l ∙ sym (text-last cs)

put_down : (cs : List Child) (d : Child) (w : Formatted) → Some d ≡ last_child cs → child_is_elem d ≡ true → put_last cs (put_inner d (put_last_text (inner d) w)) ≡ put_last_text cs w
put_down cs d w l e =
    ap (put_last cs) (child_put-down d w e)
    ∙ ap (λ o. option_map_or (λ c. put_last cs (child_put_last_text c w)) o cs) l
    ∙ sym (put-last cs w)

put_same : (cs : List Child) (d : Child) → Some d ≡ last_child cs → put_last cs d ≡ cs
put_same [] d l = cc
put_same (c ∷ []) d l = ap (λ o. unwrap_or o d ∷ []) l
put_same (c ∷ b ∷ cs) d l = ap (λ bs. c ∷ bs) (put_same (b ∷ cs) d l)

pub nodes_fall : (cs : List Child) (d : Child) → Some d ≡ last_child cs → child_is_elem d ≡ true → nodes (inner d) < nodes cs
nodes_fall [] d l e = cc
nodes_fall (c ∷ []) d l e = omega (arith, inner_falls d e, ap (λ o. child_nodes (unwrap_or o d)) l)
nodes_fall (c ∷ b ∷ cs) d l e = omega (arith, nodes_fall (b ∷ cs) d l e)

-- ---- the last child is no element, or there is none
pub text_here : (cs : List Child) → ends_in_elem cs ≡ false → end_text cs ≡ last_text cs
text_here cs e = here (last_child cs) e ∙ sym (text-last cs)
  where
    here : (o : Option Child) → option_map_or child_is_elem o false ≡ false → option_and_then own_text o ≡ option_and_then child_last_text o
    here None e = refl
    here (Some d) e = child_text-here d e

pub put_here : (cs : List Child) (w : Formatted) → ends_in_elem cs ≡ false → put_end_text cs w ≡ put_last_text cs w
put_here cs w e = here (last_child cs) e ∙ sym (put-last cs w)
  where
    here : (o : Option Child) → option_map_or child_is_elem o false ≡ false → option_map_or (λ c. put_last cs (put_own_text c w)) o cs ≡ option_map_or (λ c. put_last cs (child_put_last_text c w)) o cs
    here None e = refl
    here (Some d) e = ap (put_last cs) (child_put-here d w e)

-- ---- the step of `src/`: the child x, its children k, and what is written there
pub step_put : (cs k : List Child) (x : ElemChild) (w : Formatted) → Some (child_view x) ≡ last_child cs → k ≡ inner (child_view x) → child_is_elem (child_view x) ≡ true → put_last_child cs (with_children x (put_last_text k w)) ≡ put_last_text cs w
step_put cs k x w l s e = ap (put_last cs) (with_children-view x (put_last_text k w) ∙ ap (λ ks. put_inner (child_view x) (put_last_text ks w)) s) ∙ put_down cs (child_view x) w l e

pub step_same : (cs k : List Child) (x : ElemChild) → Some (child_view x) ≡ last_child cs → k ≡ inner (child_view x) → put_last_child cs (with_children x k) ≡ cs
step_same cs k x l s = ap (put_last cs) (with_children-view x k ∙ ap (put_inner (child_view x)) s ∙ put_inner-same (child_view x)) ∙ put_same cs (child_view x) l

-- ---- at its index
pub some_child : (xs : List ElemChild) → ends_in_elem (seen xs) ≡ true → 0 < length xs
some_child [] e = cc
some_child (x ∷ xs) e = omega arith

pub put_at : (xs : List ElemChild) (i : ℕ) (w : ElemChild) → i + 1 ≡ length xs → seen (set xs i w) ≡ put_last_child (seen xs) w
put_at [] i w h = absurd (omega (arith, h))
put_at (y ∷ []) zero w h = refl
put_at (y ∷ []) (suc i) w h = absurd (omega (arith, h))
put_at (y ∷ z ∷ zs) zero w h = absurd (omega (arith, h))
put_at (y ∷ z ∷ zs) (suc i) w h = ap (λ cs. child_view y ∷ cs) (put_at (z ∷ zs) i w (omega (arith, h)))

pub last_at : (xs : List ElemChild) (i : ℕ) (x : ElemChild) → i + 1 ≡ length xs → x ≡ get_or xs i x → Some (child_view x) ≡ last_child (seen xs)
last_at [] i x h e = absurd (omega (arith, h))
last_at (y ∷ []) zero x h e = ap (λ z. Some (child_view z)) e
last_at (y ∷ []) (suc i) x h e = absurd (omega (arith, h))
last_at (y ∷ z ∷ zs) zero x h e = absurd (omega (arith, h))
last_at (y ∷ z ∷ zs) (suc i) x h e = last_at (z ∷ zs) i x (omega (arith, h)) e

module _ (xs : List ElemChild) (i : ℕ) (x : ElemChild) (h : i + 1 ≡ length xs) (is : x ≡ get_or xs i x) where
  pub ends_at : child_is_elem (child_view x) ≡ ends_in_elem (seen xs)
  ends_at = ap (λ o. option_map_or child_is_elem o false) (last_at xs i x h is)

  pub text_at : own_text (child_view x) ≡ end_text (seen xs)
  text_at = ap (option_and_then own_text) (last_at xs i x h is)

  pub put_text_at : (w : Formatted) → seen (set xs i (with_text x w)) ≡ put_end_text (seen xs) w
  put_text_at w =
      put_at xs i (with_text x w) h
      ∙ ap (put_last (seen xs)) (with_text-view x w)
      ∙ ap (λ o. option_map_or (λ c. put_last (seen xs) (put_own_text c w)) o (seen xs)) (last_at xs i x h is)
