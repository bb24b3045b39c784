-- Steps on one tree.
use Rattle.std.proofs.Common.{◌≡◌, ℕ, ◌+◌, ◌-◌, ◌<◌, Bool, false, List, [], ◌∷◌, length, Some, slice_set, refl, sym, ap, ◌∙◌, arith}
use Rattle.std.specs.Prelude.{◌||◌, drop}
use Rattle.std.specs.List.{list_any}
use Rattle.value_trees.specs.Tree.{child_has_content, has_content}
use Rattle.std.specs.Option.{option_map_or}
use Rattle.std.specs.List.{slice_get}
use Rattle.std.proofs.lemmas.Option.{get_or_from_slice_get}
use Rattle.std.proofs.Common.{get_or}
use Rattle.std.proofs.Common.{map, zero, suc}
use Rattle.std.specs.Prelude.{Result, Ok, Err, IfOk, OnOk}
use Rattle.std.specs.Option.{option_and_then}
use Rattle.std.specs.declared.alloc.AllocError.{AllocError}
use Rattle.value_trees.specs.Child.{Child, kids_of}
use Rattle.value_trees.specs.ChildView.{child_view}
use Rattle.value_trees.specs.LastTextStep.{last_child, put_last}
use Rattle.value_trees.specs.declared.elem.ElemChild.{ElemChild}
use Rattle.layout_context.specs.OpenFrames.{sole_text, on_sole_text, kids_sole_text, kids_on_sole_text, end_sole_text, on_end_sole_text, on_last_child, child_shows, shows_behind}

-- a tree that has not one child alone has no sole text
pub no_sole_text : (q : List ℕ → Bool) (cs : List Child) → (length cs ≡ 1 → ⊥) → false ≡ option_map_or q (kids_sole_text (kids_of cs)) false
no_sole_text q [] h = refl
no_sole_text q (c ∷ []) h = absurd (h refl)
no_sole_text q (c ∷ d ∷ cs) h = refl

pub no_sole_change : (f : List ℕ → List ℕ) (cs : List Child) → (length cs ≡ 1 → ⊥) → kids_of cs ≡ kids_on_sole_text f (kids_of cs)
no_sole_change f [] h = refl
no_sole_change f (c ∷ []) h = absurd (h refl)
no_sole_change f (c ∷ d ∷ cs) h = refl

-- the last child of a tree, at its place
last_child_at : (xs : List ElemChild) (i : ℕ) (x : ElemChild) → i + 1 ≡ length xs → x ≡ get_or xs i x → last_child (map child_view xs) ≡ Some (child_view x)
last_child_at [] i x l r = absurd (omega (arith, l))
last_child_at (y ∷ []) zero x l r = ap (λ z. Some (child_view z)) (sym r)
last_child_at (y ∷ []) (suc i) x l r = absurd (omega (arith, l))
last_child_at (y ∷ z ∷ xs) zero x l r = absurd (omega (arith, l))
last_child_at (y ∷ z ∷ xs) (suc i) x l r = last_child_at (z ∷ xs) i x (omega (arith, l)) r

put_last_at : (xs : List ElemChild) (i : ℕ) (w : ElemChild) → i + 1 ≡ length xs → map child_view (slice_set xs i w) ≡ put_last (map child_view xs) (child_view w)
put_last_at [] i w l = absurd (omega (arith, l))
put_last_at (y ∷ []) zero w l = refl
put_last_at (y ∷ []) (suc i) w l = absurd (omega (arith, l))
put_last_at (y ∷ z ∷ xs) zero w l = absurd (omega (arith, l))
put_last_at (y ∷ z ∷ []) (suc zero) w l = refl
put_last_at (y ∷ z ∷ []) (suc (suc i)) w l = absurd (omega (arith, l))
put_last_at (y ∷ z ∷ u ∷ xs) (suc zero) w l = absurd (omega (arith, l))
put_last_at (y ∷ z ∷ u ∷ xs) (suc (suc i)) w l = ap (λ cs. child_view y ∷ cs) (put_last_at (z ∷ u ∷ xs) (suc i) w (omega (arith, l)))

pub last_child_got : (xs : List ElemChild) (x : ElemChild) → Some x ≡ slice_get xs (length xs - 1) → last_child (map child_view xs) ≡ Some (child_view x)
last_child_got [] x h = cc
last_child_got (y ∷ xs) x h =
    last_child_at (y ∷ xs) (length (y ∷ xs) - 1) x (omega arith) (sym (get_or_from_slice_get (y ∷ xs) (length (y ∷ xs) - 1) x x (sym h)))

-- a mark is pulled into a tree as it is into the last child
pub moved_at_end : (r : Result Bool AllocError) (q : List ℕ → Bool) (xs : List ElemChild) (cs : List Child) (i : ℕ) (x : ElemChild) → map child_view xs ≡ cs → i + 1 ≡ length xs → x ≡ get_or xs i x → IfOk r (λ m. m ≡ option_map_or q (sole_text (child_view x)) false) → IfOk r (λ m. m ≡ option_map_or q (end_sole_text cs) false)
moved_at_end (Err e) q xs cs i x v l g h = tt
moved_at_end (Ok b) q xs cs i x v l g h =
    h ∙ ap (λ o. option_map_or q (option_and_then sole_text o) false) (sym (ap last_child (sym v) ∙ last_child_at xs i x l g))

-- a change of the last child is one of the tree
pub child_changed_at_end : {R : Type 0} (r : Result R AllocError) (f : Child → Child) (xs : List ElemChild) (cs : List Child) (i : ℕ) (x w : ElemChild) → map child_view xs ≡ cs → i + 1 ≡ length xs → x ≡ get_or xs i x → OnOk r (child_view w ≡ f (child_view x)) → OnOk r (map child_view (slice_set xs i w) ≡ on_last_child f cs)
child_changed_at_end (Err e) f xs cs i x w v l g h = tt
child_changed_at_end (Ok b) f xs cs i x w v l g h =
    put_last_at xs i w l ∙ ap (λ ds. put_last ds (child_view w)) v ∙ ap (put_last cs) h
    ∙ ap (λ o. option_map_or (λ c. put_last cs (f c)) o cs) (sym (ap last_child (sym v) ∙ last_child_at xs i x l g))

pub changed_at_end : (r : Result Bool AllocError) (f : List ℕ → List ℕ) (xs : List ElemChild) (cs : List Child) (i : ℕ) (x w : ElemChild) → map child_view xs ≡ cs → i + 1 ≡ length xs → x ≡ get_or xs i x → OnOk r (child_view w ≡ on_sole_text f (child_view x)) → OnOk r (map child_view (slice_set xs i w) ≡ on_end_sole_text f cs)
changed_at_end r f xs cs i x w v l g h = child_changed_at_end r (on_sole_text f) xs cs i x w v l g h

has_content_along : (xs : List ElemChild) → list_any (λ c. child_has_content (child_view c)) xs ≡ has_content (map child_view xs)
has_content_along [] = refl
has_content_along (x ∷ xs) = ap (λ b. child_has_content (child_view x) || b) (has_content_along xs)

-- where the first child shows nothing, the others decide
pub shows_later : (n : ℕ) (xs : List ElemChild) (cs : List Child) (x : ElemChild) (r : Bool) → map child_view xs ≡ cs → 0 < length xs → x ≡ get_or xs 0 x → child_shows n (child_view x) ≡ false → r ≡ list_any (λ c. child_has_content (child_view c)) (drop 1 xs) → r ≡ shows_behind n cs
shows_later n [] cs x r v l g f h = absurd (omega (arith, l))
shows_later n (y ∷ xs) cs x r v l g f h =
    let here : child_shows n (child_view y) ≡ false = ap (λ z. child_shows n (child_view z)) (sym g) ∙ f in
    h ∙ has_content_along xs ∙ ap (λ b. b || has_content (map child_view xs)) (sym here) ∙ ap (shows_behind n) v
