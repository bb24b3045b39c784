-- Steps along a list of children.
use Rattle.std.proofs.Common.{◌≡◌, ℕ, zero, suc, ◌+◌, ◌-◌, ◌<◌, List, [], ◌∷◌, ◌++◌, take, map, length, get_or, Option, None, Some, refl, sym, ap, ◌∙◌, append_assoc, arith, option_and_then, subst, drop, Bool, true, false}
use Rattle.std.specs.Fmt.{WritesInCalls}
use Rattle.std.proofs.Output.{writes_in_calls_single}
use Rattle.std.proofs.lemmas.List.{map-append, take_more, append-nil, drop_more}
use Rattle.std.specs.List.{slice_get}
use Rattle.std.proofs.Math.ListN.{set}
use Rattle.value_trees.specs.Child.{Child, kids_of, list_of-kids_of}
use Rattle.value_trees.specs.ChildView.{child_view}
use Rattle.std.specs.Option.{option_or}
use Rattle.value_trees.specs.declared.elem.Elem.{Elem}
use Rattle.value_trees.specs.Tree.{has_content, child_has_content, find_elem, child_find, elem_of, plain, child_plain, last_text, child_last_text}
use Rattle.value_trees.specs.declared.elem.ElemChild.{ElemChild}
use Rattle.value_trees.specs.declared.elem.ElemChild.TheVariants as v

pub plain-append : (xs ys : List Child) → plain (xs ++ ys) ≡ plain xs ++ plain ys
plain-append [] ys = refl
plain-append (x ∷ xs) ys = ap (λ t. child_plain x ++ t) (plain-append xs ys) ∙ sym (append_assoc (child_plain x) (plain xs) (plain ys))

-- the children up to the next one
pub view-next : (xs : List ElemChild) (i : ℕ) (x : ElemChild) → i < length xs → x ≡ get_or xs i x → map child_view (take (i + 1) xs) ≡ map child_view (take i xs) ++ child_view x ∷ []
view-next xs i x h e = ap (map child_view) (take_more xs i x h ∙ ap (λ y. take i xs ++ y ∷ []) (sym e)) ∙ map-append child_view (take i xs) (x ∷ [])

pub plain-next : (xs : List ElemChild) (i : ℕ) (x : ElemChild) → i < length xs → x ≡ get_or xs i x → plain (map child_view (take (i + 1) xs)) ≡ plain (map child_view (take i xs)) ++ child_plain (child_view x)
plain-next xs i x h e = ap plain (view-next xs i x h e) ∙ plain-append (map child_view (take i xs)) (child_view x ∷ []) ∙ ap (λ t. plain (map child_view (take i xs)) ++ t) (append-nil (child_plain (child_view x)))

-- the last child
abbrev pub last_of : {X : Type 0} → List X → Option X
last_of [] = None
last_of (x ∷ xs) = elim xs [ [] ↦ Some x | _ ∷ _ ↦ last_of xs ]

pub slice_get-last : {X : Type 0} (xs : List X) (n : ℕ) → n + 1 ≡ length xs → slice_get xs n ≡ last_of xs
slice_get-last [] n e = absurd (omega (arith, e))
slice_get-last (x ∷ []) zero e = refl
slice_get-last (x ∷ []) (suc n) e = absurd (omega (arith, e))
slice_get-last (x ∷ y ∷ ys) zero e = absurd (omega (arith, e))
slice_get-last (x ∷ y ∷ ys) (suc n) e = slice_get-last (y ∷ ys) n (omega (arith, e))

pub last_is : {X : Type 0} (xs : List X) → slice_get xs (length xs - 1) ≡ last_of xs
last_is [] = refl
last_is (x ∷ xs) = slice_get-last (x ∷ xs) _ (omega arith)

pub last_text-at : (xs : List ElemChild) → last_text (map child_view xs) ≡ option_and_then (λ x. child_last_text (child_view x)) (last_of xs)
last_text-at [] = refl
last_text-at (y ∷ []) = refl
last_text-at (y ∷ z ∷ zs) = last_text-at (z ∷ zs)

pub last_text-of : (xs : List ElemChild) (cs : List Child) (r : Option ElemChild) → map child_view xs ≡ cs → r ≡ slice_get xs (length xs - 1) → last_text cs ≡ option_and_then (λ x. child_last_text (child_view x)) r
last_text-of xs cs r v e = ap last_text (sym v) ∙ last_text-at xs ∙ ap (option_and_then (λ x. child_last_text (child_view x))) (sym (last_is xs) ∙ sym e)

-- what one call wrote
pub write_one : {W : Type 0} (took : W → List ℕ → W → Type 0) (w : W) (bs cs : List ℕ) (v : W) → took w bs v → bs ≡ cs → WritesInCalls took w cs v
write_one took w bs cs v t e = subst (λ ds. WritesInCalls took w ds v) e (writes_in_calls_single took w bs v t)

-- the children from the next one on
pub view_here : (xs : List ElemChild) (i : ℕ) (x : ElemChild) → i < length xs → x ≡ get_or xs i x → map child_view (drop i xs) ≡ child_view x ∷ map child_view (drop (i + 1) xs)
view_here xs i x h e = ap (map child_view) (drop_more xs i x h ∙ ap (λ y. y ∷ drop (i + 1) xs) (sym e))

pub has_content_here : (xs : List ElemChild) (i : ℕ) (x : ElemChild) → i < length xs → x ≡ get_or xs i x → child_has_content (child_view x) ≡ true → has_content (map child_view (drop i xs)) ≡ true
has_content_here xs i x h e t = ap has_content (view_here xs i x h e) ∙ rw t

pub has_content_past : (xs : List ElemChild) (i : ℕ) (x : ElemChild) → i < length xs → x ≡ get_or xs i x → child_has_content (child_view x) ≡ false → has_content (map child_view (drop i xs)) ≡ has_content (map child_view (drop (i + 1) xs))
has_content_past xs i x h e t = ap has_content (view_here xs i x h e) ∙ rw t

pub find_here : (p : Elem → Bool) (xs : List ElemChild) (i : ℕ) (x : ElemChild) → i < length xs → x ≡ get_or xs i x → find_elem p (map child_view (drop i xs)) ≡ option_or (child_find p (child_view x)) (find_elem p (map child_view (drop (i + 1) xs)))
find_here p xs i x h e = ap (find_elem p) (view_here xs i x h e)

pub find_past : (p : Elem → Bool) (xs : List ElemChild) (i : ℕ) (x : ElemChild) → i < length xs → x ≡ get_or xs i x → child_find p (child_view x) ≡ None → find_elem p (map child_view (drop i xs)) ≡ find_elem p (map child_view (drop (i + 1) xs))
find_past p xs i x h e n = find_here p xs i x h e ∙ rw n

pub find_found : (p : Elem → Bool) (xs : List ElemChild) (i : ℕ) (x : ElemChild) (y : Elem) → i < length xs → x ≡ get_or xs i x → child_find p (child_view x) ≡ Some y → find_elem p (map child_view (drop i xs)) ≡ Some y
find_found p xs i x y h e n = find_here p xs i x h e ∙ rw n

pub elem_back : (e : Elem) → elem_of (kids_of e.children) e.display e.meta ≡ e
elem_back e = λ i. record { children = list_of-kids_of e.children i; display = e.display; meta = e.meta }

pub find_self : (p : Elem → Bool) (e : Elem) → p e ≡ true → child_find p (child_view (v.Elem e)) ≡ Some e
find_self p e t = rw (elem_back e, t)

pub view-set : (xs : List ElemChild) (i : ℕ) (w : ElemChild) → map child_view (set xs i w) ≡ set (map child_view xs) i (child_view w)
view-set [] i w = refl
view-set (x ∷ xs) zero w = refl
view-set (x ∷ xs) (suc i) w = ap (λ cs. child_view x ∷ cs) (view-set xs i w)

pub find_skip : (p : Elem → Bool) (e : Elem) → p e ≡ false → child_find p (child_view (v.Elem e)) ≡ find_elem p e.children
find_skip p e t = rw (elem_back e, t)
