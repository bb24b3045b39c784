-- The first element that a closure accepts, one child after another.
use Rattle.std.proofs.Common.{◌≡◌, ℕ, ◌+◌, ◌<◌, List, [], ◌∷◌, ◌++◌, length, get_or, drop, map, Bool, true, false, Option, None, Some, sym, ap, ◌∙◌, subst, append_assoc}
use Rattle.std.specs.List.{All}
use Rattle.std.specs.Borrow.{Bor}
use Rattle.std.proofs.lemmas.List.Elements.{All-append, All-cons, All-nil}
use Rattle.value_trees.specs.ChildView.{child_view}
use Rattle.value_trees.specs.Elements.{child_elements, elements, Answered, IsFirstAccepted}
use Rattle.value_trees.specs.declared.elem.Elem.{Elem}
use Rattle.value_trees.specs.declared.elem.ElemChild.{ElemChild}
use Rattle.value_trees.specs.declared.elem.ElemChild.TheVariants as v
use Rattle.value_trees.proofs.Trees.{view_here, elem_back}

module _ (may_give : Bor Elem → Bool → Type 0) where
  -- what is found among the first elements is found among all
  among_first : (es fs : List Elem) (e : Elem) → IsFirstAccepted may_give es (Some e) → IsFirstAccepted may_give (es ++ fs) (Some e)
  among_first es fs e f = (f.0, f.1 ++ fs, ap (λ gs. gs ++ fs) f.2 ∙ append_assoc f.0 (e ∷ f.1) fs, f.3, f.4)

  -- where the first ones are refused, what is found among the others is found among all
  past_first : (es fs : List Elem) (r : Option Elem) → IsFirstAccepted may_give es None → IsFirstAccepted may_give fs r → IsFirstAccepted may_give (es ++ fs) r
  past_first es fs None h k = All-append (Answered may_give false) es fs h k
  past_first es fs (Some e) h k =
      (es ++ k.0, k.1, ap (λ gs. es ++ gs) k.2 ∙ sym (append_assoc es k.0 (e ∷ k.1)), All-append (Answered may_give false) es k.0 h k.3, k.4)

  elements_here : (xs : List ElemChild) (i : ℕ) (x : ElemChild) → i < length xs → x ≡ get_or xs i x → elements (map child_view (drop i xs)) ≡ child_elements (child_view x) ++ elements (map child_view (drop (i + 1) xs))
  elements_here xs i x h e = ap elements (view_here xs i x h e)

  pub child_refused : (xs : List ElemChild) (i : ℕ) (x : ElemChild) → i < length xs → x ≡ get_or xs i x → IsFirstAccepted may_give (child_elements (child_view x)) None
      → (r : Option Elem) → IsFirstAccepted may_give (elements (map child_view (drop (i + 1) xs))) r → IsFirstAccepted may_give (elements (map child_view (drop i xs))) r
  child_refused xs i x h e none r k =
      subst (λ es. IsFirstAccepted may_give es r) (sym (elements_here xs i x h e)) (past_first (child_elements (child_view x)) (elements (map child_view (drop (i + 1) xs))) r none k)

  pub child_accepted : (xs : List ElemChild) (i : ℕ) (x : ElemChild) → i < length xs → x ≡ get_or xs i x → (e : Elem) → IsFirstAccepted may_give (child_elements (child_view x)) (Some e) → IsFirstAccepted may_give (elements (map child_view (drop i xs))) (Some e)
  child_accepted xs i x h is e k =
      subst (λ es. IsFirstAccepted may_give es (Some e)) (sym (elements_here xs i x h is)) (among_first (child_elements (child_view x)) (elements (map child_view (drop (i + 1) xs))) e k)

  -- an element is accepted before those inside it
  pub elem_accepted : (e : Elem) → Answered may_give true e → IsFirstAccepted may_give (child_elements (child_view (v.Elem e))) (Some e)
  elem_accepted e a = ([], elements e.children, ap (λ x. x ∷ elements e.children) (elem_back e), All-nil (Answered may_give false), a)

  -- and where it is refused, one inside it is
  pub elem_refused : (e : Elem) (r : Option Elem) → Answered may_give false e → IsFirstAccepted may_give (elements e.children) r → IsFirstAccepted may_give (child_elements (child_view (v.Elem e))) r
  elem_refused e r a k =
      let own : All (Answered may_give false) (e ∷ []) = All-cons (Answered may_give false) e [] a (All-nil (Answered may_give false)) in
      subst (λ x. IsFirstAccepted may_give (x ∷ elements e.children) r) (sym (elem_back e)) (past_first (e ∷ []) (elements e.children) r own k)
