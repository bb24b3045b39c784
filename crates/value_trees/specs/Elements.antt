-- The elements of a tree in preorder, and what a search by a closure finds among them.
use Rattle.std.specs.Prelude.{◌≡◌, Bool, true, false, List, [], ◌∷◌, ◌++◌, Option, None, Some, All}
use Rattle.std.specs.Borrow.{Bor}
use Rattle.value_trees.specs.Child.{Child, text, elem, markup, link, transparent, Kids, no_kids, kid, kids_of}
use Rattle.value_trees.specs.declared.elem.Elem.{Elem}
use Rattle.value_trees.specs.Tree.{elem_of}

-- an element comes before those in it, and those in it before those after it
abbrev mutual
  pub child_elements : Child → List Elem
  child_elements (text f) = []
  child_elements (elem ks d m) = elem_of ks d m ∷ kids_elements ks
  child_elements (markup s) = []
  child_elements (link f s) = []
  child_elements (transparent i f) = []

  pub kids_elements : Kids → List Elem
  kids_elements no_kids = []
  kids_elements (kid c ks) = child_elements c ++ kids_elements ks

abbrev pub elements : List Child → List Elem
elements cs = kids_elements (kids_of cs)

-- a closure, known by what it may give at a reference, gave that answer at an element
abbrev pub Answered : (Bor Elem → Bool → Type 0) → Bool → Elem → Type 0
Answered may_give answer e = (r : Bor Elem) × (r.now ≡ e) × may_give r answer

-- the closure accepted that element and refused those before it; or it refused all
abbrev pub IsFirstAccepted : (Bor Elem → Bool → Type 0) → List Elem → Option Elem → Type 0
IsFirstAccepted may_give es None = All (Answered may_give false) es
IsFirstAccepted may_give es (Some e) =
    (before : List Elem) × (after : List Elem) × (es ≡ before ++ e ∷ after)
    × All (Answered may_give false) before × Answered may_give true e
