-- What is inside elements and branches weighs less than they do.
use Rattle.std.proofs.Common.{◌≡◌, ℕ, zero, suc, ◌<◌, List, [], ◌∷◌, length, get_or, ap, arith}
use Rattle.value_styles.specs.declared.element.LayoutRenderingElement.{LayoutRenderingElement}
use Rattle.value_styles.specs.declared.element.ChooseBranch.{ChooseBranch}
use Rattle.value_styles.specs.Element.{Name, Elements, no_elements, element, Branches, otherwise, branch, Branch}
use Rattle.value_styles.specs.Weight.{weight_with, weight_all_with, weight_branches_with}
use Rattle.value_styles.specs.ElementView.{element_view, elements_view, branches_view}
use Rattle.value_styles.proofs.Views.{branch_is}

pub all-positive : (call : Name → ℕ) (es : Elements) → 0 < weight_all_with call es
all-positive call no_elements = omega arith
all-positive call (element e es) = omega (arith, all-positive call es)

pub branches-positive : (call : Name → ℕ) (bs : Branches) → 0 < weight_branches_with call bs
branches-positive call (otherwise es) = omega arith
branches-positive call (branch conditions rule children bs) = omega (arith, branches-positive call bs)

-- an element weighs less than all
pub lt-all : (call : Name → ℕ) (xs : List LayoutRenderingElement) (i : ℕ) (x : LayoutRenderingElement) → i < length xs → x ≡ get_or xs i x
    → weight_with call (element_view x) < weight_all_with call (elements_view xs)
lt-all call [] i x h e = absurd (omega arith)
lt-all call (y ∷ ys) zero x h e = omega (arith, ap (λ z. weight_with call (element_view z)) e, all-positive call (elements_view ys))
lt-all call (y ∷ ys) (suc i) x h e = omega (arith, lt-all call ys i x (omega arith) e)

-- and so does a branch's children
pub lt-branches : (call : Name → ℕ) (es : List LayoutRenderingElement) (xs : List ChooseBranch) (i : ℕ) (x : ChooseBranch) → i < length xs → x ≡ get_or xs i x
    → weight_all_with call (elements_view x.children.items) < weight_branches_with call (branches_view xs es)
lt-branches call es [] i x h e = absurd (omega arith)
lt-branches call es (y ∷ ys) zero x h e =
    omega (arith, ap (λ (z : ChooseBranch). weight_all_with call (elements_view z.children.items)) e, ap (λ (b : Branch). weight_all_with call b.children) (branch_is y), branches-positive call (branches_view ys es))
lt-branches call es (y ∷ ys) (suc i) x h e = omega (arith, lt-branches call es ys i x (omega arith) e)

-- the last part weighs less than all branches
pub lt-last : (call : Name → ℕ) (es : List LayoutRenderingElement) (xs : List ChooseBranch) → weight_all_with call (elements_view es) < weight_branches_with call (branches_view xs es)
lt-last call es [] = omega arith
lt-last call es (y ∷ ys) = omega (arith, lt-last call es ys)
