-- Forms of nodes that agree on parts agree on the whole.
use Rattle.std.proofs.Common.{◌≡◌, ℕ, zero, suc, ◌+◌, ◌-◌, ◌<◌, cond, is_some, Option, refl, ap, ◌∙◌, arith}
use Rattle.std.specs.Prelude.{codes}
use Rattle.serde_json.specs.Data.{Data, depth}
use Rattle.serde_json.specs.Find.{get}
use Rattle.value_trees.specs.Child.{Child}
use Rattle.document_styles.proofs.Nesting.{AgreeBelow, list_agrees}
use Rattle.document_tasks.specs.TreeForm.{element_keys, elem_form, markup_form, cite_mark_form, text_child_form, node_over, node_within, node_form, NodesNest}

module _ (f g : Data → Option Child) where
  element_agrees : (d : Data) → AgreeBelow f g (depth d) → elem_form f d ≡ elem_form g d
  unfolding elem_form
  element_agrees d agree = list_agrees f g element_keys (codes "children") d _ _ agree (λ xs. refl)

  over_agrees : (d : Data) → AgreeBelow f g (depth d) → node_over f d ≡ node_over g d
  over_agrees d agree =
      let a = element_agrees d agree in
      λ i. cond (is_some (get (codes "children") d)) (a i)
      (cond (is_some (get (codes "markup") d)) (markup_form d) (cond (is_some (get (codes "cite") d)) (cite_mark_form d) (text_child_form d)))

-- ---- no bound matters

enough : (n k : ℕ) (d : Data) → depth d < n → node_within (n + k) d ≡ node_within n d
enough zero k d h = absurd (omega (arith, h))
enough (suc n) k d h =
    let next : suc n + k ≡ suc (n + k) = omega arith in
    ap (λ j. node_within j d) next
    ∙ over_agrees (node_within (n + k)) (node_within n) d (λ e j. enough n k e (omega (arith, h, j)))

bound_unfelt : (n : ℕ) (d : Data) → depth d < n → node_within n d ≡ node_form d
unfolding node_form
bound_unfelt n d h =
    let sum : n ≡ suc (depth d) + (n - suc (depth d)) = omega (arith, h) in
    ap (λ j. node_within j d) sum ∙ enough (suc (depth d)) (n - suc (depth d)) d (omega arith)

opened : (d : Data) → node_form d ≡ node_over (node_within (depth d)) d
unfolding node_form
opened d = refl

pub nodes_nest : NodesNest
nodes_nest d = opened d ∙ over_agrees (node_within (depth d)) node_form d (λ e j. bound_unfelt (depth d) e j)
