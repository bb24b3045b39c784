-- Names written among the children of a tree, one child further.
use Rattle.std.proofs.Common.{◌≡◌, ℕ, ◌+◌, ◌-◌, ◌<◌, ◌≤◌, List, [], ◌∷◌, ◌++◌, map, take, drop, length, get_or, sym, ap, ◌∙◌, arith, append_assoc}
use Rattle.std.proofs.Math.ListN.{set}
use Rattle.std.proofs.lemmas.List.{append-nil, drop_all, length-append, map-append, take_all, take_more_set}
use Rattle.value_trees.specs.Child.{Child}
use Rattle.value_trees.specs.ChildView.{child_view}
use Rattle.value_trees.specs.declared.elem.ElemChild.{ElemChild}
use Rattle.value_trees.proofs.Trees.{view_here}
use Rattle.value_sources.specs.declared.formatting.Formatted.{Formatted}
use Rattle.mentions_authors.specs.Names.{child_names, names_within}
use Rattle.mentions_authors.specs.Substitution.{child_written, names_written}

module _ (ys : List ElemChild) (i : ℕ) (y : ElemChild) (within : i < length ys) (here : y ≡ get_or ys i y) (m n : ℕ) (fewer : n ≡ m - length (child_names (child_view y))) where
  -- names that are left behind the child
  pub left-next : n - length (names_within (map child_view (drop (i + 1) ys))) ≡ m - length (names_within (map child_view (drop i ys)))
  left-next =
      let rest = names_within (map child_view (drop (i + 1) ys)) in
      let parts = ap (λ cs. length (names_within cs)) (view_here ys i y within here) ∙ length-append (child_names (child_view y)) rest in
      omega (arith, fewer, parts)

  -- the child is written
  pub written-next : (t : Formatted) (xs : List ElemChild) (w : ElemChild) (whole : List Child) → i < length xs → child_view w ≡ child_written t m (child_view y)
      → map child_view (take i xs) ++ names_written t m (map child_view (drop i ys)) ≡ whole
      → map child_view (take (i + 1) (set xs i w)) ++ names_written t n (map child_view (drop (i + 1) ys)) ≡ whole
  written-next t xs w whole inside made so_far =
      let rest = map child_view (drop (i + 1) ys) in
      let before = map child_view (take i xs) in
      ap (λ cs. cs ++ names_written t n rest) (ap (map child_view) (take_more_set xs i w inside) ∙ map-append child_view (take i xs) (w ∷ []))
      ∙ append_assoc before (child_view w ∷ []) (names_written t n rest)
      ∙ (λ j. before ++ made j ∷ names_written t (fewer j) rest)
      ∙ sym (ap (λ cs. before ++ names_written t m cs) (view_here ys i y within here))
      ∙ so_far

-- no child is left
pub left-at-end : (ys : List ElemChild) (i n whole : ℕ) → length ys ≤ i → n - length (names_within (map child_view (drop i ys))) ≡ whole → n ≡ whole
left-at-end ys i n whole past so_far =
    let none = ap (λ l. length (names_within (map child_view l))) (drop_all i ys past) in omega (arith, none, so_far)

pub written-at-end : (t : Formatted) (xs ys : List ElemChild) (i n : ℕ) (whole : List Child) → length xs ≤ i → length ys ≤ i
    → map child_view (take i xs) ++ names_written t n (map child_view (drop i ys)) ≡ whole → map child_view xs ≡ whole
written-at-end t xs ys i n whole all past so_far =
    let before = map child_view (take i xs) in
    sym (ap (map child_view) (take_all i xs all)) ∙ sym (append-nil before)
    ∙ ap (λ l. before ++ names_written t n (map child_view l)) (sym (drop_all i ys past))
    ∙ so_far
