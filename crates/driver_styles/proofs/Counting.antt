-- Elements are counted from left to right.
use Rattle.std.proofs.Common.{◌≡◌, refl, sym, subst, drop, length, get_or, ◌≤◌, ℕ, zero, suc, ◌+◌, ◌-◌, ◌<◌, List, [], ◌∷◌, ◌++◌, ◌&&◌, arith, rules, inr}
use Rattle.std.specs.Prelude.{Result, Ok, Err, IfErr, Some, ⊤}
use Rattle.value_styles.specs.Style.{BibliographyValue, StyleValue}
use Rattle.std.proofs.lemmas.List.Folds.{list_all-append}
use Rattle.std.proofs.lemmas.List.Sums.{sum_by-append}
use Rattle.value_styles.specs.Element.{Element, Macro}
use Rattle.value_styles.specs.ElementView.{branches_view, element_view, elements_view}
use Rattle.value_styles.specs.declared.element.ChooseBranch.{ChooseBranch}
use Rattle.value_styles.specs.declared.element.LayoutRenderingElement.{LayoutRenderingElement}
use Rattle.value_styles.proofs.Views.{branches_rest, elements_rest}
use Rattle.driver_styles.specs.declared.limits.Excess.{Excess}
use Rattle.driver_styles.specs.declared.limits.Excess.TheVariants as excess
use Rattle.driver_styles.specs.declared.limits.Limits.{Limits}
use Rattle.driver_styles.specs.Limited.{ChecksLayout, Counted, Exceeds}
use Rattle.driver_styles.specs.Nesting.{branch_items, count_to, children_of, items, nests_within}

module _ (macros : List Macro) where
  pub nests-joined : (depth : ℕ) (xs ys : List Element)
      → nests_within macros depth (xs ++ ys) ≡ (nests_within macros depth xs && nests_within macros depth ys)
  nests-joined zero [] ys = refl
  nests-joined zero (x ∷ xs) ys = refl
  nests-joined (suc depth) xs ys = list_all-append (λ e. nests_within macros depth (children_of macros e)) xs ys

  pub count-joined : (depth : ℕ) (xs ys : List Element)
      → count_to macros depth (xs ++ ys) ≡ count_to macros depth xs + count_to macros depth ys
  count-joined zero xs ys = refl
  count-joined (suc depth) xs ys = sum_by-append (λ e. 1 + count_to macros depth (children_of macros e)) xs ys

  -- none are within any limit
  pub none-counted : (depth left : ℕ) → Counted macros depth [] left (Ok left)
  none-counted zero left = search rules
  none-counted (suc depth) left = search rules

  -- elements behind those that were counted
  pub counted-on : (depth allowed left : ℕ) (xs ys : List Element) (r : Result ℕ Excess)
      → Counted macros depth xs allowed (Ok left) → Counted macros depth ys left r → Counted macros depth (xs ++ ys) allowed r
  counted-on depth allowed left xs ys (Ok rest) h k =
      let n = nests-joined depth xs ys in let c = count-joined depth xs ys in search (rules, arith, n, c, h, k)
  counted-on depth allowed left xs ys (Err excess.Depth) h k =
      let n = nests-joined depth xs ys in search (rules, n, h, k)
  counted-on depth allowed left xs ys (Err excess.Elements) h k =
      let c = count-joined depth xs ys in omega (arith, c, h.1, k)

  -- what exceeds a limit does so with others behind it
  pub exceeded-on : (depth allowed : ℕ) (xs ys : List Element) (which : Excess)
      → Counted macros depth xs allowed (Err which) → Counted macros depth (xs ++ ys) allowed (Err which)
  exceeded-on depth allowed xs ys excess.Depth h = let n = nests-joined depth xs ys in search (rules, n, h)
  exceeded-on depth allowed xs ys excess.Elements h = omega (arith, count-joined depth xs ys, h)

  -- an element counts one more than those in it
  pub one-counted : (depth allowed : ℕ) (e : Element) (r : Result ℕ Excess) → 0 < depth → 0 < allowed
      → Counted macros (depth - 1) (children_of macros e) (allowed - 1) r → Counted macros depth (e ∷ []) allowed r
  one-counted zero allowed e r p q h = absurd (omega arith)
  one-counted (suc depth) zero e r p q h = absurd (omega arith)
  one-counted (suc depth) (suc allowed) e (Ok left) p q h = search (rules, arith, h)
  one-counted (suc depth) (suc allowed) e (Err excess.Depth) p q h = search (rules, h)
  one-counted (suc depth) (suc allowed) e (Err excess.Elements) p q h = search (rules, arith, h)

  pub end-counted : (depth left : ℕ) (xs : List LayoutRenderingElement) (i : ℕ) → length xs ≤ i
      → Counted macros depth (items (elements_view (drop i xs))) left (Ok left)
  end-counted depth left [] zero h = none-counted depth left
  end-counted depth left [] (suc i) h = none-counted depth left
  end-counted depth left (x ∷ xs) zero h = absurd (omega arith)
  end-counted depth left (x ∷ xs) (suc i) h = end-counted depth left xs i (omega arith)

  -- ---- the next of several elements, and the next of several branches

  pub element_counted : (depth allowed left : ℕ) (xs : List LayoutRenderingElement) (i : ℕ) (x : LayoutRenderingElement) (r : Result ℕ Excess)
      → i < length xs → x ≡ get_or xs i x
      → Counted macros depth (element_view x ∷ []) allowed (Ok left) → Counted macros depth (items (elements_view (drop (i + 1) xs))) left r
      → Counted macros depth (items (elements_view (drop i xs))) allowed r
  element_counted depth allowed left xs i x r h e one rest =
      subst (λ es. Counted macros depth (items es) allowed r) (sym (elements_rest xs i x h e))
      (counted-on depth allowed left (element_view x ∷ []) (items (elements_view (drop (i + 1) xs))) r one rest)

  pub element_exceeds : (depth allowed : ℕ) (xs : List LayoutRenderingElement) (i : ℕ) (x : LayoutRenderingElement) (which : Excess)
      → i < length xs → x ≡ get_or xs i x
      → Counted macros depth (element_view x ∷ []) allowed (Err which) → Counted macros depth (items (elements_view (drop i xs))) allowed (Err which)
  element_exceeds depth allowed xs i x which h e one =
      subst (λ es. Counted macros depth (items es) allowed (Err which)) (sym (elements_rest xs i x h e))
      (exceeded-on depth allowed (element_view x ∷ []) (items (elements_view (drop (i + 1) xs))) which one)

  pub branch_counted : (depth allowed left : ℕ) (es : List LayoutRenderingElement) (xs : List ChooseBranch) (i : ℕ) (x : ChooseBranch) (r : Result ℕ Excess)
      → i < length xs → x ≡ get_or xs i x
      → Counted macros depth (items (elements_view x.children.items)) allowed (Ok left) → Counted macros depth (branch_items (branches_view (drop (i + 1) xs) es)) left r
      → Counted macros depth (branch_items (branches_view (drop i xs) es)) allowed r
  branch_counted depth allowed left es xs i x r h e one rest =
      subst (λ bs. Counted macros depth (branch_items bs) allowed r) (sym (branches_rest es xs i x h e))
      (counted-on depth allowed left (items (elements_view x.children.items)) (branch_items (branches_view (drop (i + 1) xs) es)) r one rest)

  pub branch_exceeds : (depth allowed : ℕ) (es : List LayoutRenderingElement) (xs : List ChooseBranch) (i : ℕ) (x : ChooseBranch) (which : Excess)
      → i < length xs → x ≡ get_or xs i x
      → Counted macros depth (items (elements_view x.children.items)) allowed (Err which)
      → Counted macros depth (branch_items (branches_view (drop i xs) es)) allowed (Err which)
  branch_exceeds depth allowed es xs i x which h e one =
      subst (λ bs. Counted macros depth (branch_items bs) allowed (Err which)) (sym (branches_rest es xs i x h e))
      (exceeded-on depth allowed (items (elements_view x.children.items)) (branch_items (branches_view (drop (i + 1) xs) es)) which one)

-- ---- the layouts of a style

-- what is found in the bibliography's layout, is found in the style
pub exceeded-there : (limits : Limits) (style : StyleValue) (b : BibliographyValue) (r : Result ⊤ Excess) → style.bibliography ≡ Some b
    → ChecksLayout limits style.macros (items b.layout.elements) r → IfErr r (λ which. Exceeds which limits style)
exceeded-there limits style b (Ok done) e h = search rules
exceeded-there limits style b (Err which) e h = inr (b, e, h)
