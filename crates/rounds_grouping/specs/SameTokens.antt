-- For the code: elements with the same tokens are equal.
use Rattle.std.specs.Prelude.{◌≡◌, List, [], ◌∷◌, ◌++◌, Option}
use Rattle.std.proofs.Common.{refl, ap, sym, ◌∙◌, append_assoc, append-nil}
use Rattle.value_sources.specs.declared.formatting.Display.{Display}
use Rattle.value_trees.specs.Child as tree
use Rattle.value_trees.specs.Child.{Child, Kids, no_kids, kid, kids_of, list_of, list_of-kids_of}
use Rattle.value_trees.specs.declared.elem.Elem.{Elem}
use Rattle.value_trees.specs.declared.elem.ElemMeta.{ElemMeta}
use Rattle.rounds_grouping.specs.Tokens.{TokenValue, begin, end, child_tokens, kids_tokens, elem_tokens}

-- what stands within elements that have the same tokens, with others behind
inner_alike : (d e : Option Display) (m n : Option ElemMeta) (ks ls r s : List TokenValue)
    → (begin d m ∷ (ks ++ end ∷ [])) ++ r ≡ (begin e n ∷ (ls ++ end ∷ [])) ++ s
    → ks ++ end ∷ r ≡ ls ++ end ∷ s
inner_alike d e m n ks ls r s p =
    let same : (ks ++ end ∷ []) ++ r ≡ (ls ++ end ∷ []) ++ s = cc in
    sym (append_assoc ks (end ∷ []) r) ∙ same ∙ append_assoc ls (end ∷ []) s

-- no child begins with the end of an element
not_end : (c : Child) (r s : List TokenValue) → end ∷ r ≡ child_tokens c ++ s → ⊥
not_end (tree.text f) r s p = cc
not_end (tree.elem ks d m) r s p = cc
not_end (tree.markup t) r s p = cc
not_end (tree.link f t) r s p = cc
not_end (tree.transparent i f) r s p = cc

mutual
  -- the tokens of a child tell it, whatever stands behind them
  child_told : (c d : Child) (r s : List TokenValue) → child_tokens c ++ r ≡ child_tokens d ++ s
      → (c ≡ d) × (r ≡ s)
  child_told (tree.text f) (tree.text g) r s p = (cc, cc)
  child_told (tree.elem ks d m) (tree.elem ls e n) r s p =
      let inner = kids_told ks ls r s
      (inner_alike d e m n (kids_tokens ks) (kids_tokens ls) r s p) in
      let display : d ≡ e = cc in
      let meta : m ≡ n = cc in
      ((λ i. tree.elem (inner.0 i) (display i) (meta i)), inner.1)
  child_told (tree.markup t) (tree.markup u) r s p = (cc, cc)
  child_told (tree.link f t) (tree.link g u) r s p = (cc, cc)
  child_told (tree.transparent i f) (tree.transparent j g) r s p = (cc, cc)
  child_told _ _ r s p = absurd (cc)

  -- so do those of children, where the end of an element stands behind them
  kids_told : (ks ls : Kids) (r s : List TokenValue)
      → kids_tokens ks ++ end ∷ r ≡ kids_tokens ls ++ end ∷ s → (ks ≡ ls) × (r ≡ s)
  kids_told no_kids no_kids r s p = (refl, cc)
  kids_told no_kids (kid d ls) r s p =
      absurd (not_end d r (kids_tokens ls ++ end ∷ s)
      (p ∙ append_assoc (child_tokens d) (kids_tokens ls) (end ∷ s)))
  kids_told (kid c ks) no_kids r s p =
      absurd (not_end c s (kids_tokens ks ++ end ∷ r)
      (sym p ∙ append_assoc (child_tokens c) (kids_tokens ks) (end ∷ r)))
  kids_told (kid c ks) (kid d ls) r s p =
      let first = child_told c d (kids_tokens ks ++ end ∷ r) (kids_tokens ls ++ end ∷ s)
      (sym (append_assoc (child_tokens c) (kids_tokens ks) (end ∷ r)) ∙ p
      ∙ append_assoc (child_tokens d) (kids_tokens ls) (end ∷ s)) in
      let rest = kids_told ks ls r s first.1 in
      ((λ i. kid (first.0 i) (rest.0 i)), rest.1)

child_alike : (c d : Child) → child_tokens c ≡ child_tokens d → c ≡ d
child_alike c d p = (child_told c d [] []
    (append-nil (child_tokens c) ∙ p ∙ sym (append-nil (child_tokens d)))).0

pub elem_alike : (a b : Elem) → elem_tokens a ≡ elem_tokens b → a ≡ b
elem_alike a b p =
    let same = child_alike (tree.elem (kids_of a.children) a.display a.meta)
    (tree.elem (kids_of b.children) b.display b.meta) p in
    let kids : kids_of a.children ≡ kids_of b.children = cc in
    let display : a.display ≡ b.display = cc in
    let meta : a.meta ≡ b.meta = cc in
    let children : a.children ≡ b.children =
    sym (list_of-kids_of a.children) ∙ ap list_of kids ∙ list_of-kids_of b.children in
    λ i. record { children = children i; display = display i; meta = meta i }
