-- For the code: equality and order of names elements are lawful.
use Rattle.std.specs.Prelude.{◌≡◌, Bool, true, Option, None, Some}
use Rattle.std.specs.Bool.{one_answer}
use Rattle.std.specs.Cmp.{IsEquivalence, IsPartialOrder, IsTotalOrder, po, unsigned_Decides}
use Rattle.std.specs.Cmp.Lexicographic.{lists_ties, pointwise, pointwise_decides}
use Rattle.std.specs.Ordering.{eq_by_cmp}
use Rattle.std.proofs.Common.{refl, ap, sym, ◌∙◌, true≢false}
use Rattle.std.proofs.lemmas.Cmp.{lists_total, on_total}
use Rattle.value_sources.specs.Finds.{Finds, both, and-true, decides, options_find, texts_find}
use Rattle.value_sources.proofs.EqualFormattings.{displays_find, formatted_find, formattings_find}
use Rattle.value_trees.specs.SameElem.{same_elem}
use Rattle.value_trees.specs.SameTree.{equivalence_of}
use Rattle.value_trees.proofs.EqualTrees.{elem_Decides, metas_find}
use Rattle.value_trees.specs.declared.elem.Elem.{Elem}
use Rattle.value_trees.specs.declared.elem.ElemMeta.{ElemMeta}
use Rattle.rounds_grouping.specs.NamesOrder.{names_cmp, token_of, value_cmp}
use Rattle.rounds_grouping.specs.Tokens.{TokenValue, text, markup, link, transparent, begin, end, elem_tokens}
use Rattle.rounds_grouping.specs.SameTokens.{elem_alike}
use Rattle.rounds_grouping.specs.contracts.tokens.TokenPartialEq.TheImpl as token_eq
use Rattle.rounds_grouping.specs.contracts.tokens.TokenOrd.TheImpl.Laws.{matches_eq-law, total-law}

-- equality of tokens, by their derived test
abbrev pub same_value : TokenValue → TokenValue → Bool
same_value a b = (token_eq.ghosts).eq (token_of a) (token_of b)

metas_equal : (m n : Option ElemMeta) → same_value (begin None m) (begin None n) ≡ true → m ≡ n
metas_equal None None e = refl
metas_equal (Some m) (Some n) e = ap Some (metas_find.equal m n e)
metas_equal _ _ e = absurd (true≢false (sym e))

meta_self : (m : Option ElemMeta) → same_value (begin None m) (begin None m) ≡ true
meta_self None = refl
meta_self (Some m) = metas_find.self m

values_find : Finds same_value
values_find = record { equal = equal; self = self }
  where
    equal : (a b : TokenValue) → same_value a b ≡ true → a ≡ b
    equal (text f) (text g) e = ap text (formatted_find.equal f g e)
    equal (markup s) (markup t) e = ap markup (texts_find.equal s t e)
    equal (link f s) (link g t) e = let p = both _ _ e in
        λ i. link (formatted_find.equal f g p.0 i) (texts_find.equal s t p.1 i)
    equal (transparent m f) (transparent n g) e = let p = both _ _ e in
        λ i. transparent ((unsigned_Decides m n).0 p.0 i) (formattings_find.equal f g p.1 i)
    equal (begin d m) (begin n o) e = let p = both _ _ e in
        λ i. begin ((options_find displays_find).equal d n p.0 i) (metas_equal m o p.1 i)
    equal end end e = refl
    equal _ _ e = absurd (true≢false (sym e))

    self : (a : TokenValue) → same_value a a ≡ true
    self (text f) = formatted_find.self f
    self (markup s) = texts_find.self s
    self (link f s) = and-true _ _ (formatted_find.self f) (texts_find.self s)
    self (transparent m f) =
        and-true _ _ ((unsigned_Decides m m).1 refl) (formattings_find.self f)
    self (begin d m) = and-true _ _ ((options_find displays_find).self d) (meta_self m)
    self end = refl

-- elements are equal where their tokens are
pub same_tokens : (a b : Elem)
    → pointwise same_value (elem_tokens a) (elem_tokens b) ≡ same_elem a b
same_tokens a b =
    let d = pointwise_decides (decides values_find) (elem_tokens a) (elem_tokens b) in
    one_answer (pointwise same_value (elem_tokens a) (elem_tokens b)) (same_elem a b)
    (λ e. elem_alike a b (d.0 e), λ p. d.1 (ap elem_tokens p)) (elem_Decides a b)

pub names_equivalence : IsEquivalence same_elem
names_equivalence = equivalence_of same_elem elem_Decides

pub names_total : IsTotalOrder names_cmp
names_total = on_total elem_tokens (lists_total (on_total token_of total-law))

pub names_tied : (a b : Elem) → same_elem a b ≡ eq_by_cmp names_cmp a b
names_tied a b = sym (same_tokens a b)
    ∙ lists_ties value_cmp (λ x y. matches_eq-law (token_of x) (token_of y))
    (elem_tokens a) (elem_tokens b)

pub names_partial_order : IsPartialOrder same_elem (λ a b. Some (names_cmp a b))
names_partial_order = po names_total names_tied
