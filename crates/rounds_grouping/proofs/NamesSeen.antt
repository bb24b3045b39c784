-- The tokens of the code are compared as what they are seen as.
use Rattle.std.proofs.Common.{◌≡◌, true, ◌&&◌, List, [], ◌∷◌, None, Some, refl, sym, ◌∙◌}
use Rattle.std.specs.Cmp.{Equal-is, unsigned_Decides}
use Rattle.std.specs.Cmp.Lexicographic.{pointwise, slice_cmp}
use Rattle.std.specs.Ordering.{ordering_then}
use Rattle.std.specs.declared.cmp.Ordering.TheVariants.{Equal}
use Rattle.std.proofs.lemmas.Cmp.{alike_right}
use Rattle.value_sources.specs.Finds.{and-true, options_find, texts_find}
use Rattle.value_sources.proofs.EqualFormattings.{displays_find, formatted_find, formattings_find}
use Rattle.value_trees.specs.SameElem.{same_elem}
use Rattle.value_trees.proofs.EqualTrees.{metas_find}
use Rattle.value_trees.specs.declared.elem.Elem.{Elem}
use Rattle.rounds_grouping.specs.NamesLaws.{same_tokens, same_value}
use Rattle.rounds_grouping.specs.NamesOrder.{names_cmp, token_of, value_cmp}
use Rattle.rounds_grouping.specs.Tokens.{elem_tokens}
use Rattle.rounds_grouping.specs.TokenView.{token_view, tokens_view}
use Rattle.rounds_grouping.specs.contracts.tokens.TokenPartialEq.TheImpl as token_eq
use Rattle.rounds_grouping.specs.contracts.tokens.TokenOrd.TheImpl as token_ord
use Rattle.rounds_grouping.specs.contracts.tokens.TokenEq.TheImpl.Laws.{laws-law}
use Rattle.rounds_grouping.specs.contracts.tokens.TokenOrd.TheImpl.Laws.{matches_eq-law, total-law}
use Rattle.rounds_grouping.specs.declared.tokens.Token.{Token}
use Rattle.rounds_grouping.specs.declared.tokens.Token.TheVariants as token

-- a token is equal to one at other places that is seen as the same
alike : (x : Token) → (token_eq.ghosts).eq x (token_of (token_view x)) ≡ true
alike (token.Text f) = formatted_find.self f.now
alike (token.Markup s) = texts_find.self s.now
alike (token.Link f s) = and-true _ _ (formatted_find.self f.now) (texts_find.self s.now)
alike (token.Transparent m f) = and-true _ _ ((unsigned_Decides m m).1 refl) (formattings_find.self f)
alike (token.Open d None) = and-true _ _ ((options_find displays_find).self d) refl
alike (token.Open d (Some m)) = and-true _ _ ((options_find displays_find).self d) (metas_find.self m.now)
alike token.Close = refl

level : (x : Token) → (token_ord.ghosts).cmp x (token_of (token_view x)) ≡ Equal
level x = (Equal-is _).0 (sym (matches_eq-law x (token_of (token_view x))) ∙ alike x)

seen_eq : (x y : Token) → (token_eq.ghosts).eq x y ≡ same_value (token_view x) (token_view y)
seen_eq x y =
    let v = token_of (token_view x) in
    let w = token_of (token_view y) in
    laws-law.congr x v y (alike x) ∙ laws-law.symm v y ∙ laws-law.congr y w v (alike y) ∙ laws-law.symm w v

seen_cmp : (x y : Token) → (token_ord.ghosts).cmp x y ≡ value_cmp (token_view x) (token_view y)
seen_cmp x y =
    let v = token_of (token_view x) in
    let w = token_of (token_view y) in
    total-law.congr x v y (level x) ∙ alike_right total-law y w v (level y)

lists_eq : (xs ys : List Token) → pointwise (token_eq.ghosts).eq xs ys ≡ pointwise same_value (tokens_view xs) (tokens_view ys)
lists_eq [] [] = refl
lists_eq (x ∷ xs) (y ∷ ys) = λ i. seen_eq x y i && lists_eq xs ys i
lists_eq _ _ = refl

lists_cmp : (xs ys : List Token) → slice_cmp (token_ord.ghosts).cmp xs ys ≡ slice_cmp value_cmp (tokens_view xs) (tokens_view ys)
lists_cmp [] [] = refl
lists_cmp (x ∷ xs) (y ∷ ys) = λ i. ordering_then (seen_cmp x y i) (lists_cmp xs ys i)
lists_cmp _ _ = refl

-- of two elements and their tokens
module _ (xs ys : List Token) (v w a b : Elem) (x : tokens_view xs ≡ elem_tokens v) (y : tokens_view ys ≡ elem_tokens w) (p : v ≡ a) (q : w ≡ b) where
  pub names_eq : pointwise (token_eq.ghosts).eq xs ys ≡ same_elem a b
  names_eq = lists_eq xs ys ∙ (λ i. pointwise same_value (x i) (y i)) ∙ same_tokens v w ∙ (λ i. same_elem (p i) (q i))

  pub names_ordered : slice_cmp (token_ord.ghosts).cmp xs ys ≡ names_cmp a b
  names_ordered = lists_cmp xs ys ∙ (λ i. slice_cmp value_cmp (x i) (y i)) ∙ (λ i. names_cmp (p i) (q i))
