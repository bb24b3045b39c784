-- Styles are checked one by one.
use Rattle.std.proofs.Common.{◌≡◌, refl, sym, ap, subst, ◌∙◌, ℕ, zero, suc, ◌+◌, ◌<◌, ◌≤◌, List, [], ◌∷◌, map, length, get_or, drop, arith, Result, Ok, Err, Some}
use Rattle.std.specs.Prelude.{⊤, option_map}
use Rattle.std.specs.List.{All, Any}
use Rattle.std.proofs.lemmas.List.{at_drop_more, drop_all}
use Rattle.std.proofs.lemmas.List.Elements.{All-cons}
use Rattle.value_styles.specs.Ring.{HasNoRing, IsFirstRing}
use Rattle.value_styles.specs.Style.{StyleValue}
use Rattle.value_styles.specs.StyleView.{style_view}
use Rattle.driver_styles.specs.Limited.{Exceeds, IsWithinLimits}
use Rattle.driver_styles.specs.declared.limits.Excess.{Excess}
use Rattle.driver_styles.specs.declared.limits.Limits.{Limits}
use Rattle.document_styles.specs.NamedStyleView.{named_styles_view}
use Rattle.document_styles.specs.declared.styles.NamedStyle.{NamedStyle}
use Rattle.document_answer.specs.Limited.{ChecksEach, ChecksStyles, named_styles_in, styles_in}
use Rattle.document_answer.specs.declared.limits.LimitError.{LimitError}
use Rattle.document_answer.specs.declared.limits.LimitError.TheVariants as errors

module _ (limits : Limits) where
  -- ---- of one style

  pub none-checked : ChecksEach limits [] (Ok tt)
  none-checked = λ k d h. absurd (omega (arith, h))

  pub sound-checked : (s : StyleValue) → IsWithinLimits limits s → ChecksEach limits (s ∷ []) (Ok tt)
  sound-checked s h = All-cons (λ s. HasNoRing s.macros → IsWithinLimits limits s) s [] (λ no. h) none-checked

  pub ring-checked : (s : StyleValue) (i : ℕ) → IsFirstRing s.macros (Some i) → ChecksEach limits (s ∷ []) (Ok tt)
  ring-checked s i h = All-cons (λ s. HasNoRing s.macros → IsWithinLimits limits s) s []
      (λ no. absurd (no (h.0.0).name h.0.3)) none-checked

  pub excess-checked : (s : StyleValue) (which : Excess) → Exceeds which limits s → ChecksEach limits (s ∷ []) (Err (errors.Exceeded which))
  excess-checked s which h = (0, s, omega arith, refl, h)

  -- ---- of one style and those behind it

  checked-on : (s : StyleValue) (ss : List StyleValue) (r : Result ⊤ LimitError)
      → ChecksEach limits (s ∷ []) (Ok tt) → ChecksEach limits ss r → ChecksEach limits (s ∷ ss) r
  checked-on s ss (Ok done) one h = All-cons (λ s. HasNoRing s.macros → IsWithinLimits limits s) s ss (one 0 s (omega arith)) h
  checked-on s ss (Err (errors.Exceeded which)) one h = (suc h.0, h.1, omega (arith, h.2), h.3, h.4)
  checked-on s ss (Err errors.Document) one h = h
  checked-on s ss (Err errors.OutOfMemory) one h = tt

  refused-on : (s : StyleValue) (ss : List StyleValue) (e : LimitError)
      → ChecksEach limits (s ∷ []) (Err e) → ChecksEach limits (s ∷ ss) (Err e)
  refused-on s ss (errors.Exceeded which) (zero, x, short, at, h) = (0, x, omega arith, at, h)
  refused-on s ss (errors.Exceeded which) (suc k, x, short, at, h) = absurd (omega (arith, short))
  refused-on s ss errors.Document h = h
  refused-on s ss errors.OutOfMemory h = tt

  -- ---- the same of the next of several

  abbrev views : List NamedStyle → List StyleValue
  views = map (λ s. style_view s.style)

  pub next-checked : (xs : List NamedStyle) (i : ℕ) (x : NamedStyle) (r : Result ⊤ LimitError) → i < length xs → x ≡ get_or xs i x
      → ChecksEach limits (style_view x.style ∷ []) (Ok tt) → ChecksEach limits (views (drop (i + 1) xs)) r → ChecksEach limits (views (drop i xs)) r
  next-checked xs i x r h e one rest =
      subst (λ ss. ChecksEach limits ss r)
      (sym (at_drop_more views xs i x h ∙ ap (λ (y : NamedStyle). style_view y.style ∷ views (drop (i + 1) xs)) (sym e)))
      (checked-on (style_view x.style) (views (drop (i + 1) xs)) r one rest)

  pub next-refused : (xs : List NamedStyle) (i : ℕ) (x : NamedStyle) (err : LimitError) → i < length xs → x ≡ get_or xs i x
      → ChecksEach limits (style_view x.style ∷ []) (Err err) → ChecksEach limits (views (drop i xs)) (Err err)
  next-refused xs i x err h e one =
      subst (λ ss. ChecksEach limits ss (Err err))
      (sym (at_drop_more views xs i x h ∙ ap (λ (y : NamedStyle). style_view y.style ∷ views (drop (i + 1) xs)) (sym e)))
      (refused-on (style_view x.style) (views (drop (i + 1) xs)) err one)

  pub end-checked : (xs : List NamedStyle) (i : ℕ) → length xs ≤ i → ChecksEach limits (views (drop i xs)) (Ok tt)
  end-checked xs i h = subst (λ ys. ChecksEach limits (views ys) (Ok tt)) (sym (drop_all i xs h)) none-checked

  -- ---- the styles of a document

  seen-styles : (xs : List NamedStyle) → map (λ s. s.1) (named_styles_view xs) ≡ views xs
  seen-styles [] = refl
  seen-styles (x ∷ xs) = ap (λ ys. style_view x.style ∷ ys) (seen-styles xs)

  pub document-checked : (bytes : List ℕ) (xs : List NamedStyle) (r : Result ⊤ LimitError)
      → named_styles_in bytes ≡ Some (named_styles_view xs) → ChecksEach limits (views xs) r → ChecksStyles limits (styles_in bytes) r
  document-checked bytes xs (Err errors.Document) e h = absurd h
  document-checked bytes xs (Err errors.OutOfMemory) e h = tt
  document-checked bytes xs (Err (errors.Exceeded which)) e h = (views xs, ap (option_map (map (λ s. s.1))) e ∙ ap Some (seen-styles xs), h)
  document-checked bytes xs (Ok done) e h = (views xs, ap (option_map (map (λ s. s.1))) e ∙ ap Some (seen-styles xs), h)
