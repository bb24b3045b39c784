-- The topmost item that passes a test, as a list grows by one at its end.
use Rattle.std.proofs.Common.{◌≡◌, ℕ, suc, ◌+◌, ◌<◌, List, [], ◌∷◌, ◌++◌, length, take, drop, get_or, Bool, true, false, cond, Some, None, option_map, refl, subst, sym, ap, ◌∙◌, arith}
use Rattle.std.specs.Option.{option_or}
use Rattle.std.specs.List.{All}
use Rattle.std.specs.Borrow.{Bor}
use Rattle.std.proofs.lemmas.List.{take_more, drop_more, length-take-le}
use Rattle.std.proofs.lemmas.List.Elements.{All-cons}
use Rattle.std.proofs.lemmas.Option.{slice_get_read}
use Rattle.value_lists.specs.Stack.{topmost, Gave, IsTopmostAccepted}

module _ {T : Type 0} (p : T → Bool) where
  topmost_pass : (xs : List T) (x : T) → p x ≡ true → topmost p (xs ++ x ∷ []) ≡ Some (length xs)
  topmost_pass [] x e = ap (λ b. cond b (Some 0) None) e
  topmost_pass (y ∷ ys) x e = ap (λ o. option_or (option_map (λ i. suc i) o) (cond (p y) (Some 0) None)) (topmost_pass ys x e)

  topmost_fail : (xs : List T) (x : T) → p x ≡ false → topmost p (xs ++ x ∷ []) ≡ topmost p xs
  topmost_fail [] x e = ap (λ b. cond b (Some 0) None) e
  topmost_fail (y ∷ ys) x e = ap (λ o. option_or (option_map (λ i. suc i) o) (cond (p y) (Some 0) None)) (topmost_fail ys x e)

  -- the item below a height is the topmost one up to there, if it passes
  pub topmost_here : (xs : List T) (i : ℕ) (x : T) → i < length xs → x ≡ get_or xs i x → p x ≡ true → topmost p (take (i + 1) xs) ≡ Some i
  topmost_here xs i x lt at e =
      let t : take (i + 1) xs ≡ take i xs ++ x ∷ [] = take_more xs i x lt ∙ ap (λ y. take i xs ++ y ∷ []) (sym at) in
      ap (topmost p) t ∙ topmost_pass (take i xs) x e ∙ ap (λ n. Some n) (length-take-le i xs (omega arith))

  -- and else the topmost one lies below
  pub topmost_below : (xs : List T) (i : ℕ) (x : T) → i < length xs → x ≡ get_or xs i x → p x ≡ false → topmost p (take (i + 1) xs) ≡ topmost p (take i xs)
  topmost_below xs i x lt at e =
      let t : take (i + 1) xs ≡ take i xs ++ x ∷ [] = take_more xs i x lt ∙ ap (λ y. take i xs ++ y ∷ []) (sym at) in
      ap (topmost p) t ∙ topmost_fail (take i xs) x e

module _ {T : Type 0} (may_give : Bor T → Bool → Type 0) where
  -- the items from a height on, with the one below it
  pub refused_below : (xs : List T) (i n : ℕ) (x : T) → i + 1 ≡ n → i < length xs → x ≡ get_or xs i x → Gave may_give false x → All (Gave may_give false) (drop n xs) → All (Gave may_give false) (drop i xs)
  refused_below xs i n x up lt at one above =
      let d : drop i xs ≡ x ∷ drop n xs = drop_more xs i x lt ∙ ap (λ y. y ∷ drop (i + 1) xs) (sym at) ∙ ap (λ k. x ∷ drop k xs) up in
      subst (All (Gave may_give false)) (sym d) (All-cons (Gave may_give false) x (drop n xs) one above)

  pub accepted_here : (xs : List T) (i n : ℕ) (x : T) → i + 1 ≡ n → i < length xs → x ≡ get_or xs i x → Gave may_give true x → All (Gave may_give false) (drop n xs) → IsTopmostAccepted may_give xs i
  accepted_here xs i n x up lt at one above =
      (x, slice_get_read xs (length xs) i x refl lt at, one, subst (λ k. All (Gave may_give false) (drop k xs)) (sym up) above)
