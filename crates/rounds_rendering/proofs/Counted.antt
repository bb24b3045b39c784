-- Which marks count: the code's loops.
use Rattle.std.proofs.Common.{◌≡◌, ℕ, ◌<◌, Bool, true, false, cond, Option, Some, None, List, [], ◌∷◌, ◌++◌, length, filter, get_or, refl, ap, sym, subst, ◌∙◌, append_assoc}
use Rattle.std.specs.Prelude.{All, option_map}
use Rattle.std.specs.Option.{option_map_or}
use Rattle.std.proofs.lemmas.List.Elements.{All-get_or}

-- a test of what f makes
pub mapped-or : {A B : Type 0} (f : A → B) (q : B → Bool) (o : Option A) → option_map_or q (option_map f o) false ≡ option_map_or (λ a. q (f a)) o false
mapped-or f q None = refl
mapped-or f q (Some a) = refl

-- members that pass a test are kept, one after another
module _ {X : Type 0} (q : X → Bool) (kept all rest left : List X) (x : X) (split : left ≡ x ∷ rest) (so_far : kept ++ filter q left ≡ all) where
  next : kept ++ cond (q x) (x ∷ filter q rest) (filter q rest) ≡ all
  next = sym (ap (λ l. kept ++ filter q l) split) ∙ so_far

  pub kept-more : (now : List X) → q x ≡ true → now ≡ kept ++ x ∷ [] → now ++ filter q rest ≡ all
  kept-more now h push =
      ap (λ l. l ++ filter q rest) push ∙ append_assoc kept (x ∷ []) (filter q rest) ∙ ap (λ b. kept ++ cond b (x ∷ filter q rest) (filter q rest)) (sym h) ∙ next

  pub kept-skip : q x ≡ false → kept ++ filter q rest ≡ all
  kept-skip h = ap (λ b. kept ++ cond b (x ∷ filter q rest) (filter q rest)) (sym h) ∙ next
