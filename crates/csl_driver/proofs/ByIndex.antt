-- What is made of the members of a list by their indexes, one after another.
use Rattle.std.proofs.Common.{◌≡◌, ℕ, ◌+◌, ◌<◌, List, [], ◌∷◌, ◌++◌, length, map, take, get_or, ap, sym, ◌∙◌, arith, append-nil}
use Rattle.std.specs.List.{enumerate_from, flat_map}
use Rattle.std.proofs.Math.Seq.{length-take-le}
use Rattle.std.proofs.lemmas.Grind.{flat_map-append}
use Rattle.std.proofs.lemmas.List.{map-append, take_more}
use Rattle.list_lemmas.proofs.Members.{enumerate-push}

module _ {X : Type 0} (xs : List X) (k : ℕ) (x : X) (within : k < length xs) (here : x ≡ get_or xs k x) where
  -- the pairs of members and indexes
  pub numbered-more : enumerate_from 0 (take (k + 1) xs) ≡ enumerate_from 0 (take k xs) ++ (k, x) ∷ []
  numbered-more =
      let long = length-take-le k xs (omega (arith, within)) in
      let last : 0 + length (take k xs) ≡ k = omega (arith, long) in
      ap (enumerate_from 0) (take_more xs k x within ∙ ap (λ y. take k xs ++ y ∷ []) (sym here)) ∙ enumerate-push 0 (take k xs) x
      ∙ ap (λ n. enumerate_from 0 (take k xs) ++ (n, x) ∷ []) last

  pub each-more : {A : Type 0} (f : ℕ → X → A) → map (λ p. f p.0 p.1) (enumerate_from 0 (take (k + 1) xs)) ≡ map (λ p. f p.0 p.1) (enumerate_from 0 (take k xs)) ++ f k x ∷ []
  each-more f = ap (map (λ p. f p.0 p.1)) numbered-more ∙ map-append (λ p. f p.0 p.1) (enumerate_from 0 (take k xs)) ((k, x) ∷ [])

  pub all-more : {A : Type 0} (f : ℕ → X → List A) → flat_map (λ p. f p.0 p.1) (enumerate_from 0 (take (k + 1) xs)) ≡ flat_map (λ p. f p.0 p.1) (enumerate_from 0 (take k xs)) ++ f k x
  all-more f =
      ap (flat_map (λ p. f p.0 p.1)) numbered-more ∙ flat_map-append (λ p. f p.0 p.1) (enumerate_from 0 (take k xs)) ((k, x) ∷ [])
      ∙ ap (λ l. flat_map (λ p. f p.0 p.1) (enumerate_from 0 (take k xs)) ++ l) (append-nil (f k x))
