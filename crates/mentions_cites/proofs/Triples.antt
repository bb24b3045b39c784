-- What is made of three lists, side by side, one more.
use Rattle.std.proofs.Common.{◌≡◌, ℕ, ◌+◌, ◌<◌, ◌≤◌, min, List, [], ◌∷◌, ◌++◌, length, map, take, get_or, refl, ap, sym, subst, ◌∙◌, arith}
use Rattle.std.specs.List.{zip}
use Rattle.std.proofs.Math.ListN.{get_or-map}
use Rattle.std.proofs.lemmas.List.{length-map, map-append, take_all}
use Rattle.std.proofs.lemmas.Slice.Zip.{length-zip}
use Rattle.mentions_tables.proofs.Changing.{take-next, zip-at}

-- a member as it is seen
module _ {X Y : Type 0} (view : X → Y) (xs : List X) (k : ℕ) where
  pub seen-there : k < length xs → k < length (map view xs)
  seen-there within = subst (λ n. k < n) (sym (length-map xs view)) within

  pub seen-here : (x : X) → x ≡ get_or xs k x → view x ≡ get_or (map view xs) k (view x)
  seen-here x here = ap view here ∙ sym (get_or-map view xs k x)

pub none-taken : {X : Type 0} (xs : List X) → take 0 xs ≡ []
none-taken [] = refl
none-taken (x ∷ xs) = refl

module _ {A B C : Type 0} (xs : List A) (ys : List B) (zs : List C) (k : ℕ) where
  abbrev pub triples : List ((A × B) × C)
  triples = zip (zip xs ys) zs

  pub triples-all : min (min (length xs) (length ys)) (length zs) ≤ k → take k triples ≡ triples
  triples-all past =
      take_all k triples (subst (λ n. n ≤ k) (sym (length-zip (zip xs ys) zs ∙ ap (λ n. min n (length zs)) (length-zip xs ys))) past)

  pub triple-more : {Y : Type 0} (f : (A × B) × C → Y) (a : A) (b : B) (c : C) → k < length xs → k < length ys → k < length zs → a ≡ get_or xs k a → b ≡ get_or ys k b
      → c ≡ get_or zs k c → (found all : List Y) (one : Y) → found ≡ map f (take k triples) → all ≡ found ++ one ∷ [] → one ≡ f ((a, b), c)
      → all ≡ map f (take (k + 1) triples)
  triple-more f a b c v w u is_a is_b is_c found all one so_far pushed is =
      let pair : k < length (zip xs ys) = omega (arith, length-zip xs ys) in
      let there : k < length triples = omega (arith, pair, length-zip (zip xs ys) zs) in
      let here = zip-at k (zip xs ys) zs (a, b) c pair u (zip-at k xs ys a b v w is_a is_b) is_c in
      pushed ∙ (λ i. so_far i ++ is i ∷ [])
      ∙ sym (ap (map f) (take-next k triples ((a, b), c) there here) ∙ map-append f (take k triples) (((a, b), c) ∷ []))

  pub triple-next : {Y Z : Type 0} (view : Z → Y) (f : (A × B) × C → Y) (a : A) (b : B) (c : C) → k < length xs → k < length ys → k < length zs → a ≡ get_or xs k a → b ≡ get_or ys k b
      → c ≡ get_or zs k c → (found all : List Z) (one : Z) → map view found ≡ map f (take k triples) → all ≡ found ++ one ∷ [] → view one ≡ f ((a, b), c)
      → map view all ≡ map f (take (k + 1) triples)
  triple-next view f a b c v w u is_a is_b is_c found all one so_far pushed is =
      triple-more f a b c v w u is_a is_b is_c (map view found) (map view all) (view one) so_far (ap (map view) pushed ∙ map-append view found (one ∷ [])) is
