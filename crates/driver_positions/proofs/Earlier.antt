-- Lists whose members know those before them.
use Rattle.std.proofs.Common.{◌≡◌, ℕ, zero, suc, ◌+◌, ◌-◌, ◌<◌, List, [], ◌∷◌, ◌++◌, Option, Some, None, Bor, length, map, option_copied, option_map, take, refl, ap, sym, ◌∙◌, append_assoc, append-nil, arith}
use Rattle.std.specs.Prelude.{slice_get}
use Rattle.std.specs.List.{enumerate_from, last_or}
use Rattle.std.specs.Option.{option_or}
use Rattle.std.proofs.lemmas.List.{length-map, length_push, take_at}
use Rattle.driver_positions.specs.FirstProperties.{with_earlier}

module _ {X A : Type 0} (f : List X → X → A) where
  -- the same for members that stand behind us
  behind : List X → List X → List A
  behind us [] = []
  behind us (y ∷ ys) = f us y ∷ behind (us ++ y ∷ []) ys

  spread : (us ys : List X) (n : ℕ) → length us ≡ n → map (λ (k, x). f (take k (us ++ ys)) x) (enumerate_from n ys) ≡ behind us ys
  unfolding behind
  spread us [] n h = refl
  spread us (y ∷ ys) n h =
      let all : us ++ y ∷ ys ≡ (us ++ y ∷ []) ++ ys = sym (append_assoc us (y ∷ []) ys) in
      let next : length (us ++ y ∷ []) ≡ n + 1 = omega (arith, length_push us y) in
      ap (λ l. f l y ∷ map (λ (k, x). f (take k (us ++ y ∷ ys)) x) (enumerate_from (n + 1) ys)) (take_at us (y ∷ ys) n h)
      ∙ ap (λ l. f us y ∷ map (λ (k, x). f (take k l) x) (enumerate_from (n + 1) ys)) all
      ∙ ap (λ l. f us y ∷ l) (spread (us ++ y ∷ []) ys (n + 1) next)

  behind-push : (us ys : List X) (z : X) → behind us (ys ++ z ∷ []) ≡ behind us ys ++ f (us ++ ys) z ∷ []
  unfolding behind
  behind-push us [] z = ap (λ l. f l z ∷ []) (sym (append-nil us))
  behind-push us (y ∷ ys) z =
      ap (λ l. f us y ∷ l) (behind-push (us ++ y ∷ []) ys z ∙ ap (λ l. behind (us ++ y ∷ []) ys ++ f l z ∷ []) (append_assoc us (y ∷ []) ys))

  pub with_earlier-push : (ys : List X) (z : X) → with_earlier f (ys ++ z ∷ []) ≡ with_earlier f ys ++ f ys z ∷ []
  with_earlier-push ys z = spread [] (ys ++ z ∷ []) 0 refl ∙ behind-push [] ys z ∙ ap (λ l. l ++ f ys z ∷ []) (sym (spread [] ys 0 refl))

module _ {X : Type 0} where
  pub last_or-push : (o : Option X) (xs : List X) (x : X) → last_or o (xs ++ x ∷ []) ≡ Some x
  last_or-push o [] x = refl
  last_or-push o (y ∷ ys) x = last_or-push (Some y) ys x

  pub last_or-append : (o : Option X) (xs ys : List X) → last_or o (xs ++ ys) ≡ last_or (last_or o xs) ys
  last_or-append o [] ys = refl
  last_or-append o (x ∷ xs) ys = last_or-append (Some x) xs ys

  -- the last one, as `last` gives it
  pub last_or-found : (o : Option X) (xs : List X) → option_or (slice_get xs (length xs - 1)) o ≡ last_or o xs
  last_or-found o [] = refl
  last_or-found o (x ∷ []) = refl
  last_or-found o (x ∷ y ∷ ys) =
      let more : length (x ∷ y ∷ ys) - 1 ≡ suc (length (y ∷ ys) - 1) = omega arith in
      ap (λ k. option_or (slice_get (x ∷ y ∷ ys) k) o) more ∙ some-there (y ∷ ys) (length (y ∷ ys) - 1) (omega arith) ∙ last_or-found (Some x) (y ∷ ys)
    where
      some-there : (zs : List X) (k : ℕ) → k < length zs → option_or (slice_get zs k) o ≡ option_or (slice_get zs k) (Some x)
      some-there [] k h = absurd (omega arith)
      some-there (z ∷ zs) zero h = refl
      some-there (z ∷ zs) (suc k) h = some-there zs k (omega arith)

slice_get-map : {X V : Type 0} (view : X → V) (xs : List X) (k : ℕ) → option_map view (slice_get xs k) ≡ slice_get (map view xs) k
slice_get-map view [] k = refl
slice_get-map view (x ∷ xs) zero = refl
slice_get-map view (x ∷ xs) (suc k) = slice_get-map view xs k

-- the last one, or that before
pub last-more : {X V : Type 0} (view : X → V) (o p : Option (Bor X)) (xs : List X) (q : Option V) → option_copied o ≡ slice_get xs (length xs - 1)
    → option_map (λ l. view l.now) p ≡ q → option_map (λ l. view l.now) (option_or o p) ≡ last_or q (map view xs)
last-more view o p xs q found was =
    by o ∙ ap (λ l. option_or (option_map view l) (option_map (λ l. view l.now) p)) found ∙ ap (λ l. option_or (option_map view (slice_get xs (length xs - 1))) l) was
    ∙ ap (λ l. option_or l q) (slice_get-map view xs (length xs - 1) ∙ ap (λ n. slice_get (map view xs) (n - 1)) (sym (length-map xs view)))
    ∙ last_or-found q (map view xs)
  where
    by : (o : Option (Bor _)) → option_map (λ l. view l.now) (option_or o p) ≡ option_or (option_map view (option_copied o)) (option_map (λ l. view l.now) p)
    by None = refl
    by (Some l) = refl
