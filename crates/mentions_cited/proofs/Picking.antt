-- What stands at some places of a list.
use Rattle.std.proofs.Common.{◌≡◌, ℕ, suc, ◌+◌, ◌<◌, ◌≤◌, false, ltb, Option, Some, None, List, [], ◌∷◌, ◌++◌, length, map, take, get_or, option_map, refl, ap, sym, ◌∙◌, arith, true≢false, ⊎_elim}
use Rattle.std.specs.Prelude.{filter_map, slice_get}
use Rattle.std.specs.List.{cons_option}
use Rattle.std.proofs.lemmas.Bool.Decides.{leb_tells}
use Rattle.std.proofs.lemmas.List.{take_more}
use Rattle.std.proofs.lemmas.Option.{slice_get-map, slice_get_past}

module _ {X Y : Type 0} (f : X → Option Y) where
  cons-joined : (o : Option Y) (xs ys : List Y) → cons_option o (xs ++ ys) ≡ cons_option o xs ++ ys
  cons-joined None xs ys = refl
  cons-joined (Some y) xs ys = refl

  filter_map-joined : (xs ys : List X) → filter_map f (xs ++ ys) ≡ filter_map f xs ++ filter_map f ys
  filter_map-joined [] ys = refl
  filter_map-joined (x ∷ xs) ys =
      ap (cons_option (f x)) (filter_map-joined xs ys) ∙ cons-joined (f x) (filter_map f xs) (filter_map f ys)

  -- one place more
  pub picked-more : (xs : List X) (k : ℕ) (x : X) → k < length xs → x ≡ get_or xs k x → (old now : List Y) → old ≡ filter_map f (take k xs)
      → now ≡ old ++ filter_map f (x ∷ []) → now ≡ filter_map f (take (k + 1) xs)
  picked-more xs k x within here old now so_far pushed =
      pushed ∙ ap (λ l. l ++ filter_map f (x ∷ [])) so_far ∙ sym (filter_map-joined (take k xs) (x ∷ []))
      ∙ ap (filter_map f) (sym (take_more xs k x within ∙ ap (λ y. take k xs ++ y ∷ []) (sym here)))

-- nothing stands behind the last place
beyond : (n k : ℕ) → ltb k n ≡ false → n ≤ k
beyond n k h = ⊎_elim (λ t. absurd (true≢false (sym t.0 ∙ h))) (λ t. omega (arith, t.1)) (leb_tells (suc k) n)

-- at one place
module _ {X Y : Type 0} (view : X → Y) (xs : List X) (k : ℕ) where
  pub picked-one : (x : X) → slice_get xs k ≡ Some x → filter_map (slice_get (map view xs)) (k ∷ []) ≡ view x ∷ []
  picked-one x h = ap (λ o. cons_option o []) (slice_get-map view xs k ∙ ap (option_map view) h)

  pub picked-none : ltb k (length xs) ≡ false → filter_map (slice_get (map view xs)) (k ∷ []) ≡ []
  picked-none h =
      ap (λ o. cons_option o []) (slice_get-map view xs k ∙ ap (option_map view) (slice_get_past xs k (beyond (length xs) k h)))
