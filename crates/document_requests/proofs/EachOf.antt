-- What each of a list gives is gathered one after another.
use Rattle.std.proofs.Common.{◌≡◌, ℕ, zero, suc, ◌+◌, ◌<◌, ◌≤◌, length, drop, get_or, List, [], ◌∷◌, ◌++◌, Option, Some, None, refl, ap, ◌∙◌, sym, arith, append_assoc, append-nil, add-one, map, subst}
use Rattle.std.specs.Prelude.{option_map, option_and_then}
use Rattle.std.proofs.lemmas.List.{drop_all, map-append}
use Rattle.document_requests.specs.Indexes.{each_of}

module _ {X A B : Type 0} (v : X → A) (f : A → Option B) where
  -- the first k gave ys; what the rest gives completes what all give
  abbrev pub EachProgress : List X → ℕ → List B → Type 0
  EachProgress xs k ys = option_map (λ rest. ys ++ rest) (each_of f (map v (drop k xs))) ≡ each_of f (map v xs)

  pub EachProgress-start : (xs : List X) → EachProgress xs 0 []
  EachProgress-start xs = by (each_of f (map v xs))
    where
      by : (o : Option (List B)) → option_map (λ rest. [] ++ rest) o ≡ o
      by None = refl
      by (Some ys) = refl

  -- what one gives, before what the rest gives
  abbrev before : Option (List B) → Option B → Option (List B)
  before rest o = option_and_then (λ y. option_and_then (λ ys. Some (y ∷ ys)) rest) o

  ahead : (xs : List X) (k : ℕ) (x : X) → k < length xs → x ≡ get_or xs k x → each_of f (map v (drop k xs)) ≡ before (each_of f (map v (drop (suc k) xs))) (f (v x))
  ahead [] k x h e = absurd (omega arith)
  ahead (w ∷ xs) zero x h e = rw e refl
  ahead (w ∷ xs) (suc k) x h e = ahead xs k x (omega arith) e

  joins : (ys : List B) (y : B) (o : Option (List B))
      → option_map (λ rest. ys ++ rest) (option_and_then (λ zs. Some (y ∷ zs)) o) ≡ option_map (λ rest. (ys ++ y ∷ []) ++ rest) o
  joins ys y None = refl
  joins ys y (Some zs) = ap Some (sym (append_assoc ys (y ∷ []) zs))

  more : (xs : List X) (k : ℕ) (ys : List B) (x : X) (y : B) → k < length xs → x ≡ get_or xs k x → f (v x) ≡ Some y → EachProgress xs k ys → EachProgress xs (k + 1) (ys ++ y ∷ [])
  more xs k ys x y h e r was =
      let rest = each_of f (map v (drop (suc k) xs)) in
      rw add-one (sym (joins ys y rest)
      ∙ ap (λ o. option_map (λ t. ys ++ t) (before rest o)) (sym r)
      ∙ ap (option_map (λ t. ys ++ t)) (sym (ahead xs k x h e)) ∙ was)

  pub EachProgress-more : (xs : List X) (k : ℕ) (ys zs : List B) (x : X) (y : B) → k < length xs → x ≡ get_or xs k x
      → f (v x) ≡ Some y → zs ≡ ys ++ y ∷ [] → EachProgress xs k ys → EachProgress xs (k + 1) zs
  EachProgress-more xs k ys zs x y h e r p was = subst (EachProgress xs (k + 1)) (sym p) (more xs k ys x y h e r was)

  -- one more was gathered
  pub EachProgress-pushed : {Y : Type 0} (g : Y → B) (xs : List X) (k : ℕ) (ys zs : List Y) (x : X) (y : Y) → k < length xs → x ≡ get_or xs k x
      → f (v x) ≡ Some (g y) → zs ≡ ys ++ y ∷ [] → EachProgress xs k (map g ys) → EachProgress xs (k + 1) (map g zs)
  EachProgress-pushed g xs k ys zs x y h e r p was =
      subst (EachProgress xs (k + 1)) (sym (map-append g ys (y ∷ [])) ∙ ap (map g) (sym p)) (more xs k (map g ys) x (g y) h e r was)

  -- one gives nothing
  pub EachProgress-none : (xs : List X) (k : ℕ) (ys : List B) (x : X) → k < length xs → x ≡ get_or xs k x → EachProgress xs k ys → f (v x) ≡ None
      → each_of f (map v xs) ≡ None
  EachProgress-none xs k ys x h e was r =
      let rest = each_of f (map v (drop (suc k) xs)) in
      sym was ∙ ap (option_map (λ t. ys ++ t)) (ahead xs k x h e) ∙ ap (λ o. option_map (λ t. ys ++ t) (before rest o)) r

  pub EachProgress-end : (xs : List X) (k : ℕ) (ys : List B) → length xs ≤ k → EachProgress xs k ys → each_of f (map v xs) ≡ Some ys
  EachProgress-end xs k ys h was =
      sym was ∙ ap (λ t. option_map (λ rest. ys ++ rest) (each_of f (map v t))) (drop_all k xs h) ∙ ap Some (append-nil ys)
