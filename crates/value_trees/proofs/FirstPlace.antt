-- The first child that passes a test, at its index among the children as `src/` has them.
use Rattle.std.proofs.Common.{◌≡◌, ℕ, zero, suc, ◌+◌, ◌<◌, ◌≤◌, List, [], ◌∷◌, ◌++◌, map, take, drop, length, get_or, Option, None, Some, Bool, not, cond, nat_lt, option_map, refl, sym, ap, ◌∙◌, arith, inl, inr}
use Rattle.std.specs.List.{find, position, position_or_len, remove, slice_get}
use Rattle.std.proofs.lemmas.Bool.{cases_lt, lt-ltb, le-ltb}
use Rattle.std.proofs.lemmas.List.{map-append, take_all, drop_all, drop-map, append-nil}
use Rattle.std.proofs.lemmas.List.Folds.{find_at}
use Rattle.std.proofs.lemmas.Option.{slice_get-map, slice_get_past, slice_get_read}
use Rattle.value_trees.specs.Child.{Child}
use Rattle.value_trees.specs.ChildView.{child_view}
use Rattle.value_trees.specs.declared.elem.ElemChild.{ElemChild}

-- the children as contracts see them
abbrev pub seen : List ElemChild → List Child
seen xs = map child_view xs

pub seen-length : (xs : List ElemChild) → length (seen xs) ≡ length xs
seen-length [] = refl
seen-length (x ∷ xs) = ap suc (seen-length xs)

seen-take : (n : ℕ) (xs : List ElemChild) → seen (take n xs) ≡ take n (seen xs)
seen-take zero xs = refl
seen-take (suc n) [] = refl
seen-take (suc n) (x ∷ xs) = ap (λ cs. child_view x ∷ cs) (seen-take n xs)

-- one taken out, and none taken out
pub seen-remove : (xs : List ElemChild) (n : ℕ) → seen (remove xs n) ≡ remove (seen xs) n
seen-remove xs n = map-append child_view (take n xs) (drop (suc n) xs) ∙ (λ i. seen-take n xs i ++ sym (drop-map child_view (suc n) xs) i)

pub remove_past : (cs : List Child) (n : ℕ) → length cs ≤ n → remove cs n ≡ cs
remove_past cs n l = (λ i. take_all n cs l i ++ drop_all (suc n) cs (omega (arith, l)) i) ∙ append-nil cs

-- what `position` says of the index
index_past : (k n : ℕ) → cond (nat_lt k n) (Some k) None ≡ None → n ≤ k
index_past k n e = elim (cases_lt k n) [
  | inl l ↦ absurd (none-is (sym e ∙ ap (λ b. cond b (Some k) None) (lt-ltb k n l)))
  | inr l ↦ l
]
  where
    none-is : None ≡ Some k → ⊥
    none-is p = cc

abbrev or_zero : Option ℕ → ℕ
or_zero None = 0
or_zero (Some n) = n

index_found : (k n i : ℕ) → cond (nat_lt k n) (Some k) None ≡ Some i → (k < n) × (k ≡ i)
index_found k n i e = elim (cases_lt k n) [
  | inl l ↦ (l, ap or_zero (sym (ap (λ b. cond b (Some k) None) (lt-ltb k n l)) ∙ e))
  | inr l ↦ absurd (none-is (sym (ap (λ b. cond b (Some k) None) (le-ltb k n l)) ∙ e))
]
  where
    none-is : None ≡ Some i → ⊥
    none-is p = cc

module _ (p : Child → Bool) where
  seen-place : (xs : List ElemChild) → position_or_len (λ x. p (child_view x)) xs ≡ position_or_len p (seen xs)
  seen-place [] = refl
  seen-place (x ∷ xs) = ap (λ n. cond (not (p (child_view x))) (1 + n) 0) (seen-place xs)

  pub place_none : (xs : List ElemChild) → position (λ x. p (child_view x)) xs ≡ None → length xs ≤ position_or_len p (seen xs)
  place_none xs e = omega (arith, seen-place xs, index_past (position_or_len (λ x. p (child_view x)) xs) (length xs) e)

  pub place_some : (xs : List ElemChild) (n : ℕ) → position (λ x. p (child_view x)) xs ≡ Some n → (n ≡ position_or_len p (seen xs)) × (n < length xs)
  place_some xs n e =
      let f = index_found (position_or_len (λ x. p (child_view x)) xs) (length xs) n e in
      (sym f.1 ∙ seen-place xs, omega (arith, f.0, f.1))

  -- the child at that index, or none
  pub found_none : (xs : List ElemChild) → length xs ≤ position_or_len p (seen xs) → find p (seen xs) ≡ None
  found_none xs l = find_at p (seen xs) ∙ slice_get_past (seen xs) (position_or_len p (seen xs)) (omega (arith, l, seen-length xs))

  pub found_at : (xs : List ElemChild) (n : ℕ) (x : ElemChild) → n ≡ position_or_len p (seen xs) → n < length xs → x ≡ get_or xs n x → find p (seen xs) ≡ Some (child_view x)
  found_at xs n x e l is =
      find_at p (seen xs)
      ∙ ap (slice_get (seen xs)) (sym e)
      ∙ slice_get-map child_view xs n
      ∙ ap (option_map child_view) (slice_get_read xs (length xs) n x refl l is)
