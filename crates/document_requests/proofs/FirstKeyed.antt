-- A map that takes the first of each key finds what a search of the list finds.
use Rattle.std.proofs.Common.{◌≡◌, ℕ, ◌+◌, ◌<◌, Bool, true, false, cond, List, [], ◌∷◌, ◌++◌, length, take, get_or, Option, Some, None, refl, sym, ap, ◌∙◌}
use Rattle.std.specs.Prelude.{is_some, option_map, find, map}
use Rattle.std.specs.Str.{bytes_eq}
use Rattle.std.proofs.lemmas.List.{take_more}
use Rattle.std.proofs.lemmas.Slice.Eq.{bytes_eq-Decides}
use Rattle.document_values.specs.Words.{first_of}

same_bytes : (xs ys : List ℕ) → bytes_eq xs ys ≡ true → xs ≡ ys
same_bytes xs ys e = (bytes_eq-Decides xs ys).0 e

pub first_of_none : {A : Type 0} (o : Option A) → first_of o None ≡ o
first_of_none None = refl
first_of_none (Some x) = refl

some_first : {A : Type 0} (o r : Option A) → is_some o ≡ true → o ≡ first_of o r
some_first None r e = cc
some_first (Some y) r e = refl

none_first : {A : Type 0} (o r : Option A) → is_some o ≡ false → r ≡ first_of o r
none_first None r e = refl
none_first (Some y) r e = cc

is_some_map : {A B : Type 0} (g : A → B) (o : Option A) → is_some (option_map g o) ≡ is_some o
is_some_map g None = refl
is_some_map g (Some x) = refl

map_cond : {A B : Type 0} (g : A → B) (b : Bool) (r : A) (o : Option A) → option_map g (cond b (Some r) o) ≡ cond b (Some (g r)) (option_map g o)
map_cond g true r o = refl
map_cond g false r o = refl

module _ {A B : Type 0} (key : A → List ℕ) (value : A → B) where
  -- what the first thing with the key k is worth
  abbrev pub found : List A → List ℕ → Option B
  found xs k = option_map value (find (λ x. bytes_eq (key x) k) xs)

  -- what one thing is worth, if it has the key k
  abbrev alone : A → List ℕ → Option B
  alone x k = cond (bytes_eq (key x) k) (Some (value x)) None

  found-more : (xs : List A) (x : A) (k : List ℕ) → found (xs ++ x ∷ []) k ≡ first_of (found xs k) (alone x k)
  found-more [] x k = map_cond value (bytes_eq (key x) k) x None
  found-more (y ∷ ys) x k = by (bytes_eq (key y) k) (found-more ys x k)
    where
      by : (b : Bool) → found (ys ++ x ∷ []) k ≡ first_of (found ys k) (alone x k)
          → option_map value (cond b (Some y) (find (λ z. bytes_eq (key z) k) (ys ++ x ∷ []))) ≡ first_of (option_map value (cond b (Some y) (find (λ z. bytes_eq (key z) k) ys))) (alone x k)
      by true h = refl
      by false h = h

  -- the key was there: what is found stays as it is
  kept : (old : List ℕ → Option B) (xs : List A) (x : A) → ((k : List ℕ) → old k ≡ found xs k) → is_some (old (key x)) ≡ true
      → (k : List ℕ) → old k ≡ found (xs ++ x ∷ []) k
  kept old xs x h there k = h k ∙ by (bytes_eq (key x) k) refl ∙ sym (found-more xs x k)
    where
      by : (b : Bool) → bytes_eq (key x) k ≡ b → found xs k ≡ first_of (found xs k) (cond b (Some (value x)) None)
      by true e = some_first (found xs k) (Some (value x)) (sym (ap is_some (h k)) ∙ ap (λ t. is_some (old t)) (sym (same_bytes (key x) k e)) ∙ there)
      by false e = sym (first_of_none (found xs k))

  -- the key was not there, and was put in
  added : (old new : List ℕ → Option B) (xs : List A) (x : A) → ((k : List ℕ) → old k ≡ found xs k) → is_some (old (key x)) ≡ false
      → ((k : List ℕ) → new k ≡ cond (bytes_eq (key x) k) (Some (value x)) (old k)) → (k : List ℕ) → new k ≡ found (xs ++ x ∷ []) k
  added old new xs x h absent put k = put k ∙ by (bytes_eq (key x) k) refl ∙ sym (found-more xs x k)
    where
      by : (b : Bool) → bytes_eq (key x) k ≡ b → cond b (Some (value x)) (old k) ≡ first_of (found xs k) (cond b (Some (value x)) None)
      by true e = none_first (found xs k) (Some (value x)) (sym (ap is_some (h k)) ∙ ap (λ t. is_some (old t)) (sym (same_bytes (key x) k e)) ∙ absent)
      by false e = h k ∙ sym (first_of_none (found xs k))

  next : (ys : List A) (i : ℕ) (x : A) → i < length ys → x ≡ get_or ys i x → take (i + 1) ys ≡ take i ys ++ x ∷ []
  next ys i x h e = take_more ys i x h ∙ ap (λ y. take i ys ++ y ∷ []) (sym e)

  -- the same of maps, which hold what stands for B, at the next thing of a list
  module _ {M R : Type 0} (at : M → List ℕ → Option R) (g : R → B) (ys : List A) (i : ℕ) (x : A) (n : List ℕ) (m after : M) where
    pub kept_at : i < length ys → x ≡ get_or ys i x → n ≡ key x → after ≡ m → ((k : List ℕ) → option_map g (at m k) ≡ found (take i ys) k)
        → is_some (at m n) ≡ true → (k : List ℕ) → option_map g (at after k) ≡ found (take (i + 1) ys) k
    kept_at h e same stays was there k =
        ap (λ w. option_map g (at w k)) stays
        ∙ kept (λ t. option_map g (at m t)) (take i ys) x was (is_some_map g (at m (key x)) ∙ ap (λ t. is_some (at m t)) (sym same) ∙ there) k
        ∙ ap (λ zs. found zs k) (sym (next ys i x h e))

    pub added_at : (put : M) (r : R) → i < length ys → x ≡ get_or ys i x → n ≡ key x → g r ≡ value x → after ≡ put
        → ((k : List ℕ) → option_map g (at m k) ≡ found (take i ys) k) → is_some (at m n) ≡ false
        → ((k : List ℕ) → at put k ≡ cond (bytes_eq n k) (Some r) (at m k)) → (k : List ℕ) → option_map g (at after k) ≡ found (take (i + 1) ys) k
    added_at put r h e same worth becomes was absent puts k =
        ap (λ w. option_map g (at w k)) becomes
        ∙ added (λ t. option_map g (at m t)) (λ t. option_map g (at put t)) (take i ys) x was
        (is_some_map g (at m (key x)) ∙ ap (λ t. is_some (at m t)) (sym same) ∙ absent)
        (λ t. ap (option_map g) (puts t) ∙ map_cond g (bytes_eq n t) r (at m t) ∙ (λ j. cond (bytes_eq (same j) t) (Some (worth j)) (option_map g (at m t)))) k
        ∙ ap (λ zs. found zs k) (sym (next ys i x h e))

-- a thing is worth itself
pub found-itself : {A : Type 0} (key : A → List ℕ) (xs : List A) (k : List ℕ) → found key (λ x. x) xs k ≡ find (λ x. bytes_eq (key x) k) xs
found-itself key xs k = by (find (λ x. bytes_eq (key x) k) xs)
  where
    by : {A : Type 0} (o : Option A) → option_map (λ x. x) o ≡ o
    by None = refl
    by (Some x) = refl

-- things seen as keys and values
pub found-pairs : {A B : Type 0} (key : A → List ℕ) (value : A → B) (xs : List A) (k : List ℕ)
    → found key value xs k ≡ found {A = List ℕ × B} (λ p. p.0) (λ p. p.1) (map (λ x. (key x, value x)) xs) k
found-pairs key value [] k = refl
found-pairs {A} {B} key value (x ∷ xs) k = by (bytes_eq (key x) k) (found-pairs key value xs k)
  where
    by : (b : Bool) → found key value xs k ≡ found {A = List ℕ × B} (λ p. p.0) (λ p. p.1) (map (λ x. (key x, value x)) xs) k
        → option_map value (cond b (Some x) (find (λ y. bytes_eq (key y) k) xs))
        ≡ option_map (λ (p : List ℕ × B). p.1) (cond b (Some (key x, value x)) (find (λ (p : List ℕ × B). bytes_eq p.0 k) (map (λ y. (key y, value y)) xs)))
    by true h = refl
    by false h = h
