-- Lists changed from their beginnings on, one more member.
use Rattle.std.proofs.Common.{◌≡◌, ℕ, zero, suc, ◌+◌, ◌<◌, ◌≤◌, Bool, ◌&&◌, List, [], ◌∷◌, ◌++◌, length, map, take, get_or, refl, ap, sym, subst, ◌∙◌, arith, add-one}
use Rattle.std.specs.List.{zip}
use Rattle.std.proofs.Math.ListN.{set}
use Rattle.std.proofs.lemmas.List.{get_or_default, take_all, take_more}
use Rattle.mentions_groups.specs.declared.state.MentionState.{MentionState}
use Rattle.mentions_tables.specs.Steps.{all_changed, chosen_by}

take-none : {X : Type 0} (xs : List X) → take zero xs ≡ []
take-none [] = refl
take-none (x ∷ xs) = refl

module _ {C X : Type 0} (f : C → X → X) where
  none-from : (xs : List X) → all_changed f [] xs ≡ xs
  none-from [] = refl
  none-from (x ∷ xs) = refl

  more-from : (k : ℕ) (cs : List C) (xs : List X) (c : C) (d y : X) → k < length cs → k < length xs → c ≡ get_or cs k c → y ≡ f c (get_or (all_changed f (take k cs) xs) k d)
      → set (all_changed f (take k cs) xs) k y ≡ all_changed f (take (suc k) cs) xs
  more-from k [] xs c d y w v h q = absurd (omega arith)
  more-from k (b ∷ cs) [] c d y w v h q = absurd (omega arith)
  more-from zero (b ∷ cs) (x ∷ xs) c d y w v h q =
      (λ i. (q ∙ ap (λ e. f e x) h) i ∷ xs)
      ∙ ap (λ zs. f b x ∷ zs) (sym (none-from xs) ∙ ap (λ ds. all_changed f ds xs) (sym (take-none cs)))
  more-from (suc k) (b ∷ cs) (x ∷ xs) c d y w v h q = ap (λ ys. f b x ∷ ys) (more-from k cs xs c d y (omega arith) (omega arith) h q)

  stood-from : (k : ℕ) (cs : List C) (xs : List X) (d : X) → get_or (all_changed f (take k cs) xs) k d ≡ get_or xs k d
  stood-from zero [] xs d = ap (λ ys. get_or ys zero d) (none-from xs)
  stood-from zero (c ∷ cs) xs d = ap (λ ys. get_or ys zero d) (none-from xs)
  stood-from (suc k) [] xs d = ap (λ ys. get_or ys (suc k) d) (none-from xs)
  stood-from (suc k) (c ∷ cs) [] d = refl
  stood-from (suc k) (c ∷ cs) (x ∷ xs) d = stood-from k cs xs d

  -- one more is changed in place
  pub changed-more : (k : ℕ) (cs : List C) (xs now : List X) (c e : C) (d y : X) → now ≡ all_changed f (take k cs) xs → k < length cs → k < length xs → c ≡ get_or cs k e → y ≡ f c (get_or now k d)
      → set now k y ≡ all_changed f (take (k + 1) cs) xs
  changed-more k cs xs now c e d y so_far w v h q =
      ap (λ ys. set ys k y) so_far ∙ more-from k cs xs c d y w v (h ∙ get_or_default cs k e c w) (q ∙ ap (λ ys. f c (get_or ys k d)) so_far)
      ∙ ap (λ n. all_changed f (take n cs) xs) (sym (add-one k))

  pub changed-none : (cs : List C) (xs : List X) → xs ≡ all_changed f (take zero cs) xs
  changed-none cs xs = sym (ap (λ ds. all_changed f ds xs) (take-none cs) ∙ none-from xs)

  pub changed-all : (k : ℕ) (cs : List C) (xs now : List X) → now ≡ all_changed f (take k cs) xs → length cs ≤ k → now ≡ all_changed f cs xs
  changed-all k cs xs now so_far h = so_far ∙ ap (λ ds. all_changed f ds xs) (take_all k cs h)

  pub changed-length : (cs : List C) (xs : List X) → length (all_changed f cs xs) ≡ length xs
  changed-length [] xs = ap length (none-from xs)
  changed-length (c ∷ cs) [] = refl
  changed-length (c ∷ cs) (x ∷ xs) = ap suc (changed-length cs xs)

-- pairs of two lists
module _ {A B : Type 0} where
  pub zip-at : (k : ℕ) (xs : List A) (ys : List B) (x : A) (y : B) → k < length xs → k < length ys → x ≡ get_or xs k x → y ≡ get_or ys k y → (x, y) ≡ get_or (zip xs ys) k (x, y)
  zip-at k [] ys x y w v h q = absurd (omega arith)
  zip-at k (a ∷ xs) [] x y w v h q = absurd (omega arith)
  zip-at zero (a ∷ xs) (b ∷ ys) x y w v h q = λ i. (h i, q i)
  zip-at (suc k) (a ∷ xs) (b ∷ ys) x y w v h q = zip-at k xs ys x y (omega arith) (omega arith) h q

  pub zip-length : (xs : List A) (ys : List B) → length xs ≡ length ys → length (zip xs ys) ≡ length xs
  zip-length [] ys h = refl
  zip-length (x ∷ xs) [] h = sym h
  zip-length (x ∷ xs) (y ∷ ys) h = let e : length xs ≡ length ys = omega arith in ap suc (zip-length xs ys e)

-- a member of a list that was made of another
pub map-at : {X Y : Type 0} (f : X → Y) (k : ℕ) (xs : List X) (x : X) (y : Y) → k < length xs → x ≡ get_or xs k x → y ≡ get_or (map f xs) k y → y ≡ f x
map-at f k [] x y w h q = absurd (omega arith)
map-at f zero (a ∷ xs) x y w h q = q ∙ ap f (sym h)
map-at f (suc k) (a ∷ xs) x y w h q = map-at f k xs x y (omega arith) h q

pub take-next : {X : Type 0} (k : ℕ) (xs : List X) (x : X) → k < length xs → x ≡ get_or xs k x → take (k + 1) xs ≡ take k xs ++ x ∷ []
take-next k xs x w h = take_more xs k x w ∙ ap (λ y. take k xs ++ y ∷ []) (sym h)

-- states chosen one after another
pub chosen-more : (k : ℕ) (tested asked : List Bool) (states now : List MentionState) (t u g h : Bool) (d y : MentionState) (r : Bool)
    → now ≡ all_changed chosen_by (take k (zip tested asked)) states → k < length states → length states ≡ length tested → length states ≡ length asked → t ≡ get_or tested k u → g ≡ get_or asked k h
    → r ≡ (t && g) → y ≡ record (get_or now k d) { chosen = r } → set now k y ≡ all_changed chosen_by (take (k + 1) (zip tested asked)) states
chosen-more k tested asked states now t u g h d y r so_far within long_tested long_asked is_tested is_asked is_one is_made =
    let w : k < length tested = omega arith in
    let v : k < length asked = omega arith in
    let same : length tested ≡ length asked = omega arith in
    let both : k < length (zip tested asked) = subst (λ n. k < n) (sym (zip-length tested asked same)) w in
    changed-more chosen_by k (zip tested asked) states now (t, g) (t, g) d y so_far both within
    (zip-at k tested asked t g w v (is_tested ∙ get_or_default tested k u t w) (is_asked ∙ get_or_default asked k h g v))
    (is_made ∙ (λ i. record (get_or now k d) { chosen = is_one i }))
