-- The places of first elements by a key, as elements are added at the end.
use Rattle.std.proofs.Common.{◌≡◌, ℕ, suc, List, [], ◌∷◌, ◌++◌, length, cond, Bool, true, false, Option, Some, None, option_map, unwrap_or, refl, sym, ap, ◌∙◌}
use Rattle.std.specs.Option.{option_or}
use Rattle.value_sources.specs.Found.{first_at}

-- a place among the others is one further on than among those after the first
one_further : (a : Bool) (o : Option ℕ) (b : Bool) (n : ℕ) → cond a (Some 0) (option_map (λ i. suc i) (option_or o (cond b (Some n) None)))
    ≡ option_or (cond a (Some 0) (option_map (λ i. suc i) o)) (cond b (Some (suc n)) None)
one_further true o b n = refl
one_further false (Some i) b n = refl
one_further false None true n = refl
one_further false None false n = refl

-- the first place where one more element stands at the end
at-more : {A : Type 0} (test : A → Bool) (xs : List A) (x : A) → first_at test (xs ++ x ∷ []) ≡ option_or (first_at test xs) (cond (test x) (Some (length xs)) None)
at-more test [] x = refl
at-more test (y ∷ ys) x =
    ap (λ o. cond (test y) (Some 0) (option_map (λ i. suc i) o)) (at-more test ys x) ∙ one_further (test y) (first_at test ys) (test x) (length ys)

-- with x at the end, where p is the place that is kept for what its key finds
kept-or-added : (o p : Option ℕ) (b : Bool) (n : ℕ) → (true ≡ b → p ≡ o) → cond b (Some (unwrap_or p n)) o ≡ option_or o (cond b (Some n) None)
kept-or-added (Some i) p true n h = ap (λ q. Some (unwrap_or q n)) (h refl)
kept-or-added None p true n h = ap (λ q. Some (unwrap_or q n)) (h refl)
kept-or-added (Some i) p false n h = refl
kept-or-added None p false n h = refl

-- a map has the first place of each key among xs, and then x is put under its key, at the place that is there
-- already or else at its own: the map has the first places among xs and x. Each key for which the test passes at x
-- tests as x's own.
pub next_place : {A K : Type 0} (test : K → A → Bool) (x : A) (key : K) → ((k : K) → true ≡ test k x → test key ≡ test k) → (placed more : K → Option ℕ) (xs : List A) → ((k : K) → placed k ≡ first_at (test k) xs) → ((k : K) → more k ≡ cond (test k x) (Some (unwrap_or (placed key) (length xs))) (placed k)) → (k : K) → more k ≡ first_at (test k) (xs ++ x ∷ [])
next_place test x key alike placed more xs have adds k =
    adds k
    ∙ ap (cond (test k x) (Some (unwrap_or (placed key) (length xs)))) (have k)
    ∙ kept-or-added (first_at (test k) xs) (placed key) (test k x) (length xs) (λ same. have key ∙ ap (λ t. first_at t xs) (alike k same))
    ∙ sym (at-more (test k) xs x)
