-- Lists with the places of their members.
use Rattle.std.proofs.Common.{◌≡◌, ℕ, ◌+◌, ◌<◌, ◌≤◌, List, [], ◌∷◌, ◌++◌, length, map, take, get_or, ap, sym, subst, ◌∙◌, zero-add}
use Rattle.std.specs.List.{enumerate_from}
use Rattle.std.proofs.Math.ListN.{length-map}
use Rattle.std.proofs.lemmas.List.{get_or-map, map-append, take_all, take_more}
use Rattle.std.proofs.lemmas.List.FromFn.{get_or-enumerate_from, length-enumerate_from}

-- one more member
pub enumerated-more : {X Y : Type 0} (v : X → Y) (xs : List X) (k : ℕ) (x : X) → k < length xs → x ≡ get_or xs k x
    → take (k + 1) (enumerate_from 0 (map v xs)) ≡ take k (enumerate_from 0 (map v xs)) ++ (k, v x) ∷ []
enumerated-more v xs k x within here =
    let inside : k < length (map v xs) = subst (λ n. k < n) (sym (length-map xs v)) within in
    let there : k < length (enumerate_from 0 (map v xs)) = subst (λ n. k < n) (sym (length-enumerate_from 0 (map v xs))) inside in
    take_more (enumerate_from 0 (map v xs)) k (k, v x) there
    ∙ ap (λ p. take k (enumerate_from 0 (map v xs)) ++ p ∷ [])
    (get_or-enumerate_from 0 (map v xs) k (k, v x) inside ∙ ap (λ n. (n, get_or (map v xs) k (v x))) (zero-add k)
    ∙ ap (λ y. (k, y)) (get_or-map v xs k x (v x) within ∙ ap v (sym here)))

-- all of them
pub enumerated-all : {X Y : Type 0} (v : X → Y) (xs : List X) (k : ℕ) → length xs ≤ k → take k (enumerate_from 0 (map v xs)) ≡ enumerate_from 0 (map v xs)
enumerated-all v xs k all =
    take_all k (enumerate_from 0 (map v xs)) (subst (λ n. n ≤ k) (sym (length-enumerate_from 0 (map v xs) ∙ length-map xs v)) all)

-- what is made of them, one more at a time
pub mapped-more : {X Y Z : Type 0} (v : X → Y) (f : ℕ × Y → Z) (xs : List X) (k : ℕ) (x : X) (z : Z) (made more : List Z) → k < length xs → x ≡ get_or xs k x → z ≡ f (k, v x)
    → made ≡ map f (take k (enumerate_from 0 (map v xs))) → more ≡ made ++ z ∷ [] → more ≡ map f (take (k + 1) (enumerate_from 0 (map v xs)))
mapped-more v f xs k x z made more within here is so_far one =
    one ∙ ap (λ zs. zs ++ z ∷ []) so_far ∙ ap (λ y. map f (take k (enumerate_from 0 (map v xs))) ++ y ∷ []) is
    ∙ sym (map-append f (take k (enumerate_from 0 (map v xs))) ((k, v x) ∷ []))
    ∙ ap (map f) (sym (enumerated-more v xs k x within here))
