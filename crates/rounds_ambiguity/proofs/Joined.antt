-- A list of vectors, one of which takes one more item.
use Rattle.std.proofs.Common.{◌≡◌, ℕ, ◌<◌, List, [], ◌∷◌, ◌++◌, length, map, get_or, ap, sym, subst, ◌∙◌}
use Rattle.std.proofs.Math.ListN.{set, length-map}
use Rattle.std.proofs.lemmas.List.{get_or-map, map-set}

pub joined : {V A : Type 0} (items : V → List A) (vs : List V) (i : ℕ) (v w : V) (p : A) → i < length (map items vs) → v ≡ get_or vs i v → items w ≡ items v ++ p ∷ []
    → map items (set vs i w) ≡ set (map items vs) i (get_or (map items vs) i [] ++ p ∷ [])
joined items vs i v w p within here more =
    let inside : i < length vs = subst (λ n. i < n) (length-map vs items) within in
    map-set items vs i w
    ∙ ap (λ xs. set (map items vs) i xs) (more ∙ ap (λ xs. xs ++ p ∷ []) (ap items here ∙ sym (get_or-map items vs i v [] inside)))
