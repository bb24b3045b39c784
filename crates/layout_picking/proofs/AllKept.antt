-- A filter that leaves nothing out.
use Rattle.std.proofs.Common.{◌≡◌, List, [], ◌∷◌, filter, Bool, true, false, ◌&&◌, cond, ap, sym, ◌∙◌, refl}
use Rattle.std.specs.List.{list_all}

both_hold : (a b : Bool) → (a && b) ≡ true → (a ≡ true) × (b ≡ true)
both_hold true b e = (refl, e)
both_hold false b e = absurd (cc e)

pub all_kept : {X : Type 0} (p : X → Bool) (xs : List X) → list_all p xs ≡ true → xs ≡ filter p xs
all_kept p [] e = refl
all_kept p (x ∷ xs) e =
    let h = both_hold (p x) (list_all p xs) e in
    ap (λ ys. x ∷ ys) (all_kept p xs h.1) ∙ ap (λ b. cond b (x ∷ filter p xs) (filter p xs)) (sym h.0)
