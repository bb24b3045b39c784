-- Lists whose members are changed by those beside them, one more.
use Rattle.std.proofs.Common.{◌≡◌, ℕ, zero, suc, ◌+◌, ◌<◌, ◌≤◌, min, List, [], ◌∷◌, length, map, take, get_or, refl, ap, sym, subst, ◌∙◌, arith}
use Rattle.std.proofs.Math.ListN.{get_or-map, length-map, set}
use Rattle.std.proofs.lemmas.List.{map-set}
use Rattle.mentions_tables.specs.Steps.{all_changed}
use Rattle.mentions_tables.proofs.Changing.{changed-more}

-- all that have one beside them are changed
pub enough : {C X : Type 0} (f : C → X → X) (k : ℕ) (cs : List C) (xs : List X) → min (length cs) (length xs) ≤ k → all_changed f (take k cs) xs ≡ all_changed f cs xs
enough f zero [] xs h = refl
enough f (suc k) [] xs h = refl
enough f zero (c ∷ cs) [] h = refl
enough f (suc k) (c ∷ cs) [] h = refl
enough f zero (c ∷ cs) (x ∷ xs) h = absurd (omega arith)
enough f (suc k) (c ∷ cs) (x ∷ xs) h = ap (λ ys. f c x ∷ ys) (enough f k cs xs (omega arith))

module _ {C X Y : Type 0} (view : X → Y) (f : C → Y → Y) (cs : List C) (old now : List X) (k : ℕ) (so_far : map view now ≡ all_changed f (take k cs) (map view old)) where
  -- the next is changed in place
  pub beside-next : (c : C) (d x : X) → k < length cs → k < length old → c ≡ get_or cs k c → view x ≡ f c (view (get_or now k d)) → map view (set now k x) ≡ all_changed f (take (k + 1) cs) (map view old)
  beside-next c d x w v here is =
      map-set view now k x
      ∙ changed-more f k cs (map view old) (map view now) c c (view d) (view x) so_far w (subst (λ n. k < n) (sym (length-map old view)) v) here
      (is ∙ ap (f c) (sym (get_or-map view now k d)))

  pub beside-all : min (length cs) (length old) ≤ k → map view now ≡ all_changed f cs (map view old)
  beside-all h = so_far ∙ enough f k cs (map view old) (subst (λ n. min (length cs) n ≤ k) (sym (length-map old view)) h)
