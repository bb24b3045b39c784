-- Cites marked one after another.
use Rattle.std.proofs.Common.{◌≡◌, ℕ, zero, suc, ◌+◌, ◌<◌, List, [], ◌∷◌, take, length, map, get_or, refl, ap, sym, ◌∙◌, subst, ◌≤◌, arith, add-one}
use Rattle.std.specs.Prelude.{Option}
use Rattle.std.proofs.Math.ListN.{get_or-map, length-map, set}
use Rattle.std.proofs.lemmas.List.{map-set}
use Rattle.driver_passes.specs.Renders.{ItemRender}
use Rattle.rounds_grouping.specs.Steps.{all_marked, marked_in_block}
use Rattle.rounds_grouping.specs.declared.blocks.Placed.{Placed}

module _ {E P : Type 0} (delimiter : Option (List ℕ)) where
  more-at : (os : List Placed) (cs : List (ItemRender E P)) (i : ℕ) (o e : Placed) (d y : ItemRender E P) → i < length os → i < length cs
      → o ≡ get_or os i e → y ≡ marked_in_block delimiter o (get_or cs i d) → set (all_marked delimiter (take i os) cs) i y ≡ all_marked delimiter (take (suc i) os) cs
  more-at [] cs i o e d y u v h q = absurd (omega arith)
  more-at (p ∷ os) [] i o e d y u v h q = absurd (omega arith)
  more-at (p ∷ os) (c ∷ cs) zero o e d y u v h q = ap (λ x. x ∷ cs) (q ∙ ap (λ x. marked_in_block delimiter x c) h)
  more-at (p ∷ os) (c ∷ cs) (suc i) o e d y u v h q = ap (λ xs. marked_in_block delimiter p c ∷ xs) (more-at os cs i o e d y (omega arith) (omega arith) h q)

  here : (os : List Placed) (cs : List (ItemRender E P)) (i : ℕ) (d : ItemRender E P) → get_or (all_marked delimiter (take i os) cs) i d ≡ get_or cs i d
  here os cs zero d = refl
  here [] cs (suc i) d = refl
  here (p ∷ os) [] (suc i) d = refl
  here (p ∷ os) (c ∷ cs) (suc i) d = here os cs i d

  -- one more cite
  pub mark-more : {X : Type 0} (view : X → ItemRender E P) (os : List Placed) (old now : List X) (i : ℕ) (o e : Placed) (found x : X) → i < length os → length os ≤ length old
      → o ≡ get_or os i e → found ≡ get_or now i found → map view now ≡ all_marked delimiter (take i os) (map view old)
      → view x ≡ marked_in_block delimiter o (view (get_or now i found)) → map view (set now i x) ≡ all_marked delimiter (take (i + 1) os) (map view old)
  mark-more view os old now i o e found x u v h f m q =
      let at = get_or now i found in
      let stands : view at ≡ get_or (map view old) i (view at) =
      ap view (ap (λ z. get_or now i z) f) ∙ sym (get_or-map view now i at) ∙ ap (λ zs. get_or zs i (view at)) m ∙ here os (map view old) i (view at) in
      let within : i < length (map view old) = subst (λ n. i < n) (sym (length-map old view)) (omega arith) in
      map-set view now i x ∙ ap (λ zs. set zs i (view x)) m
      ∙ more-at os (map view old) i o e (view at) (view x) u within h (q ∙ ap (marked_in_block delimiter o) stands)
      ∙ ap (λ n. all_marked delimiter (take n os) (map view old)) (sym (add-one i))
