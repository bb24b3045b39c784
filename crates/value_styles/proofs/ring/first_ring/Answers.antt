use Rattle.std.proofs.Common.{◌≡◌, ℕ, zero, suc, ◌<◌, ◌∙◌, List, [], ◌∷◌, length, Bool, true, false, not, Some, map, take, get_or, slice_get, refl, sym, ap, subst, below_more, arith}
use Rattle.std.proofs.lemmas.List.{take-map}
use Rattle.value_styles.specs.Element.{Macro}
use Rattle.value_styles.specs.ElementView.{macro_view, macros_view}
use Rattle.value_styles.specs.Ring.{has_name, IsRingAt}
use Rattle.value_styles.specs.Places.{IsClosed, IsOnRound}
use Rattle.value_styles.proofs.Rings.{place_found, calls_closed, ring_of_round, round_of_ring, none_past}
use Rattle.value_styles.proofs.ring.first_ring.Goals as goal
use Rattle.value_styles.proofs.ring.first_ring.Goals.{else-is_new_name-via-then-is_new_name+in_ok-is_on_round+else-branch, else-is_new_name-via-else-is_new_name}

-- the view of what stands at a place
got : {A B : Type 0} (f : A → B) (xs : List A) (i : ℕ) (x : A) → i < length xs → x ≡ get_or xs i x → slice_get (map f xs) i ≡ Some (f x)
got f [] i x h e = absurd (omega arith)
got f (y ∷ ys) zero x h e = ap (λ z. Some (f z)) (sym e)
got f (y ∷ ys) (suc i) x h e = got f ys i x (omega arith) e

len : {A B : Type 0} (f : A → B) (xs : List A) → length (map f xs) ≡ length xs
len f [] = refl
len f (x ∷ xs) = ap (λ n. suc n) (len f xs)

false_of_not : (b : Bool) → true ≡ not b → b ≡ false
false_of_not true e = cc
false_of_not false e = refl

true_of_not : (b : Bool) → false ≡ not b → b ≡ true
true_of_not true e = refl
true_of_not false e = cc

pub is_on_round-requires-clause-closed : goal.is_on_round-requires-clause-closed
is_on_round-requires-clause-closed c =
    subst IsClosed (sym c.requires) (calls_closed (macros_view c.args.macros.now))

pub returns-then-branch : goal.returns-then-branch
returns-then-branch c =
    let ms = c.args.macros.now in
    let all = macros_view ms in
    let m = c.index-macros-i.result in
    let here = got macro_view ms c.loop-i.i m (omega (arith, c.loop-i-test.true)) c.index-macros-i.is in
    let n : c.as_str-name.result.now ≡ (macro_view m).name = c.as_str-name.ensures.value ∙ ap (λ x. (macro_view x).name) (sym c.index-macros-i.is) in
    let before = sym (take-map macro_view c.loop-i.i ms) in
    let out = false_of_not _ (sym c.if-is_new_name.true ∙ c.is_new_name.ensures) in
    let new : has_name (macro_view m).name (map (λ (m : Macro). m.name) (take c.loop-i.i all)) ≡ false = subst (λ x. has_name x (map (λ (m : Macro). m.name) (take c.loop-i.i all)) ≡ false) n (subst (λ (xs : List Macro). has_name c.as_str-name.result.now (map (λ (m : Macro). m.name) xs) ≡ false) before out) in
    let place = place_found all c.loop-i.i (macro_view m) here new in
    let round = subst (λ rows. IsOnRound rows c.loop-i.i) c.requires (c.in_ok-is_on_round.ensures.yes c.if-branch.true) in (
      (macro_view m, here, new, ring_of_round all (macro_view m).name c.loop-i.i place round),
      c.loop-i.invariant,
    )

pub loop-i-preserved : goal.loop-i-preserved
loop-i-preserved c =
    let ms = c.args.macros.now in
    let all = macros_view ms in
    let m = c.index-macros-i.result in
    let here = got macro_view ms c.loop-i.i m (omega (arith, c.loop-i-test.true)) c.index-macros-i.is in
    let n : c.as_str-name.result.now ≡ (macro_view m).name = c.as_str-name.ensures.value ∙ ap (λ x. (macro_view x).name) (sym c.index-macros-i.is) in
    let before = sym (take-map macro_view c.loop-i.i ms) in
    below_more (λ k. IsRingAt all k → ⊥) c.loop-i.i c.loop-i.invariant (λ r.
    let same : r.0 ≡ macro_view m = let e = r.1 in cc in
    let named : r.0.name ≡ c.as_str-name.result.now = ap (λ (m : Macro). m.name) same ∙ sym n in
    elim c.else-is_new_name.branch [
      | else-is_new_name-via-then-is_new_name+in_ok-is_on_round+else-branch w ↦
          let place = place_found all c.loop-i.i r.0 r.1 r.2 in
          let round = round_of_ring all r.0.name c.loop-i.i place r.3 in
          w.in_ok-is_on_round.ensures.no w.if-branch.false (subst (λ rows. IsOnRound rows c.loop-i.i) (sym c.requires) round)
      | else-is_new_name-via-else-is_new_name w ↦
          let there = true_of_not _ (sym w.if-is_new_name.false ∙ c.is_new_name.ensures) in
          let there_too = subst (λ (xs : List Macro). has_name c.as_str-name.result.now (map (λ (m : Macro). m.name) xs) ≡ true) before there in
          let out = subst (λ x. has_name x (map (λ (m : Macro). m.name) (take c.loop-i.i all)) ≡ false) named r.2 in
          absurd (cc)
    ])

pub returns : goal.returns
returns c =
    let ms = c.args.macros.now in
    none_past (macros_view ms) c.loop-i.i (omega (arith, c.loop-i-test.false, len macro_view ms)) c.loop-i.invariant
