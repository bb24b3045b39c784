use Rattle.std.proofs.Common.{arith, ◌≡◌, ℕ, suc, ◌<◌, ◌+◌, ◌∙◌, List, [], ◌∷◌, ◌++◌, append_assoc, drop, drop-cons, get_or, length, map, Bor, Vec, Global, Option, Some, None, sym, ap}
use Rattle.std.specs.List.{cons_option, filter_map}
use Rattle.value_styles.specs.Element.{Name}
use Rattle.value_styles.specs.NamedPlaces.{place_named}
use Rattle.value_styles.proofs.ring.called_places.Goals as goal
use Rattle.value_styles.proofs.ring.called_places.Goals.{in-Some+in_ok-push, in_default}

module _ (f : Name → Option ℕ) (names : List (Bor Name)) (i : ℕ) (name : Bor Name) (lt : i < length names) where
  here : drop i names ≡ get_or names i name ∷ drop (i + 1) names
  here =
      let next : suc i ≡ i + 1 = omega arith in
      drop-cons names i name lt ∙ ap (λ n. get_or names i name ∷ drop n names) next

  found : (places : List ℕ) (place : ℕ) → Some place ≡ f (get_or names i name).now → (places ++ place ∷ []) ++ filter_map f (map (λ s. s.now) (drop (i + 1) names)) ≡ places ++ filter_map f (map (λ s. s.now) (drop i names))
  found places place e =
      append_assoc places (place ∷ []) (filter_map f (map (λ s. s.now) (drop (i + 1) names)))
      ∙ ap (λ o. places ++ cons_option o (filter_map f (map (λ s. s.now) (drop (i + 1) names)))) e
      ∙ ap (λ xs. places ++ filter_map f (map (λ s. s.now) xs)) (sym here)

  lacked : (places : List ℕ) → None ≡ f (get_or names i name).now → places ++ filter_map f (map (λ s. s.now) (drop (i + 1) names)) ≡ places ++ filter_map f (map (λ s. s.now) (drop i names))
  lacked places e =
      ap (λ o. places ++ cons_option o (filter_map f (map (λ s. s.now) (drop (i + 1) names)))) e
      ∙ ap (λ xs. places ++ filter_map f (map (λ s. s.now) xs)) (sym here)

pub loop-name-preserved : goal.loop-name-preserved
loop-name-preserved c =
    let l = c.loop-name in
    let f = place_named c.args.places.now in
    let names = c.deref-name-items.result.now in
    let lt : l.name-index < length names = c.loop-name-test.true in
    elim c.match-place_named.branch [
      | in-Some+in_ok-push w ↦
          ap (λ (v : Vec ℕ Global). v.items ++ filter_map f (map (λ (s : Bor Name). s.now) (drop (l.name-index + 1) names))) w.called-is
          ∙ ap (λ places. places ++ filter_map f (map (λ (s : Bor Name). s.now) (drop (l.name-index + 1) names))) w.in_ok-push.ensures.items
          ∙ found f names l.name-index _ lt l.called.items w.in-Some.place (sym w.in-Some.is ∙ c.place_named.ensures)
          ∙ l.invariant
      | in_default w ↦
          ap (λ (v : Vec ℕ Global). v.items ++ filter_map f (map (λ (s : Bor Name). s.now) (drop (l.name-index + 1) names))) w.called-is
          ∙ lacked f names l.name-index _ lt l.called.items (sym w.in_default.is ∙ c.place_named.ensures)
          ∙ l.invariant
    ]
