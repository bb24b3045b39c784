-- The cites by one author in A A B A B aren't adjacent.
use Rattle.std.proofs.Common.{◌≡◌, ℕ, List, [], ◌∷◌, ◌++◌, Option, Some, None, map, cond, refl, ap, sym, subst, ◌∙◌, true, false, true≢false, arith}
use Rattle.std.specs.Prelude.{Bool, codes, slice_get, slice_index}
use Rattle.std.specs.Option.{option_map_or}
use Rattle.std.proofs.lemmas.List.Sorted.{IsPermutation-swap, IsPermutation-trans}
use Rattle.value_trees.specs.Child.{Child, text}
use Rattle.value_trees.specs.SameElem.{same_elem}
use Rattle.value_trees.proofs.EqualTrees.{elem_Decides}
use Rattle.value_trees.specs.declared.elem.Elem.{Elem}
use Rattle.rounds_grouping.specs.FinalOrder.{HasFinalOrder}
use Rattle.rounds_grouping.specs.Laws.{StandsTogether, bare}
use Rattle.driver_passes.specs.Renders.{ItemRender}
use Rattle.test_wrong_answers.proofs.Differ.{above, below}
use Rattle.test_wrong_answers.specs.Orders.{as_cited, by_a, by_a_stale_index, by_b, in_blocks, names_of_a, names_of_b}
use Rattle.test_wrong_answers.specs.Samples.{words}
use Rattle.test_wrong_answers.specs.declared.sample.Sample.{Sample}

-- the first byte of a text
abbrev first_byte : Child → ℕ
first_byte (text f) = slice_index f.text 0
first_byte _ = 0

-- the entries of cites, as numbers
abbrev numbers_of : List (Option (ItemRender Sample ℕ)) → List ℕ
numbers_of = map (λ o. option_map_or (λ c. c.entry.number) o 9)

-- those at these places of the request
abbrev at : List ℕ → List ℕ
at order = numbers_of (map (λ k. slice_get (map bare as_cited) k) order)

-- the cites 0, 2 and 3 one after another nowhere give 0, 2, 1, 3 and 4
nowhere : (before behind : List ℕ) → 0 ∷ 2 ∷ 1 ∷ 3 ∷ 4 ∷ [] ≡ at (before ++ ((0 ∷ 2 ∷ 3 ∷ []) ++ behind)) → ⊥
nowhere [] behind e = below 1 3 (omega arith) (ap (λ l. slice_index l 2) e)
nowhere (a ∷ []) behind e = below 1 2 (omega arith) (ap (λ l. slice_index l 2) e)
nowhere (a ∷ b ∷ []) behind e = above 1 0 (omega arith) (ap (λ l. slice_index l 2) e)
nowhere (a ∷ b ∷ c ∷ []) behind e = above 3 0 (omega arith) (ap (λ l. slice_index l 3) e)
nowhere (a ∷ b ∷ c ∷ d ∷ []) behind e = above 4 0 (omega arith) (ap (λ l. slice_index l 4) e)
nowhere (a ∷ b ∷ c ∷ d ∷ f ∷ []) behind e = let sixth : None ≡ Some 0 = ap (λ l. slice_get l 5) e in cc
nowhere (a ∷ b ∷ c ∷ d ∷ f ∷ g ∷ before) behind e =
    let sixth : None ≡ Some (option_map_or (λ c. c.entry.number) (slice_get (map bare as_cited) g) 9) = ap (λ l. slice_get l 5) e in cc

-- the cites by the author of these names, where cites by A have them or don't, and so have cites by B
module _ (by_a_has by_b_has : Bool) where
  abbrev last_one : List (ℕ × ItemRender Sample ℕ)
  last_one = cond by_b_has ((4, by_b 4) ∷ []) []

  abbrev last_two : List (ℕ × ItemRender Sample ℕ)
  last_two = cond by_a_has ((3, by_a 3) ∷ last_one) last_one

  abbrev last_three : List (ℕ × ItemRender Sample ℕ)
  last_three = cond by_a_has ((2, by_a 2) ∷ last_two) last_two

  abbrev last_four : List (ℕ × ItemRender Sample ℕ)
  last_four = cond by_b_has ((1, by_b 1) ∷ last_three) last_three

  abbrev places : List ℕ
  places = map (λ p. p.0) (cond by_a_has ((0, by_a 0) ∷ last_four) last_four)

a-is-a : same_elem names_of_a names_of_a ≡ true
a-is-a = (elem_Decides names_of_a names_of_a).1 refl

b-is-not-a : (names : Elem) → same_elem names names_of_a ≡ true → same_elem names names_of_b ≡ false
b-is-not-a names h = by (same_elem names names_of_b) refl
  where
    by : (b : Bool) → same_elem names names_of_b ≡ b → b ≡ false
    by true e =
        let one : names_of_a ≡ names_of_b = sym ((elem_Decides names names_of_a).0 h) ∙ (elem_Decides names names_of_b).0 e in
        let letters : Some (words (codes "A")) ≡ Some (words (codes "B")) = ap (λ (n : Elem). slice_get n.children 0) one in
        absurd (below 65 66 (omega arith) (ap (λ o. option_map_or first_byte o 0) letters))
    by false e = refl

pub not-adjacent : ¬ HasFinalOrder true as_cited by_a_stale_index
not-adjacent h =
    let together : StandsTogether h.final_order (places true false) =
    subst (StandsTogether h.final_order) (λ i. places (a-is-a i) (b-is-not-a names_of_a a-is-a i)) (h.equal_names_are_adjacent refl names_of_a) in
    nowhere together.0 together.1 (ap numbers_of h.cites_in_this_order ∙ ap at together.2)

in-order : (by_a_has by_b_has : Bool) → (by_a_has ≡ true → by_b_has ≡ false) → StandsTogether (0 ∷ 2 ∷ 3 ∷ 1 ∷ 4 ∷ []) (places by_a_has by_b_has)
in-order true true not = absurd (true≢false (not refl))
in-order true false not = ([], 1 ∷ 4 ∷ [], refl)
in-order false true not = (0 ∷ 2 ∷ 3 ∷ [], [], refl)
in-order false false not = ([], 0 ∷ 2 ∷ 3 ∷ 1 ∷ 4 ∷ [], refl)

-- but in A A A B B they are
pub adjacent : HasFinalOrder true as_cited in_blocks
adjacent = record {
  final_order = 0 ∷ 2 ∷ 3 ∷ 1 ∷ 4 ∷ [];
  each_place_once = IsPermutation-trans (0 ∷ 1 ∷ 2 ∷ 3 ∷ 4 ∷ []) (0 ∷ 2 ∷ 1 ∷ 3 ∷ 4 ∷ []) (0 ∷ 2 ∷ 3 ∷ 1 ∷ 4 ∷ [])
      (IsPermutation-swap (0 ∷ 1 ∷ 2 ∷ 3 ∷ 4 ∷ []) (0 ∷ 2 ∷ 1 ∷ 3 ∷ 4 ∷ []) 1 2 (omega arith) (omega arith) refl)
      (IsPermutation-swap (0 ∷ 2 ∷ 1 ∷ 3 ∷ 4 ∷ []) (0 ∷ 2 ∷ 3 ∷ 1 ∷ 4 ∷ []) 2 3 (omega arith) (omega arith) refl);
  cites_in_this_order = refl;
  equal_names_are_adjacent = λ groups names. in-order (same_elem names names_of_a) (same_elem names names_of_b) (b-is-not-a names);
  else_nothing_changes = λ not. absurd (true≢false not);
}
