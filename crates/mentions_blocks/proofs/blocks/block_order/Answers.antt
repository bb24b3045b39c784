use Rattle.std.proofs.Common.{length, map, refl, rules, subst}
use Rattle.std.specs.List.Sorted.{IsPermutation, IsStableByKey}
use Rattle.std.specs.Ordering.{nat_cmp}
use Rattle.std.proofs.lemmas.List.Sorted.{IsNonDecreasingBy-from_sort, IsPermutation-map, answers_always}
use Rattle.mentions_blocks.specs.Blocks.{placed_cites}
use Rattle.mentions_blocks.specs.declared.blocks.PlacedCite.{PlacedCite}
use Rattle.mentions_blocks.proofs.Placing.{blocks-within, places-from}
use Rattle.mentions_blocks.proofs.Sorting.{classes-stay, sorted-classes}
use Rattle.mentions_blocks.proofs.blocks.block_order.Goals as goal

pub returns : goal.returns
returns c =
    let cites = c.args.cites.now in
    let sorted = c.sort_by_key.new.self.items in
    let moved = subst (λ xs. IsPermutation xs sorted) c.in_ok-placed.ensures c.sort_by_key.ensures.permutation in
    let stable = subst (λ xs. IsStableByKey (λ p. p.block) nat_cmp xs sorted) c.in_ok-placed.ensures
    (c.sort_by_key.ensures.stable (λ p. p.block) (answers_always _ _ _ (λ f a r g h. search rules))) in
    let rises = c.in_ok-sort_by_key.ensures.sorted (λ p. p.block) (answers_always _ _ _ (λ f a r g h. search rules)) in
    record {
      order = sorted-classes (λ (p : PlacedCite). p.block) (length cites) (placed_cites cites) sorted (blocks-within cites) moved
          (IsNonDecreasingBy-from_sort (λ (p : PlacedCite). p.block) sorted rises)
          (λ b. classes-stay (λ (p : PlacedCite). p.block) (placed_cites cites) sorted stable (record { place = 0; block = b }) b refl);
      once = subst (λ ps. IsPermutation ps (map (λ c. c.place) sorted)) (places-from cites 0 cites) (IsPermutation-map (λ c. c.place) (placed_cites cites) sorted moved);
    }
