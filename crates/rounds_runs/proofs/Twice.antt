-- Cites rendered again at one table and then at another.
use Rattle.std.proofs.Common.{◌≡◌, Option, Some, None, List, [], ◌∷◌, ◌++◌, map, refl, ap, ◌∙◌}
use Rattle.std.specs.Option.{option_or}
use Rattle.driver_writers.specs.Writing.{Writing}
use Rattle.driver_lookup.specs.declared.state.DisambiguateState.{DisambiguateState}
use Rattle.driver_passes.specs.Renders.{CiteRender, ItemRender}
use Rattle.driver_passes.specs.Request.{Request}
use Rattle.rounds_runs.specs.Rounds.{StateTable, at_table, entries_cited, no_states, request_at, with_any, with_marks}

module _ {E P : Type 0} (writing : Writing E P) where
  -- the entry stays
  pub same-entry : (request : Request E P) (s : Option DisambiguateState) (i : ItemRender E P) → (with_any writing request s i).entry ≡ i.entry
  same-entry request None i = refl
  same-entry request (Some s) i = refl

  once : (request : Request E P) (s t : Option DisambiguateState) (i : ItemRender E P) → with_any writing request s (with_any writing request t i) ≡ with_any writing request (option_or s t) i
  once request None t i = refl
  once request (Some s) None i = refl
  once request (Some s) (Some t) i = refl

  items-twice : (m t : StateTable E) (request : Request E P) (xs : List (ItemRender E P))
      → map (λ i. with_any writing request (m i.entry) i) (map (λ i. with_any writing request (t i.entry) i) xs) ≡ map (λ i. with_any writing request (with_marks m t i.entry) i) xs
  items-twice m t request [] = refl
  items-twice m t request (i ∷ xs) =
      ap (λ e. with_any writing request (m e) (with_any writing request (t i.entry) i) ∷ map (λ i. with_any writing request (m i.entry) i) (map (λ i. with_any writing request (t i.entry) i) xs))
      (same-entry request (t i.entry) i)
      ∙ ap (λ y. y ∷ map (λ i. with_any writing request (m i.entry) i) (map (λ i. with_any writing request (t i.entry) i) xs)) (once request (m i.entry) (t i.entry) i)
      ∙ ap (λ ys. with_any writing request (with_marks m t i.entry) i ∷ ys) (items-twice m t request xs)

  -- rendered again at one table, and then at another
  pub twice : (m t : StateTable E) (rs : List (CiteRender E P)) → at_table writing m (at_table writing t rs) ≡ at_table writing (with_marks m t) rs
  twice m t [] = refl
  twice m t (c ∷ cs) =
      ap (λ xs. record c { items = xs } ∷ at_table writing m (at_table writing t cs)) (items-twice m t c.request c.items)
      ∙ ap (λ ys. request_at writing (with_marks m t) c ∷ ys) (twice m t cs)

  same-items : (request : Request E P) (xs : List (ItemRender E P)) → map (λ i. with_any writing request None i) xs ≡ xs
  same-items request [] = refl
  same-items request (i ∷ xs) = ap (λ ys. i ∷ ys) (same-items request xs)

  pub nothing-new : (rs : List (CiteRender E P)) → at_table writing no_states rs ≡ rs
  nothing-new [] = refl
  nothing-new (c ∷ cs) =
      ap (λ xs. record c { items = xs } ∷ at_table writing no_states cs) (same-items c.request c.items) ∙ ap (λ ys. c ∷ ys) (nothing-new cs)

  -- the cited entries stay
  row-entries : (t : StateTable E) (request : Request E P) (xs : List (ItemRender E P)) → map (λ i. i.entry) (map (λ i. with_any writing request (t i.entry) i) xs) ≡ map (λ i. i.entry) xs
  row-entries t request [] = refl
  row-entries t request (i ∷ xs) = λ j. same-entry request (t i.entry) i j ∷ row-entries t request xs j

  pub same-entries : (t : StateTable E) (rs : List (CiteRender E P)) → entries_cited (at_table writing t rs) ≡ entries_cited rs
  same-entries t [] = refl
  same-entries t (c ∷ cs) = λ j. row-entries t c.request c.items j ++ same-entries t cs j
