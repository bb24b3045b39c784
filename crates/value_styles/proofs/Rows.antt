-- Rows of places, as vectors hold them, and ranks that rise along each step.
use Rattle.std.proofs.Common.{◌≡◌, ℕ, ◌+◌, ◌<◌, List, [], ◌∷◌, ◌++◌, Vec, Global, length, take, get_or, map, true, inl, inr, sym, ap, ◌∙◌, subst, arith}
use Rattle.std.proofs.lemmas.List.{length-map, get_or-map, get_or_default, take_more}
use Rattle.value_styles.specs.Places.{Places, has_place, steps_from, IsPath, IsOnRound, IsWithin, IsClosed, LeadsUp}
use Rattle.value_styles.proofs.Reached.{has-at, has-either, has-same}

abbrev pub rows_of : List (Vec ℕ Global) → List Places
rows_of = map (λ row. row.items)

pub row_read : (rows : List (Vec ℕ Global)) (i : ℕ) (row : Vec ℕ Global) → i < length rows → row ≡ get_or rows i row → row.items ≡ steps_from (rows_of rows) i
row_read rows i row h e = ap (λ (r : Vec ℕ Global). r.items) e ∙ sym (get_or-map (λ (r : Vec ℕ Global). r.items) rows i row [] h)

-- a row that is read stays within bounds
pub row_within : (rows : List (Vec ℕ Global)) (i n : ℕ) (row : Vec ℕ Global) (ps : Places) → IsClosed (rows_of rows) → i < length rows → row ≡ get_or rows i row → ps ≡ row.items → n ≡ length rows → IsWithin n ps
row_within rows i n row ps closed h e held same =
    let within = subst (IsWithin (length (rows_of rows))) (sym (held ∙ row_read rows i row h e)) (closed i) in
    subst (λ m. IsWithin m ps) (length-map rows (λ (r : Vec ℕ Global). r.items) ∙ sym same) within

-- one more place within bounds
pub one_more : (n p : ℕ) (ps : Places) → IsWithin n ps → p < n → IsWithin n (ps ++ p ∷ [])
one_more n p ps within lt i e =
    elim (has-either i ps (p ∷ []) e) [ inl h ↦ within i h | inr h ↦ subst (λ j. j < n) (has-same i p h) lt ]

-- one more place of a row that lies above a rank
pub rises : (ranks : List ℕ) (rank : ℕ) (ps : Places) (k b : ℕ) → k < length ps → get_or ps k 0 < length ranks → b ≡ get_or ranks (get_or ps k 0) b → rank < b
    → ((j : ℕ) → has_place j (take k ps) ≡ true → rank < get_or ranks j 0) → (j : ℕ) → has_place j (take (k + 1) ps) ≡ true → rank < get_or ranks j 0
rises ranks rank ps k b h lt e above below j there =
    let p = get_or ps k 0 in
    let value : b ≡ get_or ranks p 0 = e ∙ get_or_default ranks p b 0 lt in
    elim (has-either j (take k ps) (p ∷ []) (subst (λ xs. has_place j xs ≡ true) (take_more ps k 0 h) there)) [
      | inl q ↦ below j q
      | inr q ↦ subst (λ i. rank < get_or ranks i 0) (has-same j p q) (subst (λ n. rank < n) value above)
    ]

path_rises : (rows : List Places) (ranks : List ℕ) → LeadsUp rows ranks → (i : ℕ) (between : Places) (k : ℕ) → IsPath rows i between k → get_or ranks i 0 < get_or ranks k 0
path_rises rows ranks up i [] k w = up i k w
path_rises rows ranks up i (j ∷ between) k w = omega (arith, up i j w.0, path_rises rows ranks up j between k w.1)

-- where ranks rise along each step, no steps lead back to where they began
pub no_round : (rows : List Places) (ranks : List ℕ) → LeadsUp rows ranks → (i : ℕ) → IsOnRound rows i → ⊥
no_round rows ranks up i round = omega (arith, path_rises rows ranks up i round.0 i round.1)

-- a place that is read from a list within bounds
pub read_within : (n : ℕ) (ps : Places) (i p : ℕ) → IsWithin n ps → i < length ps → p ≡ get_or ps i p → p < n
read_within n ps i p within lt e = within p (has-at p ps i lt e)
