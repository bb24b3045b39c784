-- How much is open in a stream while an element is written around its content.
use Rattle.std.proofs.Common.{◌≡◌, ℕ, zero, suc, ◌+◌, Bool, true, false, List, [], ◌∷◌, ◌++◌, ap, ◌∙◌, arith, drop, take}
use Rattle.std.specs.Prelude.{Some, Result, Ok, Err, OnOk, IfOk, is_ok, if◌then◌else◌}
use Rattle.cite_pieces.specs.Levels.{one_if}
use Rattle.cite_pieces.specs.Nesting.{depth, edges}
use Rattle.cite_pieces.specs.declared.piece.Piece.{Piece}
use Rattle.cite_pieces.specs.declared.piece.Piece.TheVariants.{Text, Open, Close}
use Rattle.cite_pieces.specs.declared.pieces.Pieces.{Pieces}
use Rattle.cite_pieces.proofs.Depths.{depth_append}
use Rattle.cite_pieces.proofs.Edges.{edges_append}

depth_suc : (es : List Bool) (n m : ℕ) → depth n es ≡ Some m → depth (suc n) es ≡ Some (suc m)
depth_suc [] n m h = cc
depth_suc (true ∷ es) n m h = depth_suc es (suc n) m h
depth_suc (false ∷ es) zero m h = cc
depth_suc (false ∷ es) (suc n) m h = depth_suc es n m h

nested_within : (es : List Bool) (n : ℕ) → depth 0 es ≡ Some 0 → depth n es ≡ Some n
nested_within es zero h = h
nested_within es (suc n) h = depth_suc es n n (nested_within es n h)

-- so much is open, by another sum
pub as_much : (es : List Bool) (n m : ℕ) → n ≡ m → depth 0 es ≡ Some n → depth 0 es ≡ Some m
as_much es n m e h = h ∙ ap (λ k. Some k) e

-- nothing opens or closes
pub unchanged : (new old : List Bool) (n : ℕ) → new ≡ old → depth 0 old ≡ Some n → depth 0 new ≡ Some n
unchanged new old n e h = ap (λ es. depth 0 es) e ∙ h

-- a stream that is well nested is added
pub nested_added : (new old es : List Bool) (n : ℕ) → new ≡ old ++ es → depth 0 es ≡ Some 0 → depth 0 old ≡ Some n → depth 0 new ≡ Some n
nested_added new old es n e g h = ap (λ ds. depth 0 ds) e ∙ (depth_append old es 0 n h ∙ nested_within es n g)

-- the same, of what may fail
pub by_sum : {E : Type 0} (r : Result (Unit {0}) E) (es : List Bool) (n m : ℕ) → n ≡ m → OnOk r (depth 0 es ≡ Some n) → OnOk r (depth 0 es ≡ Some m)
by_sum (Ok x) es n m e h = as_much es n m e h
by_sum (Err x) es n m e h = tt

pub opened : {E : Type 0} (r : Result (Unit {0}) E) (new old : List Bool) (n : ℕ) (b : Bool) → b ≡ true → OnOk r (new ≡ old ++ true ∷ []) → depth 0 old ≡ Some n → OnOk r (depth 0 new ≡ Some (n + one_if b))
opened (Ok x) new old n b t e h =
    let more : suc n ≡ n + one_if b = omega (arith, ap one_if t) in
    ap (λ es. depth 0 es) e ∙ (depth_append old (true ∷ []) 0 n h ∙ ap (λ k. Some k) more)
opened (Err x) new old n b t e h = tt

pub closed : {E : Type 0} (r : Result (Unit {0}) E) (new old : List Bool) (n : ℕ) (b : Bool) → b ≡ true → OnOk r (new ≡ old ++ false ∷ []) → depth 0 old ≡ Some (n + one_if b) → OnOk r (depth 0 new ≡ Some n)
closed (Ok x) new old n b t e h =
    let more : n + one_if b ≡ suc n = omega (arith, ap one_if t) in
    ap (λ es. depth 0 es) e ∙ depth_append old (false ∷ []) 0 (suc n) (h ∙ ap (λ k. Some k) more)
closed (Err x) new old n b t e h = tt

-- a text stands anywhere in a stream
inserted : (i : ℕ) (ps : List Piece) (p : Piece) → edges (p ∷ []) ≡ [] → edges (take i ps ++ p ∷ drop i ps) ≡ edges ps
inserted zero ps p h = edges_append (p ∷ []) ps ∙ ap (λ es. es ++ edges ps) h
inserted (suc i) [] p h = h
inserted (suc i) (Text u ∷ ps) p h = inserted i ps p h
inserted (suc i) (Open w ∷ ps) p h = ap (λ es. true ∷ es) (inserted i ps p h)
inserted (suc i) (Close ∷ ps) p h = ap (λ es. false ∷ es) (inserted i ps p h)

pub text_inserted : {E : Type 0} (r : Result (Unit {0}) E) (new old : List Piece) (i : ℕ) (p : Piece) → edges (p ∷ []) ≡ [] → new ≡ (if is_ok r then take i old ++ p ∷ drop i old else old) → edges new ≡ edges old
text_inserted (Ok x) new old i p h e = ap edges e ∙ inserted i old p h
text_inserted (Err x) new old i p h e = ap edges e

-- what is made of a stream has the edges of what that was made of
pub edges_along : {E : Type 0} (r : Result Pieces E) (es ds : List Bool) → es ≡ ds → IfOk r (λ out. edges out.pieces.items ≡ es) → IfOk r (λ out. edges out.pieces.items ≡ ds)
edges_along (Ok x) es ds e h = h ∙ e
edges_along (Err x) es ds e h = tt
