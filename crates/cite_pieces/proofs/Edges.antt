-- What opens and closes in streams that were put together.
use Rattle.std.proofs.Common.{◌≡◌, Bool, true, false, List, [], ◌∷◌, ◌++◌, refl, ap, ◌∙◌, append-nil, append_assoc}
use Rattle.std.specs.Prelude.{Result, Ok, Err, OnOk, is_ok, if◌then◌else◌}
use Rattle.cite_pieces.specs.Nesting.{edges}
use Rattle.cite_pieces.specs.declared.piece.Piece.{Piece}
use Rattle.cite_pieces.specs.declared.piece.Piece.TheVariants.{Text, Open, Close}

pub edges_append : (ps qs : List Piece) → edges (ps ++ qs) ≡ edges ps ++ edges qs
edges_append [] qs = refl
edges_append (Text t ∷ ps) qs = edges_append ps qs
edges_append (Open w ∷ ps) qs = ap (λ es. true ∷ es) (edges_append ps qs)
edges_append (Close ∷ ps) qs = ap (λ es. false ∷ es) (edges_append ps qs)

-- pieces are behind others
pub edges_both : (new old more : List Piece) → new ≡ old ++ more → edges new ≡ edges old ++ edges more
edges_both new old more e = ap edges e ∙ edges_append old more

-- a piece that neither opens nor closes something is behind others
pub edges_same : (new old : List Piece) (p : Piece) → edges (p ∷ []) ≡ [] → new ≡ old ++ p ∷ [] → edges new ≡ edges old
edges_same new old p h e = edges_both new old (p ∷ []) e ∙ (ap (λ es. edges old ++ es) h ∙ append-nil (edges old))

pub appended : {E : Type 0} (r : Result (Unit {0}) E) (new old more : List Piece) → new ≡ (if is_ok r then old ++ more else old) → OnOk r (edges new ≡ edges old ++ edges more)
appended (Ok x) new old more e = edges_both new old more e
appended (Err x) new old more e = tt

-- something stands around others
pub wrapped : {E : Type 0} (r : Result (Unit {0}) E) (a b c d inside : List Bool) → OnOk r (d ≡ c ++ false ∷ []) → b ≡ a ++ true ∷ [] → c ≡ b ++ inside → OnOk r (d ≡ a ++ (true ∷ inside ++ false ∷ []))
wrapped (Ok x) a b c d inside h e f =
    h
    ∙ (ap (λ es. es ++ false ∷ []) (f ∙ (ap (λ es. es ++ inside) e ∙ append_assoc a (true ∷ []) inside))
    ∙ append_assoc a (true ∷ inside) (false ∷ []))
wrapped (Err x) a b c d inside h e f = tt
