-- How much is open in a stream whose quotes get their marks.
use Rattle.std.proofs.Common.{◌≡◌, ℕ, zero, suc, ◌+◌, Bool, true, false, List, [], ◌∷◌, ◌++◌, length, refl, ap, ◌∙◌, arith}
use Rattle.std.specs.Prelude.{Some, Result, Ok, Err, OnOk}
use Rattle.cite_pieces.specs.Marked.{wraps}
use Rattle.cite_pieces.specs.Nesting.{depth}
use Rattle.cite_pieces.specs.declared.marked.Opened.{Opened}
use Rattle.cite_pieces.specs.declared.marked.Opened.TheVariants.{Marks, Quotes, Other}

pub depth_append : (es fs : List Bool) (n m : ℕ) → depth n es ≡ Some m → depth n (es ++ fs) ≡ depth m fs
depth_append [] fs n m h = cc
depth_append (true ∷ es) fs n m h = depth_append es fs (suc n) m h
depth_append (false ∷ es) fs zero m h = cc
depth_append (false ∷ es) fs (suc n) m h = depth_append es fs n m h

wraps_append : (os ps : List Opened) → wraps (os ++ ps) ≡ wraps os + wraps ps
wraps_append [] ps = omega arith
wraps_append (Marks ∷ os) ps = wraps_append os ps
wraps_append (Quotes ∷ os) ps = omega (arith, wraps_append os ps)
wraps_append (Other ∷ os) ps = omega (arith, wraps_append os ps)

pub none_open : (os : List Opened) → length os ≡ 0 → wraps os ≡ 0
none_open [] e = refl
none_open (o ∷ os) e = absurd (omega arith)

-- a text is written
pub depth_kept : {E : Type 0} (r : Result (Unit {0}) E) (new old : List Bool) (n : ℕ) → new ≡ old → depth 0 old ≡ Some n → OnOk r (depth 0 new ≡ Some n)
depth_kept (Ok x) new old n e h = ap (λ es. depth 0 es) e ∙ h
depth_kept (Err x) new old n e h = tt

pub marks_opened : (new old : List Bool) (ns os : List Opened) → new ≡ old → ns ≡ os ++ Marks ∷ [] → depth 0 old ≡ Some (wraps os) → depth 0 new ≡ Some (wraps ns)
marks_opened new old ns os e f h =
    let same : wraps os ≡ wraps ns = omega (arith, wraps_append os (Marks ∷ []), ap wraps f) in
    ap (λ es. depth 0 es) e ∙ (h ∙ ap (λ n. Some n) same)

pub wrap_opened : (new old : List Bool) (ns os : List Opened) (o : Opened) → wraps (o ∷ []) ≡ 1 → new ≡ old ++ true ∷ [] → ns ≡ os ++ o ∷ [] → depth 0 old ≡ Some (wraps os) → depth 0 new ≡ Some (wraps ns)
wrap_opened new old ns os o w e f h =
    let same : suc (wraps os) ≡ wraps ns = omega (arith, wraps_append os (o ∷ []), ap wraps f, w) in
    ap (λ es. depth 0 es) e ∙ (depth_append old (true ∷ []) 0 (wraps os) h ∙ ap (λ n. Some n) same)

pub marks_closed : {E : Type 0} (r : Result (Unit {0}) E) (new old : List Bool) (os : List Opened) (o : Opened) → wraps (o ∷ []) ≡ 0 → new ≡ old → depth 0 old ≡ Some (wraps (os ++ o ∷ [])) → OnOk r (depth 0 new ≡ Some (wraps os))
marks_closed r new old os o w e h =
    let same : wraps (os ++ o ∷ []) ≡ wraps os = omega (arith, wraps_append os (o ∷ []), w) in
    depth_kept r new old (wraps os) e (h ∙ ap (λ n. Some n) same)

pub wrap_closed : {E : Type 0} (r : Result (Unit {0}) E) (new old : List Bool) (os : List Opened) (o : Opened) → wraps (o ∷ []) ≡ 1 → OnOk r (new ≡ old ++ false ∷ []) → depth 0 old ≡ Some (wraps (os ++ o ∷ [])) → OnOk r (depth 0 new ≡ Some (wraps os))
wrap_closed (Ok x) new old os o w e h =
    let same : wraps (os ++ o ∷ []) ≡ suc (wraps os) = omega (arith, wraps_append os (o ∷ []), w) in
    ap (λ es. depth 0 es) e
    ∙ (depth_append old (false ∷ []) 0 (wraps (os ++ o ∷ [])) h ∙ ap (λ n. depth n (false ∷ [])) same)
wrap_closed (Err x) new old os o w e h = tt
