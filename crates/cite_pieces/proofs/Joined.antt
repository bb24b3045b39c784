-- What opens and closes in a stream whose punctuation is being put in order.
use Rattle.std.proofs.Common.{◌≡◌, ℕ, zero, suc, Bool, List, [], ◌∷◌, ◌++◌, drop, map, take, refl, sym, ap, ◌∙◌, append-nil, append_assoc}
use Rattle.std.specs.Prelude.{Result, Ok, Err, OnOk}
use Rattle.std.proofs.lemmas.List.{map-append}
use Rattle.cite_pieces.specs.Joints.{waiting_edge}
use Rattle.cite_pieces.specs.declared.punctuation.Edge.{Edge}

take_drop : (n : ℕ) (es : List Edge) → take n es ++ drop n es ≡ es
take_drop zero es = refl
take_drop (suc n) [] = refl
take_drop (suc n) (e ∷ es) = ap (λ l. e ∷ l) (take_drop n es)

-- an edge waits behind others
pub edge_waits : (out : List Bool) (new old : List Edge) (e : Edge) → new ≡ old ++ e ∷ [] → out ++ map waiting_edge new ≡ (out ++ map waiting_edge old) ++ waiting_edge e ∷ []
edge_waits out new old e h =
    ap (λ es. out ++ map waiting_edge es) h
    ∙ (ap (λ es. out ++ es) (map-append waiting_edge old (e ∷ []))
    ∙ sym (append_assoc out (map waiting_edge old) (waiting_edge e ∷ [])))

-- an edge is written behind others
pub edge_written : (old new now : List Bool) (written : List Edge) (e : Edge) → new ≡ now ++ waiting_edge e ∷ [] → now ≡ old ++ map waiting_edge written → new ≡ old ++ map waiting_edge (written ++ e ∷ [])
edge_written old new now written e h so_far =
    h
    ∙ (ap (λ es. es ++ waiting_edge e ∷ []) so_far
    ∙ (append_assoc old (map waiting_edge written) (waiting_edge e ∷ [])
    ∙ ap (λ es. old ++ es) (sym (map-append waiting_edge written (e ∷ [])))))

-- nothing waits
pub all_written : (new old : List Bool) (behind : List Edge) → new ≡ old → behind ≡ [] → new ++ map waiting_edge behind ≡ old
all_written new old behind e h = ap (λ es. new ++ map waiting_edge es) h ∙ (append-nil new ∙ e)

-- what waits before an index is written
pub waiting_split : (out new : List Bool) (place : ℕ) (before behind all : List Edge) → new ≡ out ++ map waiting_edge before → before ≡ take place all → behind ≡ drop place all → new ++ map waiting_edge behind ≡ out ++ map waiting_edge all
waiting_split out new place before behind all e f g =
    ap (λ es. es ++ map waiting_edge behind) (e ∙ ap (λ es. out ++ map waiting_edge es) f)
    ∙ (ap (λ es. (out ++ map waiting_edge (take place all)) ++ map waiting_edge es) g
    ∙ (append_assoc out (map waiting_edge (take place all)) (map waiting_edge (drop place all))
    ∙ (ap (λ es. out ++ es) (sym (map-append waiting_edge (take place all) (drop place all)))
    ∙ ap (λ es. out ++ map waiting_edge es) (take_drop place all))))

-- a joint ends behind what was read
pub wait_ended : {E : Type 0} (r : Result (Unit {0}) E) (new now old : List Bool) → OnOk r (new ≡ now) → now ≡ old → OnOk r (new ≡ old)
wait_ended (Ok x) new now old h e = h ∙ e
wait_ended (Err x) new now old h e = tt

-- a text is read
pub text_read : {E : Type 0} (r : Result (Unit {0}) E) (new old more : List Bool) → more ≡ [] → OnOk r (new ≡ old) → OnOk r (new ≡ old ++ more)
text_read (Ok x) new old more e h = h ∙ (sym (append-nil old) ∙ ap (λ es. old ++ es) (sym e))
text_read (Err x) new old more e h = tt

-- something is read that opens or closes
pub edge_read : {E : Type 0} (r : Result (Unit {0}) E) (new old more es : List Bool) → more ≡ es → OnOk r (new ≡ old ++ es) → OnOk r (new ≡ old ++ more)
edge_read (Ok x) new old more es e h = h ∙ ap (λ l. old ++ l) (sym e)
edge_read (Err x) new old more es e h = tt

-- a text is added
pub text_added : {E : Type 0} (r : Result (Unit {0}) E) (new old more : List Bool) → more ≡ [] → new ≡ old → OnOk r (new ≡ old ++ more)
text_added (Ok x) new old more e h = h ∙ (sym (append-nil old) ∙ ap (λ es. old ++ es) (sym e))
text_added (Err x) new old more e h = tt
