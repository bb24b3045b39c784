-- Rings of macros that call each other by name, and rounds of their places.
use Rattle.std.proofs.Common.{◌≡◌, ℕ, zero, suc, ◌<◌, ◌≤◌, List, [], ◌∷◌, length, take, get_or, slice_get, cond, ◌||◌, eqb, Bool, true, false, Option, Some, None, is_some, inl, inr, map, sym, ap, ◌∙◌, refl, subst, arith, option_map}
use Rattle.std.proofs.lemmas.List.{length-map}
use Rattle.std.specs.Cmp.Lexicographic.{same_text}
use Rattle.std.specs.Prelude.{bytes_eq}
use Rattle.std.specs.List.{cons_option}
use Rattle.std.proofs.lemmas.Cmp.{nat_list_eq_equiv}
use Rattle.std.proofs.lemmas.Bool.{eqb-true, eq-eqb, or_left, or_right, or_cases, or_parts}
use Rattle.std.proofs.lemmas.Option.{same_Some, slice_get-map, get_or_from_slice_get, slice_get_within}
use Rattle.value_styles.specs.Element.{Name, Elements, Macro}
use Rattle.value_styles.specs.Calls.{Names, calls_of_all}
use Rattle.value_styles.specs.Ring.{has_name, body_of, body_calls, macro_calls, Calls, IsWalk, IsOnRing, HasNoRing, IsRingAt, place_of_macro, places_of, call_places}
use Rattle.value_styles.specs.Places.{Places, has_place, steps_from, IsPath, IsOnRound, IsWithin, IsClosed}

after_suc : (o : Option ℕ) (i : ℕ) → option_map (λ k. suc k) o ≡ Some i → (j : ℕ) × (o ≡ Some j) × (suc j ≡ i)
after_suc None i e = cc
after_suc (Some j) i e = (j, refl, same_Some (suc j) i e)

-- what stands at the place of a name
place_at : (b : Name) (ms : List Macro) (i : ℕ) → place_of_macro b ms ≡ Some i → (m : Macro) × (slice_get ms i ≡ Some m) × (body_of b ms ≡ Some m.children) × (m.name ≡ b)
place_at b [] i e = cc
place_at b (m ∷ ms) i e =
    let by : (t : Bool) → t ≡ bytes_eq m.name b → cond t (Some 0) (option_map (λ k. suc k) (place_of_macro b ms)) ≡ Some i → (k : Macro) × (slice_get (m ∷ ms) i ≡ Some k) × (cond t (Some m.children) (body_of b ms) ≡ Some k.children) × (k.name ≡ b) = λ t.
    elim t as (λ t. t ≡ bytes_eq m.name b → cond t (Some 0) (option_map (λ k. suc k) (place_of_macro b ms)) ≡ Some i → (k : Macro) × (slice_get (m ∷ ms) i ≡ Some k) × (cond t (Some m.children) (body_of b ms) ≡ Some k.children) × (k.name ≡ b)) [
      | true ↦ λ q z. (m, subst (λ j. slice_get (m ∷ ms) j ≡ Some m) (same_Some 0 i z) refl, refl, same_text m.name b q)
      | false ↦ λ q z.
          let o = after_suc (place_of_macro b ms) i z in
          let p = place_at b ms o.0 o.1 in
          (p.0, subst (λ j. slice_get (m ∷ ms) j ≡ Some p.0) o.2 p.1, p.2, p.3)
    ] in
    by (bytes_eq m.name b) refl e

-- a name with a macro has a place
some_place : (b : Name) (ms : List Macro) → is_some (body_of b ms) ≡ true → (i : ℕ) × (place_of_macro b ms ≡ Some i)
some_place b [] e = cc
some_place b (m ∷ ms) e =
    let by : (t : Bool) → is_some (cond t (Some m.children) (body_of b ms)) ≡ true → (i : ℕ) × (cond t (Some 0) (option_map (λ k. suc k) (place_of_macro b ms)) ≡ Some i) = λ t.
    elim t as (λ t. is_some (cond t (Some m.children) (body_of b ms)) ≡ true → (i : ℕ) × (cond t (Some 0) (option_map (λ k. suc k) (place_of_macro b ms)) ≡ Some i)) [
      | true ↦ λ _. (0, refl)
      | false ↦ λ h. let p = some_place b ms h in (suc p.0, ap (option_map (λ k. suc k)) p.1)
    ] in
    by (bytes_eq m.name b) e

-- and the first macro of a name stands at its place
pub place_found : (ms : List Macro) (i : ℕ) (m : Macro) → slice_get ms i ≡ Some m → has_name m.name (map (λ m. m.name) (take i ms)) ≡ false → place_of_macro m.name ms ≡ Some i
place_found [] i m e out = cc
place_found (x ∷ xs) zero m e out =
    let same : true ≡ bytes_eq x.name m.name = sym (ap (λ (y : Macro). bytes_eq x.name y.name) (sym (same_Some x m e)) ∙ nat_list_eq_equiv.refl x.name) in
    ap (λ t. cond t (Some 0) (option_map (λ k. suc k) (place_of_macro m.name xs))) (sym same)
place_found (x ∷ xs) (suc i) m e out =
    let h = or_parts (bytes_eq x.name m.name) _ out in
    ap (λ t. cond t (Some 0) (option_map (λ k. suc k) (place_of_macro m.name xs))) h.0 ∙ ap (option_map (λ k. suc k)) (place_found xs i m e h.1)

keeps : (j : ℕ) (o : Option ℕ) (rest : Places) → has_place j rest ≡ true → has_place j (cons_option o rest) ≡ true
keeps j None rest h = h
keeps j (Some k) rest h = or_right (eqb k j) _ h

-- the place of a name that is called is among the places of those called
place_among : (ms : List Macro) (c : Name) (bs : Names) (j : ℕ) → has_name c bs ≡ true → place_of_macro c ms ≡ Some j → has_place j (places_of ms bs) ≡ true
place_among ms c [] j h e = cc
place_among ms c (b ∷ bs) j h e =
    elim (or_cases (bytes_eq b c) _ h) [
      | inl q ↦
          let is : Some j ≡ place_of_macro b ms = sym (ap (λ x. place_of_macro x ms) (same_text b c (sym q)) ∙ e) in
          subst (λ o. has_place j (cons_option o (places_of ms bs)) ≡ true) is (or_left (eqb j j) _ (eq-eqb j j refl))
      | inr q ↦ keeps j (place_of_macro b ms) (places_of ms bs) (place_among ms c bs j q e)
    ]

-- and each of these is the place of a name that is called
among_place : (ms : List Macro) (bs : Names) (j : ℕ) → has_place j (places_of ms bs) ≡ true → (c : Name) × (has_name c bs ≡ true) × (place_of_macro c ms ≡ Some j)
among_place ms [] j h = cc
among_place ms (b ∷ bs) j h =
    let later : has_place j (places_of ms bs) ≡ true → (c : Name) × (has_name c (b ∷ bs) ≡ true) × (place_of_macro c ms ≡ Some j) = λ k.
    let r = among_place ms bs j k in (r.0, or_right (bytes_eq b r.0) _ r.1, r.2) in
    let by : (o : Option ℕ) → place_of_macro b ms ≡ o → has_place j (cons_option o (places_of ms bs)) ≡ true → (c : Name) × (has_name c (b ∷ bs) ≡ true) × (place_of_macro c ms ≡ Some j) = λ o.
    elim o as (λ o. place_of_macro b ms ≡ o → has_place j (cons_option o (places_of ms bs)) ≡ true → (c : Name) × (has_name c (b ∷ bs) ≡ true) × (place_of_macro c ms ≡ Some j)) [
      | None ↦ λ _ k. later k
      | Some i ↦ λ q k. elim (or_cases (eqb i j) _ k) [
        | inl t ↦ (b, or_left (bytes_eq b b) _ (nat_list_eq_equiv.refl b), q ∙ ap (λ x. Some x) (eqb-true i j t))
        | inr t ↦ later t
      ]
    ] in
    by (place_of_macro b ms) refl h

rows_within : (n : ℕ) (f : Macro → Places) (xs : List Macro) → ((m : Macro) → IsWithin n (f m)) → (i : ℕ) → IsWithin n (get_or (map f xs) i [])
rows_within n f [] h i j e = cc
rows_within n f (x ∷ xs) h zero j e = h x j e
rows_within n f (x ∷ xs) h (suc i) j e = rows_within n f xs h i j e

-- calls lead to places of macros
pub calls_closed : (ms : List Macro) → IsClosed (call_places ms)
calls_closed ms i j e =
    let within : (m : Macro) → IsWithin (length ms) (places_of ms (calls_of_all m.children)) = λ m k h.
    let p = among_place ms (calls_of_all m.children) k h in let q = place_at p.0 ms k p.2 in slice_get_within ms k q.0 q.1 in
    let n : length (call_places ms) ≡ length ms = length-map ms (λ m. places_of ms (calls_of_all m.children)) in
    omega (arith, n, rows_within (length ms) (λ m. places_of ms (calls_of_all m.children)) ms within i j e)

steps_are : (ms : List Macro) (b : Name) (i : ℕ) → place_of_macro b ms ≡ Some i → steps_from (call_places ms) i ≡ places_of ms (macro_calls ms b)
steps_are ms b i e =
    let p = place_at b ms i e in
    let f : Macro → Places = λ m. places_of ms (calls_of_all m.children) in
    get_or_from_slice_get (map f ms) i (f p.0) [] (slice_get-map f ms i ∙ ap (option_map f) p.1) ∙ ap (λ o. places_of ms (body_calls o)) (sym p.2)

calls-some : (ms : List Macro) (b c : Name) → Calls ms b c → is_some (body_of b ms) ≡ true
calls-some ms b c h =
    let by : (o : Option (Elements)) → has_name c (body_calls o) ≡ true → is_some o ≡ true = λ o.
    elim o as (λ o. has_name c (body_calls o) ≡ true → is_some o ≡ true) [ None ↦ λ e. cc | Some es ↦ λ _. refl ] in
    by (body_of b ms) h

walk-some : (ms : List Macro) (b : Name) (between : Names) (c : Name) → IsWalk ms b between c → is_some (body_of b ms) ≡ true
walk-some ms b [] c w = calls-some ms b c w
walk-some ms b (d ∷ between) c w = calls-some ms b d w.0

-- a walk of names is a path of places
path_of : (ms : List Macro) (a : Name) (i : ℕ) (between : Names) (c : Name) (k : ℕ) → place_of_macro a ms ≡ Some i → place_of_macro c ms ≡ Some k → IsWalk ms a between c → (places : Places) × IsPath (call_places ms) i places k
path_of ms a i [] c k e f w =
    ([], subst (λ xs. has_place k xs ≡ true) (sym (steps_are ms a i e)) (place_among ms c (macro_calls ms a) k w f))
path_of ms a i (d ∷ between) c k e f w =
    let p = some_place d ms (walk-some ms d between c w.1) in
    let rest = path_of ms d p.0 between c k p.1 f w.1 in
    let step = subst (λ xs. has_place p.0 xs ≡ true) (sym (steps_are ms a i e)) (place_among ms d (macro_calls ms a) p.0 w.0 p.1) in
    (p.0 ∷ rest.0, (step, rest.1))

-- and a path of places a walk of names
walk_of : (ms : List Macro) (a : Name) (i : ℕ) (places : Places) (k : ℕ) → place_of_macro a ms ≡ Some i → IsPath (call_places ms) i places k → (c : Name) × (between : Names) × IsWalk ms a between c × (place_of_macro c ms ≡ Some k)
walk_of ms a i [] k e w =
    let q = among_place ms (macro_calls ms a) k (subst (λ xs. has_place k xs ≡ true) (steps_are ms a i e) w) in
    (q.0, [], q.1, q.2)
walk_of ms a i (j ∷ places) k e w =
    let q = among_place ms (macro_calls ms a) j (subst (λ xs. has_place j xs ≡ true) (steps_are ms a i e) w.0) in
    let r = walk_of ms q.0 j places k q.2 w.1 in
    (r.0, q.0 ∷ r.1, (q.1, r.2), r.3)

pub ring_of_round : (ms : List Macro) (a : Name) (i : ℕ) → place_of_macro a ms ≡ Some i → IsOnRound (call_places ms) i → IsOnRing ms a
ring_of_round ms a i e round =
    let r = walk_of ms a i round.0 i e round.1 in
    let p = place_at r.0 ms i r.3 in
    let q = place_at a ms i e in
    let same : r.0 ≡ a = sym p.3 ∙ ap (λ (m : Macro). m.name) (same_Some p.0 q.0 (sym p.1 ∙ q.1)) ∙ q.3 in
    (r.1, subst (λ c. IsWalk ms a r.1 c) same r.2)

pub round_of_ring : (ms : List Macro) (a : Name) (i : ℕ) → place_of_macro a ms ≡ Some i → IsOnRing ms a → IsOnRound (call_places ms) i
round_of_ring ms a i e ring = path_of ms a i ring.0 a i e e ring.1

in_range : {A : Type 0} (xs : List A) (i : ℕ) (x : A) → slice_get xs i ≡ Some x → i < length xs
in_range [] i x e = cc
in_range (y ∷ ys) zero x e = omega arith
in_range (y ∷ ys) (suc i) x e = omega (arith, in_range ys i x e)

-- the first macro of a name has a place
first_place : (name : Name) (ms : List Macro) → is_some (body_of name ms) ≡ true → (i : ℕ) × (m : Macro) × (slice_get ms i ≡ Some m) × (has_name (m.name) (map (λ m. m.name) (take i ms)) ≡ false) × (m.name ≡ name)
first_place name [] e = cc
first_place name (m ∷ ms) e =
    let n = m.name in
    let Place : Type 0 = (i : ℕ) × (k : Macro) × (slice_get (m ∷ ms) i ≡ Some k) × (has_name (k.name) (map (λ m. m.name) (take i (m ∷ ms))) ≡ false) × (k.name ≡ name) in
    let by : (b : Bool) → b ≡ bytes_eq n name → is_some (cond b (Some m.children) (body_of name ms)) ≡ true → Place = λ b.
    elim b as (λ b. b ≡ bytes_eq n name → is_some (cond b (Some m.children) (body_of name ms)) ≡ true → Place) [
      | true ↦ λ q _. (0, m, refl, refl, same_text n name q)
      | false ↦ λ q k.
          let p = first_place name ms k in
          let out : has_name (p.1.name) (n ∷ map (λ m. m.name) (take p.0 ms)) ≡ false =
          subst (λ b. (b || has_name (p.1.name) (map (λ m. m.name) (take p.0 ms))) ≡ false) (subst (λ x. false ≡ bytes_eq n x) (sym p.4) q) p.3 in
          (suc p.0, p.1, p.2, out, p.4)
    ] in
    by (bytes_eq n name) refl e

-- a style none of whose places lies on a ring has no ring
pub no_ring : (ms : List Macro) → ((i : ℕ) → IsRingAt ms i → ⊥) → HasNoRing ms
no_ring ms h name ring =
    let p = first_place name ms (walk-some ms name ring.0 name ring.1) in
    h p.0 (p.1, p.2, p.3, subst (IsOnRing ms) (sym p.4) ring)

-- nor has one that has none at the places below its length
pub none_past : (ms : List Macro) (n : ℕ) → length ms ≤ n → ((k : ℕ) → k < n → IsRingAt ms k → ⊥) → (i : ℕ) → IsRingAt ms i → ⊥
none_past ms n le h i r = h i (omega (arith, in_range ms i r.0 r.1)) r
