-- Loops over the places of a group.
use Rattle.std.proofs.Common.{◌≡◌, ℕ, ◌+◌, ◌<◌, ◌≤◌, Bool, true, false, cond, ◌||◌, Option, Some, None, List, [], ◌∷◌, ◌++◌, length, drop, map, filter, get_or, refl, ap, sym, ◌∙◌, append-nil, append_assoc, add-one}
use Rattle.std.specs.Prelude.{find, option_map}
use Rattle.std.specs.List.{list_any}
use Rattle.std.proofs.Math.Seq.{drop-cons}
use Rattle.std.proofs.lemmas.List.{drop_all}
use Rattle.driver_passes.specs.Places.{cite_at}
use Rattle.driver_passes.specs.Renders.{CiteRender, ItemRender, Place}
use Rattle.driver_passes.specs.Request.{Request}
use Rattle.rounds_ambiguity.specs.Members.{Member, member_at, members}

module _ {E P : Type 0} (cites : List (CiteRender E P)) (ps : List Place) (k : ℕ) (d : Place) where
  abbrev rest : List (Member E P)
  rest = members cites (drop k ps)

  abbrev later : List (Member E P)
  later = members cites (drop (k + 1) ps)

  -- the cite at the k-th place, of which something is known, and those after it
  pub record IsNext {X : Type 0} (f : Member E P → X) (x : X) : Type 0 where
    pub cite : Member E P
    pub known : f cite ≡ x
    pub split : rest ≡ cite ∷ later
    pub place : cite.place ≡ get_or ps k d

some-inj : {A : Type 0} (x y : A) → Some x ≡ Some y → x ≡ y
some-inj x y h = cc

module _ {E P : Type 0} (cites : List (CiteRender E P)) where
  at-place : (p : Place) (m : Member E P) → member_at cites p ≡ Some m → m.place ≡ p
  at-place p m h = by (cite_at cites p) h
    where
      by : (o : Option (Request E P × ItemRender E P)) → option_map (λ c. record { place = p; item = c.1; style = c.0.style }) o ≡ Some m → m.place ≡ p
      by None h = cc
      by (Some c) h = ap (λ x. x.place) (sym (some-inj _ _ h))

  pub next : {X : Type 0} (f : Member E P → X) (ps : List Place) (k : ℕ) (d : Place) (x : X) → k < length ps → option_map f (member_at cites (get_or ps k d)) ≡ Some x
      → IsNext cites ps k d f x
  next f ps k d x within known = by (member_at cites (get_or ps k d)) refl known
    where
      by : (o : Option (Member E P)) → member_at cites (get_or ps k d) ≡ o → option_map f o ≡ Some x → IsNext cites ps k d f x
      by None e h = cc
      by (Some m) e h =
          let split : members cites (drop k ps) ≡ m ∷ members cites (drop (k + 1) ps) =
          rw (add-one, drop-cons ps k d within, e) refl in
          record { cite = m; known = cc; split = split; place = at-place (get_or ps k d) m e }

  module _ {X : Type 0} (f : Member E P → X) (ps : List Place) (k : ℕ) (d : Place) (x : X) (within : k < length ps) (known : option_map f (member_at cites (get_or ps k d)) ≡ Some x) where
    -- whether one passes a test
    module _ (q : X → Bool) (a : Bool) (so_far : a ≡ list_any (λ m. q (f m)) (members cites (drop k ps))) where
      any-split : a ≡ (q x || list_any (λ m. q (f m)) (members cites (drop (k + 1) ps)))
      any-split =
          let n : IsNext cites ps k d f x = next f ps k d x within known in
          so_far ∙ ap (list_any (λ m. q (f m))) n.split ∙ ap (λ y. q y || list_any (λ m. q (f m)) (members cites (drop (k + 1) ps))) n.known

      pub any-skip : q x ≡ false → a ≡ list_any (λ m. q (f m)) (members cites (drop (k + 1) ps))
      any-skip h = any-split ∙ ap (λ b. b || list_any (λ m. q (f m)) (members cites (drop (k + 1) ps))) h

      pub any-found : q x ≡ true → true ≡ a
      any-found h = sym (any-split ∙ ap (λ b. b || list_any (λ m. q (f m)) (members cites (drop (k + 1) ps))) h)

    -- the first that passes a test
    module _ (q : X → Bool) {A : Type 0} (e : X → A) (o : Option A) (so_far : o ≡ option_map (λ m. e (f m)) (find (λ m. q (f m)) (members cites (drop k ps)))) where
      find-split : o ≡ option_map (λ m. e (f m)) (find (λ m. q (f m)) ((next f ps k d x within known).cite ∷ members cites (drop (k + 1) ps)))
      find-split = so_far ∙ ap (λ ms. option_map (λ m. e (f m)) (find (λ m. q (f m)) ms)) (next f ps k d x within known).split

      pub find-skip : q x ≡ false → o ≡ option_map (λ m. e (f m)) (find (λ m. q (f m)) (members cites (drop (k + 1) ps)))
      find-skip h =
          let n : IsNext cites ps k d f x = next f ps k d x within known in
          let no : q (f n.cite) ≡ false = ap q n.known ∙ h in
          find-split ∙ ap (λ b. option_map (λ m. e (f m)) (cond b (Some n.cite) (find (λ m. q (f m)) (members cites (drop (k + 1) ps))))) no

      pub find-found : q x ≡ true → Some (e x) ≡ o
      find-found h =
          let n : IsNext cites ps k d f x = next f ps k d x within known in
          let yes : q (f n.cite) ≡ true = ap q n.known ∙ h in
          sym (find-split ∙ ap (λ b. option_map (λ m. e (f m)) (cond b (Some n.cite) (find (λ m. q (f m)) (members cites (drop (k + 1) ps))))) yes ∙ ap (λ y. Some (e y)) n.known)

    -- marks for those that pass a test
    module _ (q : X → Bool) {A : Type 0} (mark : A) (made more all : List (Place × A))
        (so_far : made ++ map (λ m. (m.place, mark)) (filter (λ m. q (f m)) (members cites (drop k ps))) ≡ all) where
      marks-split : (b : Bool) → q x ≡ b
          → made ++ cond b ((get_or ps k d, mark) ∷ map (λ m. (m.place, mark)) (filter (λ m. q (f m)) (members cites (drop (k + 1) ps)))) (map (λ m. (m.place, mark)) (filter (λ m. q (f m)) (members cites (drop (k + 1) ps)))) ≡ all
      marks-split b h =
          let n : IsNext cites ps k d f x = next f ps k d x within known in
          sym (ap (λ ms. made ++ map (λ m. (m.place, mark)) (filter (λ m. q (f m)) ms)) n.split ∙ by b n (ap q n.known ∙ h)) ∙ so_far
        where
          by : (b : Bool) (n : IsNext cites ps k d f x) → q (f n.cite) ≡ b
              → made ++ map (λ m. (m.place, mark)) (filter (λ m. q (f m)) (n.cite ∷ members cites (drop (k + 1) ps)))
              ≡ made ++ cond b ((get_or ps k d, mark) ∷ map (λ m. (m.place, mark)) (filter (λ m. q (f m)) (members cites (drop (k + 1) ps)))) (map (λ m. (m.place, mark)) (filter (λ m. q (f m)) (members cites (drop (k + 1) ps))))
          by true n e = rw e (ap (λ p. made ++ (p, mark) ∷ map (λ m. (m.place, mark)) (filter (λ m. q (f m)) (members cites (drop (k + 1) ps)))) n.place)
          by false n e = rw e refl

      pub marks-skip : q x ≡ false → more ≡ made → more ++ map (λ m. (m.place, mark)) (filter (λ m. q (f m)) (members cites (drop (k + 1) ps))) ≡ all
      marks-skip h e = ap (λ ms. ms ++ map (λ m. (m.place, mark)) (filter (λ m. q (f m)) (members cites (drop (k + 1) ps)))) e ∙ marks-split false h

      pub marks-more : q x ≡ true → more ≡ made ++ (get_or ps k d, mark) ∷ []
          → more ++ map (λ m. (m.place, mark)) (filter (λ m. q (f m)) (members cites (drop (k + 1) ps))) ≡ all
      marks-more h e =
          let tail = map (λ m. (m.place, mark)) (filter (λ m. q (f m)) (members cites (drop (k + 1) ps))) in
          ap (λ ms. ms ++ tail) e ∙ append_assoc made ((get_or ps k d, mark) ∷ []) tail ∙ marks-split true h

  -- nothing is left at the end
  pub rest-end : (ps : List Place) (k : ℕ) → length ps ≤ k → members cites (drop k ps) ≡ []
  rest-end ps k h = ap (members cites) (drop_all k ps h)

  pub marks-end : {A : Type 0} (q : Member E P → Bool) (mark : A) (ps : List Place) (k : ℕ) (made all : List (Place × A)) → length ps ≤ k
      → made ++ map (λ m. (m.place, mark)) (filter q (members cites (drop k ps))) ≡ all → made ≡ all
  marks-end q mark ps k made all h so_far =
      sym (append-nil made) ∙ ap (λ ms. made ++ map (λ m. (m.place, mark)) (filter q ms)) (sym (rest-end ps k h)) ∙ so_far
