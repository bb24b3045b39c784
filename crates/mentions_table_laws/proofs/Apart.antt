-- Two persons whose looks in full differ look unlike in the forms that they need beside each other.
use Rattle.std.proofs.Common.{◌≡◌, ◌≢◌, ℕ, ◌≤◌, Bool, true, false, cond, not, ◌&&◌, ◌||◌, Some, None, Option, List, [], ◌∷◌, filter, refl, ap, sym, subst, ◌∙◌, arith, true≢false}
use Rattle.std.specs.Prelude.{bytes_eq}
use Rattle.value_sources.specs.Finds.{texts_find}
use Rattle.value_sources.specs.Initials.{given_initials}
use Rattle.value_sources.specs.Ordered.{extent}
use Rattle.value_sources.specs.declared.entry.Person.{Person}
use Rattle.value_sources.specs.declared.names.DisambiguatedNameForm.{DisambiguatedNameForm}
use Rattle.mentions_names.specs.Looks.{full_look, given_name, given_shown, is_namesake, look, needed, needed_beside, same_initials, same_look}
use Rattle.mentions_names.specs.declared.look.GivenShown.{GivenShown}
use Rattle.mentions_names.specs.declared.look.Look.{Look}
use Rattle.mentions_names.proofs.Deciding.{looks_find}

-- the look of a family name and a given name
abbrev looked : DisambiguatedNameForm → List ℕ → Option (List ℕ) → Look
looked form name given = record { name = name; given = given_shown form given }

abbrev in_full : List ℕ → Option (List ℕ) → Look
in_full = looked DisambiguatedNameForm.LongFull

nothing-given : (form : DisambiguatedNameForm) → given_shown form None ≡ GivenShown.Nothing
nothing-given DisambiguatedNameForm.Count = refl
nothing-given DisambiguatedNameForm.Short = refl
nothing-given DisambiguatedNameForm.LongInitialized = refl
nothing-given DisambiguatedNameForm.LongFull = refl

nothing-initials : (t : List ℕ) → GivenShown.Nothing ≡ GivenShown.Initials t → ⊥
nothing-initials t e = cc

nothing-full : (t : List ℕ) → GivenShown.Nothing ≡ GivenShown.Full t → ⊥
nothing-full t e = cc

initials-full : (s t : List ℕ) → GivenShown.Initials s ≡ GivenShown.Full t → ⊥
initials-full s t e = cc

abbrev initials_in : GivenShown → List ℕ
initials_in (GivenShown.Initials t) = t
initials_in _ = []

abbrev full_in : GivenShown → List ℕ
full_in (GivenShown.Full t) = t
full_in _ = []

-- two of one family name
module _ (name : List ℕ) where
  namesakes : (u v : Option (List ℕ)) → same_look (in_full name u) (in_full name v) ≡ false
      → filter (is_namesake (in_full name u)) (in_full name u ∷ in_full name v ∷ []) ≡ in_full name v ∷ []
  namesakes u v apart =
      let r = in_full name u in
      let s = in_full name v in
      let own : is_namesake r r ≡ false = (λ i. texts_find.self name i && not (looks_find.self r i)) in
      let other : is_namesake r s ≡ true = (λ i. texts_find.self name i && not (apart i)) in
      λ i. cond (own i) (r ∷ cond (other i) (s ∷ []) []) (cond (other i) (s ∷ []) [])

  -- what one with a given name needs
  given-needs : (g : List ℕ) (v : Option (List ℕ)) → same_look (in_full name (Some g)) (in_full name v) ≡ false
      → needed (in_full name (Some g)) (in_full name (Some g) ∷ in_full name v ∷ [])
      ≡ cond (same_initials (in_full name (Some g)) (in_full name v) || false) DisambiguatedNameForm.LongFull DisambiguatedNameForm.LongInitialized
  given-needs g v apart = ap (needed_beside (in_full name (Some g))) (namesakes (Some g) v apart)

  two-at-least : (b : Bool) → 2 ≤ extent (cond b DisambiguatedNameForm.LongFull DisambiguatedNameForm.LongInitialized)
  two-at-least true = omega arith
  two-at-least false = omega arith

  long-shows : (form : DisambiguatedNameForm) (g : List ℕ) → 2 ≤ extent form → GivenShown.Nothing ≡ given_shown form (Some g) → ⊥
  long-shows DisambiguatedNameForm.Count g h e = absurd (omega arith)
  long-shows DisambiguatedNameForm.Short g h e = absurd (omega arith)
  long-shows DisambiguatedNameForm.LongInitialized g h e = nothing-initials (given_initials (Some g)) e
  long-shows DisambiguatedNameForm.LongFull g h e = nothing-full g e

  -- one without a given name, beside one that has one
  beside-none : (f h : DisambiguatedNameForm) (g : List ℕ) → same_look (in_full name (Some g)) (in_full name None) ≡ false
      → extent (needed (in_full name (Some g)) (in_full name (Some g) ∷ in_full name None ∷ [])) ≤ extent h
      → given_shown f None ≡ given_shown h (Some g) → ⊥
  beside-none f h g apart enough e =
      let need = ap extent (given-needs g None apart) in
      let two = two-at-least (same_initials (in_full name (Some g)) (in_full name None) || false) in
      long-shows h g (omega (arith, need, two, enough)) (sym (nothing-given f) ∙ e)

  both-given : (f h : DisambiguatedNameForm) (u v : List ℕ) → same_look (in_full name (Some u)) (in_full name (Some v)) ≡ false
      → extent (needed (in_full name (Some u)) (in_full name (Some u) ∷ in_full name (Some v) ∷ [])) ≤ extent f
      → extent (needed (in_full name (Some v)) (in_full name (Some v) ∷ in_full name (Some u) ∷ [])) ≤ extent h
      → given_shown f (Some u) ≡ given_shown h (Some v) → ⊥
  both-given f h u v apart one other = by f h low high three
    where
      back : same_look (in_full name (Some v)) (in_full name (Some u)) ≡ false
      back = others (same_look (in_full name (Some v)) (in_full name (Some u))) refl
        where
          others : (b : Bool) → same_look (in_full name (Some v)) (in_full name (Some u)) ≡ b → b ≡ false
          others false e = refl
          others true e =
              let same = looks_find.equal (in_full name (Some v)) (in_full name (Some u)) e in
              absurd (true≢false (sym (looks_find.self (in_full name (Some u))) ∙ ap (same_look (in_full name (Some u))) (sym same) ∙ apart))

      low : 2 ≤ extent f
      low =
          let need = ap extent (given-needs u (Some v) apart) in
          let two = two-at-least (same_initials (in_full name (Some u)) (in_full name (Some v)) || false) in
          omega (arith, need, two, one)

      high : 2 ≤ extent h
      high =
          let need = ap extent (given-needs v (Some u) back) in
          let two = two-at-least (same_initials (in_full name (Some v)) (in_full name (Some u)) || false) in
          omega (arith, need, two, other)

      three : given_initials (Some u) ≡ given_initials (Some v) → 3 ≤ extent f
      three same =
          let alike : same_initials (in_full name (Some u)) (in_full name (Some v)) ≡ true =
          ap (bytes_eq (given_initials (Some u))) (sym same) ∙ texts_find.self (given_initials (Some u)) in
          let need = ap extent (given-needs u (Some v) apart
          ∙ ap (λ b. cond (b || false) DisambiguatedNameForm.LongFull DisambiguatedNameForm.LongInitialized) alike) in
          omega (arith, need, one)

      in-full : u ≡ v → ⊥
      in-full same = true≢false (sym (looks_find.self (in_full name (Some u))) ∙ ap (λ g. same_look (in_full name (Some u)) (in_full name (Some g))) same ∙ apart)

      by : (f h : DisambiguatedNameForm) → 2 ≤ extent f → 2 ≤ extent h → (given_initials (Some u) ≡ given_initials (Some v) → 3 ≤ extent f)
          → given_shown f (Some u) ≡ given_shown h (Some v) → ⊥
      by DisambiguatedNameForm.Count h l k t e = absurd (omega arith)
      by DisambiguatedNameForm.Short h l k t e = absurd (omega arith)
      by DisambiguatedNameForm.LongInitialized DisambiguatedNameForm.Count l k t e = absurd (omega arith)
      by DisambiguatedNameForm.LongInitialized DisambiguatedNameForm.Short l k t e = absurd (omega arith)
      by DisambiguatedNameForm.LongInitialized DisambiguatedNameForm.LongInitialized l k t e = let more = t (ap initials_in e) in omega (arith, more)
      by DisambiguatedNameForm.LongInitialized DisambiguatedNameForm.LongFull l k t e = initials-full (given_initials (Some u)) v e
      by DisambiguatedNameForm.LongFull DisambiguatedNameForm.Count l k t e = absurd (omega arith)
      by DisambiguatedNameForm.LongFull DisambiguatedNameForm.Short l k t e = absurd (omega arith)
      by DisambiguatedNameForm.LongFull DisambiguatedNameForm.LongInitialized l k t e = initials-full (given_initials (Some v)) u (sym e)
      by DisambiguatedNameForm.LongFull DisambiguatedNameForm.LongFull l k t e = in-full (ap full_in e)

  one-name : (f h : DisambiguatedNameForm) (u v : Option (List ℕ)) → same_look (in_full name u) (in_full name v) ≡ false → same_look (in_full name v) (in_full name u) ≡ false
      → extent (needed (in_full name u) (in_full name u ∷ in_full name v ∷ [])) ≤ extent f
      → extent (needed (in_full name v) (in_full name v ∷ in_full name u ∷ [])) ≤ extent h
      → given_shown f u ≡ given_shown h v → ⊥
  one-name f h None None apart back one other e = true≢false (sym (looks_find.self (in_full name None)) ∙ apart)
  one-name f h None (Some v) apart back one other e = beside-none f h v back other e
  one-name f h (Some u) None apart back one other e = beside-none h f u apart one (sym e)
  one-name f h (Some u) (Some v) apart back one other e = both-given f h u v apart one other e

differ-back : (r s : Look) → same_look r s ≡ false → same_look s r ≡ false
differ-back r s apart = by (same_look s r) refl
  where
    by : (b : Bool) → same_look s r ≡ b → b ≡ false
    by false e = refl
    by true e = let same = looks_find.equal s r e in absurd (true≢false (sym (looks_find.self r) ∙ ap (same_look r) (sym same) ∙ apart))

-- two persons in the forms that they need, or greater ones
pub unlike : (p q : Person) (f h : DisambiguatedNameForm) → same_look (full_look p) (full_look q) ≡ false
    → extent (needed (full_look p) (full_look p ∷ full_look q ∷ [])) ≤ extent f
    → extent (needed (full_look q) (full_look q ∷ full_look p ∷ [])) ≤ extent h
    → look f p ≢ look h q
unlike p q f h apart one other e =
    named q.name (ap (λ (l : Look). l.name) e) apart one other
  where
    named : (name : List ℕ) → p.name ≡ name → same_look (full_look p) (in_full name (given_name q)) ≡ false
        → extent (needed (full_look p) (full_look p ∷ in_full name (given_name q) ∷ [])) ≤ extent f
        → extent (needed (in_full name (given_name q)) (in_full name (given_name q) ∷ full_look p ∷ [])) ≤ extent h
        → ⊥
    named name same =
        subst (λ n. same_look (full_look p) (in_full n (given_name q)) ≡ false
        → extent (needed (full_look p) (full_look p ∷ in_full n (given_name q) ∷ [])) ≤ extent f
        → extent (needed (in_full n (given_name q)) (in_full n (given_name q) ∷ full_look p ∷ [])) ≤ extent h → ⊥) same
        (λ a b c. one-name p.name f h (given_name p) (given_name q) a (differ-back (full_look p) (in_full p.name (given_name q)) a) b c (ap (λ (l : Look). l.given) e))
