-- States go on, and come farther where they do.
use Rattle.std.proofs.Common.{◌≡◌, ◌⊎◌, inl, inr, ℕ, zero, suc, ◌+◌, ◌*◌, ◌<◌, ◌≤◌, Bool, true, false, cond, List, [], ◌∷◌, length, refl, ap, sym, ◌∙◌, arith}
use Rattle.std.specs.Prelude.{sum_by}
use Rattle.std.specs.Ordering.{is_lt}
use Rattle.std.proofs.lemmas.List.Sums.{sum_by-cons}
use Rattle.value_sources.specs.Ordered.{extent}
use Rattle.value_sources.specs.declared.names.DisambiguatedNameForm.{DisambiguatedNameForm}
use Rattle.driver_lookup.specs.GoingOn.{GoesFarther, GoesOn, GoesOnTo, GreaterIsOne, NoFormFalls}
use Rattle.driver_lookup.specs.States.{kind_of, state_cmp}
use Rattle.driver_lookup.specs.declared.state.DisambiguateState.{DisambiguateState}

falls-none : (fs : List DisambiguatedNameForm) → NoFormFalls fs fs
falls-none [] = tt
falls-none (f ∷ fs) = (omega arith, falls-none fs)

falls-never : (fs gs hs : List DisambiguatedNameForm) → NoFormFalls fs gs → NoFormFalls gs hs → NoFormFalls fs hs
falls-never [] [] [] p q = tt
falls-never [] [] (h ∷ hs) p q = absurd q
falls-never [] (g ∷ gs) hs p q = absurd p
falls-never (f ∷ fs) [] hs p q = absurd p
falls-never (f ∷ fs) (g ∷ gs) [] p q = absurd q
falls-never (f ∷ fs) (g ∷ gs) (h ∷ hs) p q = (omega (arith, p.0, q.0), falls-never fs gs hs p.1 q.1)

kinds : (s m : DisambiguateState) → GoesOnTo s m → kind_of s ≤ kind_of m
kinds DisambiguateState.None DisambiguateState.None h = h
kinds DisambiguateState.None (DisambiguateState.NameDisambiguation g) h = h
kinds DisambiguateState.None DisambiguateState.Choose h = h
kinds DisambiguateState.None (DisambiguateState.YearSuffix b) h = h
kinds (DisambiguateState.NameDisambiguation f) DisambiguateState.None h = h
kinds (DisambiguateState.NameDisambiguation f) (DisambiguateState.NameDisambiguation g) h = omega arith
kinds (DisambiguateState.NameDisambiguation f) DisambiguateState.Choose h = h
kinds (DisambiguateState.NameDisambiguation f) (DisambiguateState.YearSuffix b) h = h
kinds DisambiguateState.Choose DisambiguateState.None h = h
kinds DisambiguateState.Choose (DisambiguateState.NameDisambiguation g) h = h
kinds DisambiguateState.Choose DisambiguateState.Choose h = h
kinds DisambiguateState.Choose (DisambiguateState.YearSuffix b) h = h
kinds (DisambiguateState.YearSuffix a) DisambiguateState.None h = h
kinds (DisambiguateState.YearSuffix a) (DisambiguateState.NameDisambiguation g) h = h
kinds (DisambiguateState.YearSuffix a) DisambiguateState.Choose h = h
kinds (DisambiguateState.YearSuffix a) (DisambiguateState.YearSuffix b) h = omega arith

itself : (s : DisambiguateState) → GoesOnTo s s
itself DisambiguateState.None = omega arith
itself (DisambiguateState.NameDisambiguation f) = falls-none f.forms
itself DisambiguateState.Choose = omega arith
itself (DisambiguateState.YearSuffix a) = refl

-- from names to names, and from suffix to suffix, by way of any state
names-twice : (f h : List DisambiguatedNameForm) (b : DisambiguateState) → GoesOnTo (DisambiguateState.NameDisambiguation (record { forms = f })) b
    → GoesOnTo b (DisambiguateState.NameDisambiguation (record { forms = h })) → NoFormFalls f h
names-twice f h DisambiguateState.None p q = absurd (omega (arith, p))
names-twice f h (DisambiguateState.NameDisambiguation g) p q = falls-never f g.forms h p q
names-twice f h DisambiguateState.Choose p q = absurd (omega (arith, q))
names-twice f h (DisambiguateState.YearSuffix b) p q = absurd (omega (arith, q))

suffix-twice : (a c : ℕ) (b : DisambiguateState) → GoesOnTo (DisambiguateState.YearSuffix a) b → GoesOnTo b (DisambiguateState.YearSuffix c) → a ≡ c
suffix-twice a c DisambiguateState.None p q = absurd (omega (arith, p))
suffix-twice a c (DisambiguateState.NameDisambiguation g) p q = absurd (omega (arith, p))
suffix-twice a c DisambiguateState.Choose p q = absurd (omega (arith, p))
suffix-twice a c (DisambiguateState.YearSuffix b) p q = p ∙ q

abbrev NamesTwice : DisambiguateState → Type 0
NamesTwice b =
    (f h : List DisambiguatedNameForm) → GoesOnTo (DisambiguateState.NameDisambiguation (record { forms = f })) b
    → GoesOnTo b (DisambiguateState.NameDisambiguation (record { forms = h })) → NoFormFalls f h

abbrev SuffixTwice : DisambiguateState → Type 0
SuffixTwice b = (m n : ℕ) → GoesOnTo (DisambiguateState.YearSuffix m) b → GoesOnTo b (DisambiguateState.YearSuffix n) → m ≡ n

twice : (a b c : DisambiguateState) → GoesOnTo a b → GoesOnTo b c → GoesOnTo a c
twice a b c p q = by a c (λ f h. names-twice f h b) (λ m n. suffix-twice m n b) p q (omega (arith, kinds a b p, kinds b c q))
  where
    by : (a c : DisambiguateState) → NamesTwice b → SuffixTwice b → GoesOnTo a b → GoesOnTo b c → kind_of a ≤ kind_of c → GoesOnTo a c
    by DisambiguateState.None DisambiguateState.None n s p q k = k
    by DisambiguateState.None (DisambiguateState.NameDisambiguation h) n s p q k = k
    by DisambiguateState.None DisambiguateState.Choose n s p q k = k
    by DisambiguateState.None (DisambiguateState.YearSuffix c) n s p q k = k
    by (DisambiguateState.NameDisambiguation f) DisambiguateState.None n s p q k = k
    by (DisambiguateState.NameDisambiguation f) (DisambiguateState.NameDisambiguation h) n s p q k = n f.forms h.forms p q
    by (DisambiguateState.NameDisambiguation f) DisambiguateState.Choose n s p q k = k
    by (DisambiguateState.NameDisambiguation f) (DisambiguateState.YearSuffix c) n s p q k = k
    by DisambiguateState.Choose DisambiguateState.None n s p q k = k
    by DisambiguateState.Choose (DisambiguateState.NameDisambiguation h) n s p q k = k
    by DisambiguateState.Choose DisambiguateState.Choose n s p q k = k
    by DisambiguateState.Choose (DisambiguateState.YearSuffix c) n s p q k = k
    by (DisambiguateState.YearSuffix a) DisambiguateState.None n s p q k = k
    by (DisambiguateState.YearSuffix a) (DisambiguateState.NameDisambiguation h) n s p q k = k
    by (DisambiguateState.YearSuffix a) DisambiguateState.Choose n s p q k = k
    by (DisambiguateState.YearSuffix a) (DisambiguateState.YearSuffix c) n s p q k = s a c p q

pub go-on : GoesOn
go-on = (itself, twice)

pub greater-is-one : GreaterIsOne
greater-is-one a b = by (is_lt (state_cmp b a))
  where
    by : (t : Bool) → (cond t a b ≡ a) ⊎ (cond t a b ≡ b)
    by true = inl refl
    by false = inr refl

-- a form from its extent
form_at : ℕ → DisambiguatedNameForm
form_at zero = DisambiguatedNameForm.Count
form_at (suc zero) = DisambiguatedNameForm.Short
form_at (suc (suc zero)) = DisambiguatedNameForm.LongInitialized
form_at (suc (suc (suc n))) = DisambiguatedNameForm.LongFull

form-at : (f : DisambiguatedNameForm) → form_at (extent f) ≡ f
unfolding form_at
form-at DisambiguatedNameForm.Count = refl
form-at DisambiguatedNameForm.Short = refl
form-at DisambiguatedNameForm.LongInitialized = refl
form-at DisambiguatedNameForm.LongFull = refl

same-form : (f g : DisambiguatedNameForm) → extent f ≡ extent g → f ≡ g
same-form f g e = sym (form-at f) ∙ ap form_at e ∙ form-at g

upto-three : (f : DisambiguatedNameForm) → extent f ≤ 3
upto-three DisambiguatedNameForm.Count = omega arith
upto-three DisambiguatedNameForm.Short = omega arith
upto-three DisambiguatedNameForm.LongInitialized = omega arith
upto-three DisambiguatedNameForm.LongFull = omega arith

bounded : (fs : List DisambiguatedNameForm) → sum_by extent fs ≤ 3 * length fs
bounded [] = omega arith
bounded (f ∷ fs) = omega (arith, sum_by-cons extent f fs, upto-three f, bounded fs)

equal-or-less : (a b : ℕ) → a ≤ b → (a ≡ b) ⊎ (a < b)
equal-or-less a b h = grind arith

more-or-same : (fs gs : List DisambiguatedNameForm) → NoFormFalls fs gs → (fs ≡ gs) ⊎ (sum_by extent fs < sum_by extent gs)
more-or-same [] [] h = inl refl
more-or-same [] (g ∷ gs) h = absurd h
more-or-same (f ∷ fs) [] h = absurd h
more-or-same (f ∷ fs) (g ∷ gs) h = by (equal-or-less (extent f) (extent g) h.0) (more-or-same fs gs h.1)
  where
    sums : sum_by extent (f ∷ fs) ≡ extent f + sum_by extent fs
    sums = sum_by-cons extent f fs

    more : sum_by extent (g ∷ gs) ≡ extent g + sum_by extent gs
    more = sum_by-cons extent g gs

    by : (extent f ≡ extent g) ⊎ (extent f < extent g) → (fs ≡ gs) ⊎ (sum_by extent fs < sum_by extent gs)
        → ((f ∷ fs) ≡ (g ∷ gs)) ⊎ (sum_by extent (f ∷ fs) < sum_by extent (g ∷ gs))
    by (inl e) (inl r) = inl (λ i. same-form f g e i ∷ r i)
    by (inl e) (inr r) = inr (omega (arith, sums, more))
    by (inr e) (inl r) = let same : sum_by extent fs ≡ sum_by extent gs = ap (sum_by extent) r in inr (omega (arith, sums, more))
    by (inr e) (inr r) = inr (omega (arith, sums, more))

pub farther : GoesFarther
farther most DisambiguateState.None DisambiguateState.None l h = inl refl
farther most DisambiguateState.None (DisambiguateState.NameDisambiguation g) l h = inr (omega arith)
farther most DisambiguateState.None DisambiguateState.Choose l h = inr (omega arith)
farther most DisambiguateState.None (DisambiguateState.YearSuffix b) l h = inr (omega arith)
farther most (DisambiguateState.NameDisambiguation f) DisambiguateState.None l h = absurd (omega (arith, h))
farther most (DisambiguateState.NameDisambiguation f) (DisambiguateState.NameDisambiguation g) l h = by (more-or-same f.forms g.forms h)
  where
    by : (f.forms ≡ g.forms) ⊎ (sum_by extent f.forms < sum_by extent g.forms)
        → (DisambiguateState.NameDisambiguation f ≡ DisambiguateState.NameDisambiguation g) ⊎ (1 + sum_by extent f.forms < 1 + sum_by extent g.forms)
    by (inl e) = inl (λ i. DisambiguateState.NameDisambiguation (record { forms = e i }))
    by (inr e) = inr (omega arith)
farther most (DisambiguateState.NameDisambiguation f) DisambiguateState.Choose l h = inr (omega (arith, bounded f.forms, l))
farther most (DisambiguateState.NameDisambiguation f) (DisambiguateState.YearSuffix b) l h = inr (omega (arith, bounded f.forms, l))
farther most DisambiguateState.Choose DisambiguateState.None l h = absurd (omega (arith, h))
farther most DisambiguateState.Choose (DisambiguateState.NameDisambiguation g) l h = absurd (omega (arith, h))
farther most DisambiguateState.Choose DisambiguateState.Choose l h = inl refl
farther most DisambiguateState.Choose (DisambiguateState.YearSuffix b) l h = inr (omega arith)
farther most (DisambiguateState.YearSuffix a) DisambiguateState.None l h = absurd (omega (arith, h))
farther most (DisambiguateState.YearSuffix a) (DisambiguateState.NameDisambiguation g) l h = absurd (omega (arith, h))
farther most (DisambiguateState.YearSuffix a) DisambiguateState.Choose l h = absurd (omega (arith, h))
farther most (DisambiguateState.YearSuffix a) (DisambiguateState.YearSuffix b) l h = inl (ap DisambiguateState.YearSuffix h)
