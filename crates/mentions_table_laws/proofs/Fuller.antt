-- States grow.
use Rattle.std.proofs.Common.{◌≡◌, ℕ, ◌+◌, ◌<◌, ◌≤◌, Bool, true, false, cond, ◌&&◌, IfSome, Some, None, Option, List, [], ◌∷◌, map, max, refl, sym, subst, ◌∙◌, arith, true≢false}
use Rattle.std.specs.Prelude.{All, Any}
use Rattle.std.specs.List.{enumerate_from, zip}
use Rattle.std.proofs.lemmas.List.Elements.{All-map}
use Rattle.value_sources.specs.Forms.{Forms}
use Rattle.value_sources.specs.Ordered.{extent}
use Rattle.value_sources.specs.declared.names.DisambiguatedNameForm.{DisambiguatedNameForm}
use Rattle.value_sources.specs.declared.names.NameDisambiguationProperties.{NameDisambiguationProperties}
use Rattle.mentions_names.specs.Forms.{base, greater, raised, raised_form, raised_forms, same_form, same_forms}
use Rattle.mentions_names.specs.Persons.{own_forms}
use Rattle.mentions_names.specs.Telling.{names_needed}
use Rattle.mentions_names.specs.Reaches.{reach}
use Rattle.mentions_names.specs.Told.{asking, least_form}
use Rattle.mentions_groups.specs.declared.state.MentionState.{MentionState}
use Rattle.mentions_groups.specs.declared.written.Written.{Written}
use Rattle.mentions_tables.specs.Asked.{untold}
use Rattle.mentions_tables.specs.Tables.{named, second_table, with_names}
use Rattle.mentions_tables.specs.declared.subject.Subject.{Subject}
use Rattle.mentions_table_laws.specs.Growing.{AreFuller, FormsRise, HasFullerNames, NamesRise, StateRises, StatesGrow}
use Rattle.std.proofs.lemmas.Simd.{map-map}
use Rattle.list_lemmas.proofs.Members.{zip-map}
use Rattle.mentions_table_laws.proofs.Listing.{all-every, all-of-maps, any-here, any-later}
use Rattle.mentions_table_laws.proofs.Settled.{settled}

pub greater-extent : (f g : DisambiguatedNameForm) → extent (greater f g) ≡ max (extent f) (extent g)
greater-extent DisambiguatedNameForm.Count DisambiguatedNameForm.Count = refl
greater-extent DisambiguatedNameForm.Count DisambiguatedNameForm.Short = refl
greater-extent DisambiguatedNameForm.Count DisambiguatedNameForm.LongInitialized = refl
greater-extent DisambiguatedNameForm.Count DisambiguatedNameForm.LongFull = refl
greater-extent DisambiguatedNameForm.Short DisambiguatedNameForm.Count = refl
greater-extent DisambiguatedNameForm.Short DisambiguatedNameForm.Short = refl
greater-extent DisambiguatedNameForm.Short DisambiguatedNameForm.LongInitialized = refl
greater-extent DisambiguatedNameForm.Short DisambiguatedNameForm.LongFull = refl
greater-extent DisambiguatedNameForm.LongInitialized DisambiguatedNameForm.Count = refl
greater-extent DisambiguatedNameForm.LongInitialized DisambiguatedNameForm.Short = refl
greater-extent DisambiguatedNameForm.LongInitialized DisambiguatedNameForm.LongInitialized = refl
greater-extent DisambiguatedNameForm.LongInitialized DisambiguatedNameForm.LongFull = refl
greater-extent DisambiguatedNameForm.LongFull DisambiguatedNameForm.Count = refl
greater-extent DisambiguatedNameForm.LongFull DisambiguatedNameForm.Short = refl
greater-extent DisambiguatedNameForm.LongFull DisambiguatedNameForm.LongInitialized = refl
greater-extent DisambiguatedNameForm.LongFull DisambiguatedNameForm.LongFull = refl

-- a raised form is nowhere below
raised-above : (b : DisambiguatedNameForm) (count i : ℕ) (least own : DisambiguatedNameForm) → extent own ≤ extent (raised_form b count i least own)
raised-above b count i least DisambiguatedNameForm.Count = omega arith
raised-above b count i least DisambiguatedNameForm.Short = let e = greater-extent least DisambiguatedNameForm.Short in omega (arith, e)
raised-above b count i least DisambiguatedNameForm.LongInitialized = let e = greater-extent least DisambiguatedNameForm.LongInitialized in omega (arith, e)
raised-above b count i least DisambiguatedNameForm.LongFull = let e = greater-extent least DisambiguatedNameForm.LongFull in omega (arith, e)

raised-rise : (b : DisambiguatedNameForm) (count : ℕ) (least : ℕ → DisambiguatedNameForm) (n : ℕ) (own : Forms)
    → FormsRise own (map (λ p. raised_form b count p.0 (least p.0) p.1) (enumerate_from n own))
raised-rise b count least n [] = tt
raised-rise b count least n (o ∷ os) = (raised-above b count n (least n) o, raised-rise b count least (n + 1) os)

above-others : (own form : DisambiguatedNameForm) → extent own ≤ extent form → same_form form own ≡ false → extent own < extent form
above-others DisambiguatedNameForm.Count DisambiguatedNameForm.Count h e = absurd (true≢false e)
above-others DisambiguatedNameForm.Short DisambiguatedNameForm.Short h e = absurd (true≢false e)
above-others DisambiguatedNameForm.LongInitialized DisambiguatedNameForm.LongInitialized h e = absurd (true≢false e)
above-others DisambiguatedNameForm.LongFull DisambiguatedNameForm.LongFull h e = absurd (true≢false e)
above-others _ _ h e = omega arith

abbrev Above : DisambiguatedNameForm × DisambiguatedNameForm → Type 0
Above p = extent p.0 < extent p.1

-- forms that rise and aren't the same are above somewhere
somewhere : (own forms : Forms) → FormsRise own forms → same_forms forms own ≡ false → Any Above (zip own forms)
somewhere [] [] h e = absurd (true≢false e)
somewhere [] (f ∷ fs) h e = absurd h
somewhere (o ∷ os) [] h e = absurd h
somewhere (o ∷ os) (f ∷ fs) h e = by (same_form f o) refl e (somewhere os fs h.1)
  where
    by : (b : Bool) → same_form f o ≡ b → b && same_forms fs os ≡ false → (same_forms fs os ≡ false → Any Above (zip os fs)) → Any Above ((o, f) ∷ zip os fs)
    by true s e later = any-later Above (o, f) (zip os fs) (later e)
    by false s e later = any-here Above (o, f) (zip os fs) (above-others o f h.0 s)

abbrev pub some_names : Forms → Option NameDisambiguationProperties
some_names forms = Some (record { forms = forms })

fuller : (own : Forms) (count : ℕ) (least : ℕ → DisambiguatedNameForm) → IfSome (raised own count least) (λ n. AreFuller own n.forms)
fuller own count least = by (same_forms (raised_forms own count least) own) refl
  where
    rise : FormsRise own (raised_forms own count least)
    rise = raised-rise (base own) count least 0 own

    by : (b : Bool) → same_forms (raised_forms own count least) own ≡ b → IfSome (cond b None (some_names (raised_forms own count least))) (λ n. AreFuller own n.forms)
    by true e = tt
    by false e = record { nowhere_below = rise; somewhere_above = somewhere own (raised_forms own count least) rise e }

forms-stay : (forms : Forms) → FormsRise forms forms
forms-stay [] = tt
forms-stay (f ∷ fs) = (omega arith, forms-stay fs)

names-stay : (names : Option NameDisambiguationProperties) → NamesRise names names
names-stay None = tt
names-stay (Some names) = forms-stay names.forms

module _ {M : Type 0} (write : M → MentionState → Written) (subjects : List (Subject M)) where
  pub states-grow : StatesGrow write subjects (second_table write subjects) (map (settled write subjects) subjects)
  states-grow = record {
    first_step = all-of-maps StateRises (λ s. untold) (with_names write subjects)
        (λ s. record { names = tt; choice = λ e. absurd (true≢false (sym e)) }) subjects;
    second_step = all-of-maps StateRises (with_names write subjects) (settled write subjects)
        (λ s. record { names = names-stay (with_names write subjects s).names; choice = λ e. absurd (true≢false (sym e)) }) subjects;
    choices_stay = map-map (λ (s : MentionState). s.chosen) (with_names write subjects) subjects ∙ sym (map-map (λ (s : MentionState). s.chosen) (λ s. untold) subjects);
    names_stay = map-map (λ (s : MentionState). s.names) (settled write subjects) subjects ∙ sym (map-map (λ (s : MentionState). s.names) (with_names write subjects) subjects);
    fuller = subst (All (HasFullerNames write subjects)) (sym (zip-map (settled write subjects) subjects))
        (All-map (HasFullerNames write subjects) (λ s. (s, settled write subjects s)) subjects
        (all-every (λ s. HasFullerNames write subjects (s, settled write subjects s)) each subjects));
  }
    where
      each : (s : Subject M) → HasFullerNames write subjects (s, settled write subjects s)
      each s =
          let ms = map (named write subjects) subjects in
          fuller (own_forms (write s.mention untold).names) (names_needed (asking ms) (reach ms (named write subjects s))) (least_form ms (named write subjects s))
