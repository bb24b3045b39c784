-- Marks by names have as many forms as they start from.
use Rattle.std.proofs.Common.{◌≡◌, ℕ, zero, suc, ◌≤◌, Bool, true, false, cond, ◌&&◌, Option, Some, None, List, [], ◌∷◌, length, refl, ap, sym, subst, ◌∙◌, arith}
use Rattle.std.specs.Prelude.{⊤, All, fold, option_map, slice_get, unwrap_or}
use Rattle.std.specs.List.{flat_map}
use Rattle.std.proofs.Math.ListN.{set}
use Rattle.std.proofs.lemmas.List.{length-set}
use Rattle.std.proofs.lemmas.List.Elements.{All-nil}
use Rattle.std.proofs.lemmas.Option.{same_Some}
use Rattle.rounds_ambiguity.specs.Members.{Member, member_at, state_of}
use Rattle.value_sources.specs.Forms.{Forms, add_name, form_written}
use Rattle.value_sources.specs.declared.entry.Person.{Person}
use Rattle.value_sources.specs.declared.names.DisambiguatedNameForm.{DisambiguatedNameForm}
use Rattle.value_sources.specs.declared.names.NameDisambiguationProperties.{NameDisambiguationProperties}
use Rattle.driver_lookup.specs.declared.state.DisambiguateState.{DisambiguateState}
use Rattle.rounds_names.specs.NamedCites.{first_adds_names, greatest_step, named_cite, named_cite_at, named_cites, start}
use Rattle.rounds_names.specs.NameMarks.{after_step, is_by_cite, mark, marks_after, name_marks}
use Rattle.rounds_names.specs.Raising.{raise, raised, raised_at}
use Rattle.rounds_names.specs.Steps.{is_own_step, others, step, steps}
use Rattle.rounds_names.specs.declared.named_cite.NamedCite.{NamedCite}
use Rattle.driver_passes.specs.Places.{cite_at}
use Rattle.driver_passes.specs.Renders.{CiteRender, ItemRender, Place}
use Rattle.driver_passes.specs.Request.{Request}
use Rattle.rounds_runs.specs.RoundMarks.{Mark}
use Rattle.rounds_runs.specs.Tables.{form_count}
use Rattle.rounds_runs.proofs.Kept.{all-kept}
use Rattle.rounds_runs.proofs.Ranks.{IsShort}

changed-long : (f : DisambiguatedNameForm → DisambiguatedNameForm) (xs : Forms) (i : ℕ) → length (unwrap_or (option_map (λ form. set xs i (f form)) (slice_get xs i)) xs) ≡ length xs
changed-long f xs i = by (slice_get xs i)
  where
    by : (o : Option DisambiguatedNameForm) → length (unwrap_or (option_map (λ form. set xs i (f form)) o) xs) ≡ length xs
    by None = refl
    by (Some x) = length-set xs i (f x)

added-long : (i : ℕ) (xs : Forms) → length (add_name i xs) ≡ length xs
added-long zero xs = refl
added-long (suc i) xs = changed-long form_written xs i

module _ (group : List NamedCite) (x : NamedCite) (own : Option ℕ) where
  raise-long : (i : ℕ) (xs : Forms) → length (raise group x i xs) ≡ length xs
  raise-long zero xs = refl
  raise-long (suc place) xs = by (slice_get x.persons place)
    where
      qs : List Person
      qs = flat_map (λ y. y.persons) (others group x)

      by : (o : Option Person) → length (raised_at place o qs xs) ≡ length xs
      by None = refl
      by (Some p) = changed-long (raised p qs) xs place

  step-long : (i : ℕ) (xs : Forms) → length (after_step group x own xs i) ≡ length xs
  step-long i xs = by (is_by_cite x.rule && is_own_step i own)
    where
      by : (b : Bool) → length (add_name i (cond b (raise group x i xs) xs)) ≡ length xs
      by true = added-long i (raise group x i xs) ∙ raise-long i xs
      by false = added-long i xs

  steps-long : (is : List ℕ) (xs : Forms) → length (fold (after_step group x own) xs is) ≡ length xs
  steps-long [] xs = refl
  steps-long (i ∷ is) xs = steps-long is (after_step group x own xs i) ∙ step-long i xs

start-short : (f : ℕ) (s : DisambiguateState) (first : Option NameDisambiguationProperties) (from : NameDisambiguationProperties) → start s first ≡ Some from → IsShort f s → form_count first ≤ f
    → length from.forms ≤ f
start-short f DisambiguateState.None None from e short few = cc
start-short f DisambiguateState.None (Some names) from e short few =
    let same : length names.forms ≡ length from.forms = ap (λ (n : NameDisambiguationProperties). length n.forms) (same_Some names from e) in
    omega (arith, few, same)
start-short f (DisambiguateState.NameDisambiguation names) first from e short few =
    let same : length names.forms ≡ length from.forms = ap (λ (n : NameDisambiguationProperties). length n.forms) (same_Some names from e) in
    omega (arith, short, same)
start-short f DisambiguateState.Choose first from e short few = cc
start-short f (DisambiguateState.YearSuffix suffix) first from e short few = cc

module _ {E P : Type 0} (f : ℕ) (cites : List (CiteRender E P)) where
  -- no cite has more forms
  abbrev pub HasFew : Type 0
  HasFew = (p : Place) (c : Member E P) → member_at cites p ≡ Some c → IsShort f (state_of c) × (form_count c.item.first_name ≤ f)

  -- nor has the mark of one
  abbrev pub IsFew : Mark → Type 0
  IsFew m = (c : Member E P) → member_at cites m.0 ≡ Some c → IsShort f m.1

  -- it starts from what its cite has
  abbrev IsOwn : NamedCite → Type 0
  IsOwn x = (c : Member E P) → member_at cites x.place ≡ Some c → x.start ≡ start (state_of c) c.item.first_name

  own-found : (p : Place) (x : NamedCite) → named_cite_at cites p ≡ Some x → IsOwn x
  own-found p x e = by (cite_at cites p) refl e
    where
      by : (o : Option (Request E P × ItemRender E P)) → cite_at cites p ≡ o → option_map (λ cite. named_cite p cite.0 cite.1) o ≡ Some x → IsOwn x
      by None at h = cc
      by (Some y) at h = subst IsOwn (same_Some (named_cite p y.0 y.1) x h) here
        where
          here : IsOwn (named_cite p y.0 y.1)
          here c found =
              let same : record { place = p; item = y.1; style = y.0.style } ≡ c =
              same_Some _ c (sym (ap (option_map (λ cite. record { place = p; item = cite.1; style = cite.0.style })) at) ∙ found) in
              ap (λ (m : Member E P). start (state_of m) m.item.first_name) same

  module _ (few : HasFew) where
    names-after : (group : List NamedCite) (is : List ℕ) (own : NamedCite → Option ℕ) → All IsOwn group → All IsFew (marks_after group is own)
    names-after group [] own h = All-nil IsFew
    names-after group (i ∷ is) own h = all-kept IsOwn IsFew (λ x. mark group (i ∷ is) x (own x)) at group h
      where
        at : (x : NamedCite) (m : Mark) → IsOwn x → mark group (i ∷ is) x (own x) ≡ Some m → IsFew m
        at x m o e = by x.start refl e
          where
            forms_from : NameDisambiguationProperties → Forms
            forms_from from = fold (after_step group x (own x)) from.forms (i ∷ is)

            by : (q : Option NameDisambiguationProperties) → x.start ≡ q
                → option_map (λ start. (x.place, DisambiguateState.NameDisambiguation (record { forms = forms_from start }))) q ≡ Some m → IsFew m
            by None s g = cc
            by (Some from) s g = subst IsFew (same_Some (x.place, DisambiguateState.NameDisambiguation (record { forms = forms_from from })) m g) here
              where
                here : IsFew (x.place, DisambiguateState.NameDisambiguation (record { forms = forms_from from }))
                here c found =
                    let known = few x.place c found in
                    let long = steps-long group x (own x) (i ∷ is) from.forms in
                    let short = start-short f (state_of c) c.item.first_name from (sym (o c found) ∙ s) known.0 known.1 in
                    omega (arith, long, short)

    pub names-few : (group : List Place) → All IsFew (name_marks cites group)
    unfolding name_marks
    names-few group =
        let found = named_cites cites group in
        let greatest = greatest_step (first_adds_names cites) found in
        names-after found (steps found greatest) (step found greatest)
        (all-kept (λ p. ⊤) IsOwn (named_cite_at cites) (λ p x u e. own-found p x e) group (λ k d h. tt))
