-- A form raised among persons, from those who are held for their names.
use Rattle.std.proofs.Common.{◌≡◌, Bool, true, false, not, cond, ◌&&◌, ◌||◌, List, [], ◌∷◌, ◌⊎◌, inl, inr, ap, filter, refl, sym, ◌∙◌}
use Rattle.std.specs.Prelude.{Vec, bytes_eq}
use Rattle.std.specs.BTreeMap.{BTreeMap}
use Rattle.std.specs.List.{flat_map, list_any}
use Rattle.std.specs.declared.alloc.Global.{Global}
use Rattle.std.proofs.lemmas.List.Folds.{list_any-append}
use Rattle.value_sources.specs.declared.entry.Person.{Person}
use Rattle.value_sources.specs.declared.names.DisambiguatedNameForm.{DisambiguatedNameForm}
use Rattle.driver_passes.specs.Renders.{Place}
use Rattle.rounds_names.specs.ByName.{AreByName, by_family, by_initials, fuller_by, holders, is_other_held, is_other_named, names_of, same_name, shown_by_all, shown_by}
use Rattle.rounds_names.specs.Persons.{same_person}
use Rattle.rounds_names.specs.Raising.{fuller, is_namesake, raised, same_initials}
use Rattle.rounds_names.specs.Steps.{others, same_place}
use Rattle.rounds_names.specs.declared.by_name.Holder.{Holder}
use Rattle.rounds_names.specs.declared.by_name.SharedName.{SharedName}
use Rattle.rounds_names.specs.declared.named_cite.NamedCite.{NamedCite}

-- what raises a form, as tests of the persons
module _ (p : Person) where
  abbrev is_some_one : List Person → Bool
  is_some_one [] = false
  is_some_one (v ∷ vs) = true

  fuller-by : (vs : List Person) (form : DisambiguatedNameForm) → fuller p vs form ≡ fuller_by (is_some_one vs) (list_any (same_initials p) vs) form
  fuller-by [] form = refl
  fuller-by (v ∷ vs) form = refl

  some-filtered : (n : Person → Bool) (qs : List Person) → is_some_one (filter n qs) ≡ list_any n qs
  some-filtered n [] = refl
  some-filtered n (q ∷ qs) = by (n q) (some-filtered n qs)
    where
      by : (b : Bool) → is_some_one (filter n qs) ≡ list_any n qs → is_some_one (cond b (q ∷ filter n qs) (filter n qs)) ≡ (b || list_any n qs)
      by true h = refl
      by false h = h

  any-filtered : (n s : Person → Bool) (qs : List Person) → list_any s (filter n qs) ≡ list_any (λ q. n q && s q) qs
  any-filtered n s [] = refl
  any-filtered n s (q ∷ qs) = by (n q) (any-filtered n s qs)
    where
      by : (b : Bool) → list_any s (filter n qs) ≡ list_any (λ r. n r && s r) qs
          → list_any s (cond b (q ∷ filter n qs) (filter n qs)) ≡ ((b && s q) || list_any (λ r. n r && s r) qs)
      by true h = ap (λ b. s q || b) h
      by false h = h

  fuller-tested : (qs : List Person) (form : DisambiguatedNameForm)
      → fuller p (filter (is_namesake p) qs) form ≡ fuller_by (list_any (is_namesake p) qs) (list_any (λ q. is_namesake p q && same_initials p q) qs) form
  fuller-tested qs form =
      fuller-by (filter (is_namesake p) qs) form
      ∙ (λ i. fuller_by (some-filtered (is_namesake p) qs i) (any-filtered (is_namesake p) (same_initials p) qs i) form)

-- of two names of a person one passes where the person does
two-names : (m n d b rest : Bool) → ((m && (d && not b)) || ((n && (d && not b)) || rest)) ≡ (cond b false ((m && d) || (n && d)) || rest)
two-names true true true true rest = refl
two-names true true true false rest = refl
two-names true true false true rest = refl
two-names true true false false rest = refl
two-names true false true true rest = refl
two-names true false true false rest = refl
two-names true false false true rest = refl
two-names true false false false rest = refl
two-names false true true true rest = refl
two-names false true true false rest = refl
two-names false true false true rest = refl
two-names false true false false rest = refl
two-names false false d true rest = refl
two-names false false d false rest = refl

-- by a name, those persons are other ones that pass the test
module _ (name : SharedName) (p : Person) (test : Person → Bool) (x : NamedCite)
    (passes : (q : Person) → ((same_name name (by_family q) && not (same_person p q)) || (same_name name (by_initials q) && not (same_person p q))) ≡ test q) where
  shown-one : (place : Place) (ps : List Person) (b : Bool) → same_place x.place place ≡ b
      → is_other_named name p x.place (flat_map (names_of place) ps) ≡ cond b false (list_any test ps)
  shown-one place [] true e = refl
  shown-one place [] false e = refl
  shown-one place (q ∷ ps) b e =
      ap (λ c. (same_name name (by_family q) && (not (same_person p q) && not c))
      || ((same_name name (by_initials q) && (not (same_person p q) && not c)) || is_other_named name p x.place (flat_map (names_of place) ps))) e
      ∙ two-names (same_name name (by_family q)) (same_name name (by_initials q)) (not (same_person p q)) b (is_other_named name p x.place (flat_map (names_of place) ps))
      ∙ (λ i. cond b false (passes q i) || shown-one place ps b e i)
      ∙ out b
    where
      out : (b : Bool) → (cond b false (test q) || cond b false (list_any test ps)) ≡ cond b false (test q || list_any test ps)
      out true = refl
      out false = refl

  shown-theirs : (group : List NamedCite) → is_other_named name p x.place (shown_by_all group) ≡ list_any test (flat_map (λ y. y.persons) (others group x))
  shown-theirs [] = refl
  shown-theirs (y ∷ ys) = list_any-append _ (shown_by y) (shown_by_all ys) ∙ by (same_place x.place y.place) refl (shown-theirs ys)
    where
      by : (b : Bool) → same_place x.place y.place ≡ b → is_other_named name p x.place (shown_by_all ys) ≡ list_any test (flat_map (λ z. z.persons) (others ys x))
          → (is_other_named name p x.place (shown_by y) || is_other_named name p x.place (shown_by_all ys))
          ≡ list_any test (flat_map (λ z. z.persons) (cond (not b) (y ∷ others ys x) (others ys x)))
      by true e h = ap (λ c. c || is_other_named name p x.place (shown_by_all ys)) (shown-one y.place y.persons true e) ∙ h
      by false e h =
          (λ i. shown-one y.place y.persons false e i || h i) ∙ sym (list_any-append test y.persons (flat_map (λ z. z.persons) (others ys x)))

module _ (p : Person) where
  by-family : (q : Person) → ((same_name (by_family p) (by_family q) && not (same_person p q)) || (same_name (by_family p) (by_initials q) && not (same_person p q))) ≡ is_namesake p q
  by-family q = by (bytes_eq p.name q.name) (not (same_person p q))
    where
      by : (n d : Bool) → (((n && true) && d) || ((n && false) && d)) ≡ (n && d)
      by true true = refl
      by true false = refl
      by false d = refl

  with-initials : (q : Person)
      → ((same_name (by_initials p) (by_family q) && not (same_person p q)) || (same_name (by_initials p) (by_initials q) && not (same_person p q))) ≡ (is_namesake p q && same_initials p q)
  with-initials q = by (bytes_eq p.name q.name) (same_initials p q) (not (same_person p q))
    where
      by : (n s d : Bool) → (((n && false) && d) || ((n && s) && d)) ≡ ((n && d) && s)
      by true true true = refl
      by true true false = refl
      by true false true = refl
      by true false false = refl
      by false s d = refl

  -- the form among the persons of others, from those who are held
  fuller-by-name : (x : NamedCite) (group : List NamedCite) (by_name : BTreeMap SharedName (Vec Holder Global)) (form : DisambiguatedNameForm)
      → AreByName by_name (shown_by_all group)
      → fuller_by (is_other_held p x.place (holders by_name (by_family p))) (is_other_held p x.place (holders by_name (by_initials p))) form
      ≡ fuller p (filter (is_namesake p) (flat_map (λ y. y.persons) (others group x))) form
  fuller-by-name x group by_name form h =
      let family = h.tells (by_family p) p x.place ∙ shown-theirs (by_family p) p (is_namesake p) x by-family group in
      let initials = h.tells (by_initials p) p x.place ∙ shown-theirs (by_initials p) p (λ q. is_namesake p q && same_initials p q) x with-initials group in
      (λ i. fuller_by (family i) (initials i) form) ∙ sym (fuller-tested p (flat_map (λ y. y.persons) (others group x)) form)

  -- the form of a person that may be raised
  pub raised-by-name : (x : NamedCite) (group : List NamedCite) (by_name : BTreeMap SharedName (Vec Holder Global)) (form : DisambiguatedNameForm)
      → (form ≡ DisambiguatedNameForm.Short) ⊎ (form ≡ DisambiguatedNameForm.LongInitialized) → AreByName by_name (shown_by_all group)
      → fuller_by (is_other_held p x.place (holders by_name (by_family p))) (is_other_held p x.place (holders by_name (by_initials p))) form
      ≡ raised p (flat_map (λ y. y.persons) (others group x)) form
  raised-by-name x group by_name form may h = fuller-by-name x group by_name form h ∙ by may
    where
      theirs : List Person
      theirs = flat_map (λ y. y.persons) (others group x)

      by : (form ≡ DisambiguatedNameForm.Short) ⊎ (form ≡ DisambiguatedNameForm.LongInitialized) → fuller p (filter (is_namesake p) theirs) form ≡ raised p theirs form
      by (inl e) = ap (fuller p (filter (is_namesake p) theirs)) e ∙ sym (ap (raised p theirs) e)
      by (inr e) = ap (fuller p (filter (is_namesake p) theirs)) e ∙ sym (ap (raised p theirs) e)
