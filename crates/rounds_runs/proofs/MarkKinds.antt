-- By each way a group gets marks of one kind.
use Rattle.std.proofs.Common.{◌≡◌, ℕ, Bool, Option, Some, None, List, [], ◌∷◌, map, refl, subst}
use Rattle.std.specs.Prelude.{⊤, All, fold, option_map}
use Rattle.std.proofs.lemmas.List.Elements.{All-map, All-nil}
use Rattle.std.proofs.lemmas.Option.{same_Some}
use Rattle.rounds_ambiguity.specs.ChooseMarks.{chosen, may_be_chosen}
use Rattle.rounds_ambiguity.specs.Members.{members}
use Rattle.value_sources.specs.declared.names.NameDisambiguationProperties.{NameDisambiguationProperties}
use Rattle.driver_lookup.specs.States.{kind_of}
use Rattle.driver_lookup.specs.declared.state.DisambiguateState.TheVariants.{Choose, NameDisambiguation}
use Rattle.rounds_names.specs.NamedCites.{first_adds_names, greatest_step, named_cites}
use Rattle.rounds_names.specs.NameMarks.{after_step, mark, marks_after, name_marks}
use Rattle.rounds_names.specs.Steps.{step, steps}
use Rattle.rounds_names.specs.declared.named_cite.NamedCite.{NamedCite}
use Rattle.driver_passes.specs.Renders.{CiteRender, Place}
use Rattle.rounds_runs.specs.RoundMarks.{Mark, by_choice}
use Rattle.rounds_runs.proofs.Kept.{all-chosen, all-kept}

module _ {E P : Type 0} (cites : List (CiteRender E P)) where
  abbrev pub Named : Mark → Type 0
  Named m = kind_of m.1 ≡ 1

  kinds-after : (group : List NamedCite) (is : List ℕ) (own : NamedCite → Option ℕ) → All Named (marks_after group is own)
  kinds-after group [] own = All-nil Named
  kinds-after group (i ∷ is) own = all-kept (λ x. ⊤) Named (λ x. mark group (i ∷ is) x (own x)) at group (λ k d w. tt)
    where
      at : (x : NamedCite) (m : Mark) → ⊤ → mark group (i ∷ is) x (own x) ≡ Some m → Named m
      at x m u e = by x.start e
        where
          of_start : NameDisambiguationProperties → Mark
          of_start from = (x.place, NameDisambiguation (record { forms = fold (after_step group x (own x)) from.forms (i ∷ is) }))

          by : (q : Option NameDisambiguationProperties) → option_map of_start q ≡ Some m → Named m
          by None g = cc
          by (Some from) g = subst Named (same_Some (of_start from) m g) refl

  pub names-named : (group : List Place) → All Named (name_marks cites group)
  unfolding name_marks
  names-named group =
      let found = named_cites cites group in
      let greatest = greatest_step (first_adds_names cites) found in
      kinds-after found (steps found greatest) (step found greatest)

  module _ (eq : E → E → Bool) where
    abbrev pub Chosen : Mark → Type 0
    Chosen m = m.1 ≡ Choose

    pub by-choice : (group : List Place) → All Chosen (by_choice eq cites group)
    by-choice group =
        let ms = members cites group in
        all-chosen Chosen (may_be_chosen ms) (map (λ m. (m.place, Choose)) (chosen eq ms)) [] (All-map Chosen (λ m. (m.place, Choose)) (chosen eq ms) (λ k d w. refl)) (All-nil Chosen)
