-- The marks that tell the cites of an ambiguous group apart by their names.
use Rattle.std.specs.Prelude.{ℕ, Bool, true, false, ◌&&◌, List, [], ◌∷◌, Option, Some, fold, if◌then◌else◌, option_map}
use Rattle.std.specs.List.{filter_map}
use Rattle.value_sources.specs.Forms.{Forms, add_name}
use Rattle.value_styles.specs.declared.style.DisambiguationRule.{DisambiguationRule}
use Rattle.driver_lookup.specs.declared.state.DisambiguateState.{DisambiguateState}
use Rattle.driver_passes.specs.Renders.{CiteRender, Place}
use Rattle.rounds_names.specs.NamedCites.{first_adds_names, greatest_step, named_cites}
use Rattle.rounds_names.specs.Raising.{raise}
use Rattle.rounds_names.specs.Steps.{is_own_step, step, steps}
use Rattle.rounds_names.specs.declared.named_cite.NamedCite.{NamedCite}

-- given names are added cite by cite
abbrev pub is_by_cite : Option DisambiguationRule → Bool
is_by_cite (Some DisambiguationRule.ByCite) = true
is_by_cite _ = false

-- the forms of a member, whose own step this is, after a step of its group
abbrev pub after_step : List NamedCite → NamedCite → Option ℕ → Forms → ℕ → Forms
after_step group x own forms i =
    add_name i (if is_by_cite x.rule && is_own_step i own then raise group x i forms else forms)

-- the mark of a member that has forms to start from: those that it has after all steps of its group
abbrev pub mark : List NamedCite → List ℕ → NamedCite → Option ℕ
    → Option (Place × DisambiguateState)
mark group steps x own =
    option_map (λ start. (
      x.place,
      DisambiguateState.NameDisambiguation
          (record { forms = fold (after_step group x own) start.forms steps }),
    )) x.start

-- the marks of a group with these steps: none where there are no steps
abbrev pub marks_after : List NamedCite → List ℕ → (NamedCite → Option ℕ)
    → List (Place × DisambiguateState)
marks_after group [] step_of = []
marks_after group (i ∷ is) step_of = filter_map (λ x. mark group (i ∷ is) x (step_of x)) group

-- the marks of a group, in its order
unfoldable pub name_marks : {E P : Type 0} → List (CiteRender E P) → List Place
    → List (Place × DisambiguateState)
name_marks cites group =
    let found = named_cites cites group in
    let m = greatest_step (first_adds_names cites) found in
    marks_after found (steps found m) (step found m)
