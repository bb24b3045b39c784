-- Choose marks, from what is found in a group.
use Rattle.std.proofs.Common.{◌≡◌, Bool, true, not, cond, ◌&&◌, Option, Some, None, List, [], map, filter, ap, sym, ◌∙◌}
use Rattle.std.specs.Prelude.{find, option_map}
use Rattle.driver_lookup.specs.declared.state.DisambiguateState.{DisambiguateState}
use Rattle.driver_lookup.specs.declared.state.DisambiguateState.TheVariants.{Choose}
use Rattle.driver_passes.specs.Renders.{Place}
use Rattle.rounds_ambiguity.specs.ChooseMarks.{asks, choose_marks, chosen, may_be_chosen}
use Rattle.rounds_ambiguity.specs.Members.{Member, entry_of}

module _ {E P : Type 0} (eq : E → E → Bool) (cites : List (Member E P)) where
  abbrev others : E → List (Member E P)
  others e = filter (λ m. asks m && not (eq e (entry_of m))) cites

  others-chosen : (e : E) → Some e ≡ option_map entry_of (find asks cites) → others e ≡ chosen eq cites
  others-chosen e first = by (find asks cites) first
    where
      by : (o : Option (Member E P)) → Some e ≡ option_map entry_of o → others e ≡ elim o [ None ↦ [] | Some m ↦ others (entry_of m) ]
      by None h = cc
      by (Some m) h =
          let same : e ≡ entry_of m = cc in
          ap others same

  pub marks-chosen : (may : Bool) (e : E) (marks : List (Place × DisambiguateState)) → may ≡ may_be_chosen cites → may ≡ true → Some e ≡ option_map entry_of (find asks cites)
      → marks ≡ map (λ m. (m.place, Choose)) (others e) → marks ≡ choose_marks eq cites
  marks-chosen may e marks is holds first made =
      made ∙ ap (map (λ m. (m.place, Choose))) (others-chosen e first) ∙ ap (λ b. cond b (map (λ m. (m.place, Choose)) (chosen eq cites)) []) (sym holds ∙ is)
