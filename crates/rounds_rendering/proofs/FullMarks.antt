-- The marks of a round of mode full, group by group.
use Rattle.std.proofs.Common.{◌≡◌, ℕ, ◌+◌, ◌<◌, Bool, true, false, cond, ◌||◌, List, [], ◌∷◌, ◌++◌, length, map, take, get_or, ap, sym, subst, ◌∙◌, append-nil}
use Rattle.std.specs.Prelude.{All, fold}
use Rattle.std.specs.Cmp.{IsEquivalence}
use Rattle.std.specs.List.{list_any}
use Rattle.std.proofs.lemmas.List.{map-append, take_more}
use Rattle.std.proofs.lemmas.List.Folds.{list_any-append}
use Rattle.std.proofs.lemmas.List.Sums.{fold_push}
use Rattle.driver_passes.specs.Renders.{CiteRender, Place}
use Rattle.rounds_rendering.specs.Gathered.{AreMarked, counting_ways, entry_place, is_marked, is_of, with_counting}
use Rattle.rounds_runs.specs.RoundMarks.{Mark, waits}
use Rattle.rounds_rendering.proofs.Placed.{row, waits-alike}

module _ {E P : Type 0} (eq : E → E → Bool) (dated : Bool) (rs : List (CiteRender E P)) (es : List E) (places : List (List ℕ)) where
  -- the marks of these groups, and whether an entry has one, by its place
  pub record MarkedSoFar (taken : List (List Place)) (marks : List Mark) (flags : List Bool) : Type 0 where
    pub gathered : marks ≡ fold (with_counting eq dated rs) [] taken
    pub long : length flags ≡ length es
    pub told : (p : ℕ) → p < length es → get_or flags p false ≡ list_any (λ m. is_of places p m.0) marks

  module _ (laws : IsEquivalence eq) (placed : places ≡ map (row eq es places rs) rs) (listed : All (λ ps. All (λ p. p < length es) ps) places)
      (taken : List (List Place)) (marks : List Mark) (flags : List Bool) (so : MarkedSoFar taken marks flags) (g : List Place) where
    abbrev waiting : Bool
    waiting = list_any (λ at. is_marked flags (entry_place places at)) g

    alike : waiting ≡ waits eq rs marks g
    alike = waits-alike eq es places rs placed listed laws marks flags so.told g

    more : fold (with_counting eq dated rs) [] (taken ++ g ∷ []) ≡ with_counting eq dated rs marks g
    more = fold_push (with_counting eq dated rs) [] taken g ∙ ap (λ ms. with_counting eq dated rs ms g) (sym so.gathered)

    -- a group that waits
    pub group-waits : waiting ≡ true → MarkedSoFar (taken ++ g ∷ []) marks flags
    group-waits h = record {
      gathered = sym (more ∙ ap (λ b. marks ++ cond b [] (counting_ways eq dated rs g)) (sym alike ∙ h) ∙ append-nil marks);
      long = so.long;
      told = so.told;
    }

    -- and one that is marked
    pub group-marked : (own : List Mark) → own ≡ counting_ways eq dated rs g → waiting ≡ false → (now : List Mark) (noted : List Bool) → now ≡ marks ++ own
        → length noted ≡ length flags → AreMarked places own flags noted → MarkedSoFar (taken ++ g ∷ []) now noted
    group-marked own is h now noted push same marked = record {
      gathered = push ∙ sym (more ∙ ap (λ b. marks ++ cond b [] (counting_ways eq dated rs g)) (sym alike ∙ h) ∙ ap (λ ms. marks ++ ms) (sym is));
      long = same ∙ so.long;
      told = λ p inside.
          marked p (subst (λ n. p < n) (sym so.long) inside)
          ∙ ap (λ b. b || list_any (λ m. is_of places p m.0) own) (so.told p inside)
          ∙ sym (ap (list_any (λ m. is_of places p m.0)) push ∙ list_any-append (λ m. is_of places p m.0) marks own);
    }

-- one more of the groups of a list
pub one-more-group : {A : Type 0} (view : A → List Place) (xs : List A) (k : ℕ) (x : A) → k < length xs → x ≡ get_or xs k x → map view (take (k + 1) xs) ≡ map view (take k xs) ++ view x ∷ []
one-more-group view xs k x within here =
    ap (map view) (take_more xs k x within ∙ ap (λ y. take k xs ++ y ∷ []) (sym here)) ∙ map-append view (take k xs) (x ∷ [])
