-- Marks gathered group by group are those of the round.
use Rattle.std.proofs.Common.{◌≡◌, Bool, List, [], ◌∷◌, ◌++◌, map, refl, sym, ◌∙◌, append-nil, append_assoc, ap, cond}
use Rattle.std.specs.Prelude.{fold}
use Rattle.rounds_ambiguity.specs.Ambiguity.{ambiguous_groups}
use Rattle.driver_passes.specs.Renders.{CiteRender, Place}
use Rattle.rounds_ambiguity.specs.SuffixMarks.{shows_dates}
use Rattle.value_sources.specs.Answers.{Answers}
use Rattle.rounds_names.specs.NameMarks.{name_marks}
use Rattle.rounds_rendering.specs.Gathered.{with_counting, with_group}
use Rattle.rounds_runs.specs.RoundMarks.{Mark, MarkedGroups, all_ways, by_choice, by_full, by_suffix, by_three, counting, has_any, marked_groups, marks_of, or_others, round_marks, waits}
use Rattle.rounds_runs.specs.declared.mode.RoundMode.{RoundMode}

module _ (n c s : List Place → List Mark) where
  abbrev with_one : List Mark → List Place → List Mark
  with_one marks group = or_others (or_others (marks ++ n group) (c group)) (s group)

  -- behind a mark only names count
  gathered-on : (m : Mark) (ms : List Mark) (groups : List (List Place)) → fold with_one (m ∷ ms) groups ≡ (m ∷ ms) ++ marks_of (map (λ h. (h, n h)) groups)
  gathered-on m ms [] = sym (append-nil (m ∷ ms))
  gathered-on m ms (g ∷ gs) = gathered-on m (ms ++ n g) gs ∙ append_assoc (m ∷ ms) (n g) (marks_of (map (λ h. (h, n h)) gs))

  -- a group with these marks before others
  abbrev in_front : List Place → List (List Place) → List Mark → MarkedGroups
  in_front g gs own = cond (has_any own) ((g, own) ∷ map (λ h. (h, n h)) gs) ((g, []) ∷ by_three n c s gs)

  stands : (g : List Place) (gs : List (List Place)) (x y z : List Mark) → fold with_one [] gs ≡ marks_of (by_three n c s gs)
      → fold with_one (or_others (or_others x y) z) gs ≡ marks_of (in_front g gs (or_others x (or_others y z)))
  stands g gs (m ∷ ms) y z more = gathered-on m ms gs
  stands g gs [] (m ∷ ms) z more = gathered-on m ms gs
  stands g gs [] [] (m ∷ ms) more = gathered-on m ms gs
  stands g gs [] [] [] more = more

  pub gathered : (groups : List (List Place)) → fold with_one [] groups ≡ marks_of (by_three n c s groups)
  gathered [] = refl
  gathered (g ∷ gs) = stands g gs (n g) (c g) (s g) (gathered gs)

  -- each group that doesn't wait is tried in all ways
  module _ (w : List Mark → List Place → Bool) where
    pub gathered-full : (marks : List Mark) (groups : List (List Place))
        → fold (λ ms g. ms ++ cond (w ms g) [] (all_ways n c s g)) marks groups ≡ marks ++ marks_of (by_full n c s w marks groups)
    gathered-full marks [] = sym (append-nil marks)
    gathered-full marks (g ∷ gs) =
        let own : List Mark = cond (w marks g) [] (all_ways n c s g) in
        gathered-full (marks ++ own) gs ∙ append_assoc marks own (marks_of (by_full n c s w (marks ++ own) gs))

module _ {E P : Type 0} (eq : E → E → Bool) (answers : E → Answers) (rs : List (CiteRender E P)) (dated : Bool) (groups : List (List Place)) (d : dated ≡ shows_dates answers rs)
    (f : groups ≡ ambiguous_groups eq rs) where
  round-of : (mode : RoundMode) → marks_of (marked_groups eq rs dated mode groups) ≡ round_marks mode eq answers rs
  unfolding round_marks
  round-of mode = ap (λ b. marks_of (marked_groups eq rs b mode groups)) d ∙ ap (λ gs. marks_of (marked_groups eq rs (shows_dates answers rs) mode gs)) f

  pub three-is : fold (with_group eq dated rs) [] groups ≡ round_marks RoundMode.Three eq answers rs
  three-is = gathered (name_marks rs) (by_choice eq rs) (by_suffix eq rs dated) groups ∙ round-of RoundMode.Three

  pub full-is : fold (with_counting eq dated rs) [] groups ≡ round_marks RoundMode.Full eq answers rs
  full-is =
      gathered-full (counting rs (name_marks rs)) (counting rs (by_choice eq rs)) (counting rs (by_suffix eq rs dated)) (waits eq rs) [] groups ∙ round-of RoundMode.Full
