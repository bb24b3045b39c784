-- States of no mark, and rounds that mark nothing, which the laws of the rounds refuse.
use Rattle.std.proofs.Common.{◌≡◌, ◌⊎◌, inl, inr, zero, suc, ◌-◌, List, [], ◌∷◌, None, Some, true, length, refl, ap, sym, subst, ◌∙◌, true≢false, arith}
use Rattle.std.specs.Prelude.{Any, Contains, filter, flat_map, slice_index_or}
use Rattle.std.proofs.lemmas.List.Elements.{All-from_recursion}
use Rattle.rounds_ambiguity.specs.Ambiguity.{ambiguous_groups}
use Rattle.driver_lookup.specs.declared.state.DisambiguateState.TheVariants.{Choose, YearSuffix}
use Rattle.rounds_names.specs.NameMarks.{name_marks}
use Rattle.rounds_names.specs.Steps.{step, steps}
use Rattle.driver_passes.specs.Renders.{Place}
use Rattle.rounds_runs.specs.FirstRenders.{AreBegun}
use Rattle.rounds_runs.specs.RoundMarks.{cites_entry, has_any, round_marks}
use Rattle.rounds_runs.specs.Rounds.{no_states}
use Rattle.rounds_runs.specs.RunLaws.{GetsSuffixInGroup, HasSuffixesInOrder, IsLawful, NothingLeft, RanksRise, RoundsMark, StatesGoOn, SuffixesStay, marks_of_entry, shown_at}
use Rattle.rounds_runs.specs.Tables.{marks_at, rounds, tables, tables_from}
use Rattle.rounds_runs.specs.declared.mode.RoundMode.{RoundMode}
use Rattle.test_wrong_answers.proofs.Differ.{above}
use Rattle.test_wrong_answers.proofs.Told.{IsUntold, second, suffix_of}
use Rattle.test_wrong_answers.specs.Marks.{both_chosen, both_seven, never_marked, seven, twice_empty, undated}
use Rattle.test_wrong_answers.specs.Rounds.{in_two_groups}
use Rattle.test_wrong_answers.specs.Samples.{entry}
use Rattle.test_wrong_answers.specs.Silent.{same_sample, writing}

nothing-marks : (mode : RoundMode) → marks_at mode same_sample writing undated no_states ≡ []
unfolding round_marks name_marks steps step
nothing-marks RoundMode.Three = refl
nothing-marks RoundMode.Full = refl

-- a round that marks nothing isn't counted
not-marked : (mode : RoundMode) → has_any (marks_at mode same_sample writing undated no_states) ≡ true → ⊥
not-marked mode h = true≢false (sym h ∙ ap has_any (nothing-marks mode))

pub seven-unmarked : (mode : RoundMode) → ¬ RoundsMark mode same_sample writing undated both_seven
seven-unmarked mode h = not-marked mode (h.each_marks 0 no_states (omega arith))

pub empty-unmarked : (mode : RoundMode) → ¬ RoundsMark mode same_sample writing undated twice_empty
empty-unmarked mode h = not-marked mode (h.each_marks 0 no_states (omega arith))

-- a state of none of the marks
none-in : {X : Type 0} (P : X → Type 0) (xs : List X) → xs ≡ [] → Any P xs → ⊥
none-in P [] e (k, x, w, at, h) = absurd (omega (arith, w))
none-in P (y ∷ ys) e h = cc

no-own-marks : (mode : RoundMode) → marks_of_entry mode same_sample writing undated no_states (entry 0) ≡ []
no-own-marks mode = ap (filter (λ m. cites_entry same_sample (shown_at mode same_sample writing undated no_states) (entry 0) m.0)) (nothing-marks mode)

pub seven-of-none : (mode : RoundMode) → ¬ StatesGoOn mode same_sample writing undated both_seven
seven-of-none mode h = by (h.kept_or_marked 0 no_states (omega arith) (entry 0))
  where
    by : (seven (entry 0) ≡ None) ⊎ Any (λ m. seven (entry 0) ≡ Some m.1) (marks_of_entry mode same_sample writing undated no_states (entry 0)) → ⊥
    by (inl e) = cc
    by (inr one) = none-in (λ m. seven (entry 0) ≡ Some m.1) (marks_of_entry mode same_sample writing undated no_states (entry 0)) (no-own-marks mode) one

pub chosen-of-none : ¬ StatesGoOn RoundMode.Three same_sample writing in_two_groups both_chosen
unfolding round_marks name_marks steps step
chosen-of-none h = by (h.kept_or_marked 0 no_states (omega arith) (entry 1))
  where
    by : (Some Choose ≡ None) ⊎ Any (λ m. Some Choose ≡ Some m.1) (marks_of_entry RoundMode.Three same_sample writing in_two_groups no_states (entry 1)) → ⊥
    by (inl e) = cc
    by (inr (k, m, w, at, one)) = absurd (omega (arith, w))

-- two suffixes that aren't in order
abbrev the_group : List Place
the_group = (0, 0) ∷ (1, 0) ∷ []

abbrev groups : RoundMode → List (List Place)
groups mode = ambiguous_groups same_sample (shown_at mode same_sample writing undated no_states)

one-group : (mode : RoundMode) → groups mode ≡ the_group ∷ []
one-group mode = refl

alone : {X : Type 0} (x y : X) → Contains (x ∷ []) y → x ≡ y
alone x y (zero, w, e) = e
alone x y (suc k, w, e) = absurd (omega (arith, w))

pub not-in-order : (mode : RoundMode) → ¬ SuffixesStay mode same_sample writing undated both_seven
not-in-order mode h = by (h.by_group 0 no_states (omega arith) (entry 0) 7 refl)
  where
    by : (None ≡ Some (YearSuffix 7)) ⊎ GetsSuffixInGroup mode same_sample writing undated no_states seven (entry 0) → ⊥
    by (inl e) = cc
    by (inr g) =
        let same : the_group ≡ g.group = alone the_group g.group (subst (λ gs. Contains gs g.group) (one-group mode) g.is_ambiguous) in
        let in_order : HasSuffixesInOrder mode same_sample writing undated no_states seven the_group =
        subst (HasSuffixesInOrder mode same_sample writing undated no_states seven) (sym same) g.in_order in
        let first : Some (YearSuffix 7) ≡ Some (YearSuffix 0) = in_order 0 (0, entry 0) (omega arith) in
        above 7 0 (omega arith) (ap suffix_of first)

-- the right answer has one table
one-table : (mode : RoundMode) → tables mode same_sample writing undated ≡ never_marked
unfolding tables_from round_marks name_marks steps step
one-table RoundMode.Three = refl
one-table RoundMode.Full = refl

pub undated-begun : AreBegun undated
undated-begun = All-from_recursion IsUntold (flat_map (λ c. c.items) undated) (refl, (refl, tt))

pub never-marked : (mode : RoundMode) → StatesGoOn mode same_sample writing undated (tables mode same_sample writing undated)
    → RoundsMark mode same_sample writing undated (tables mode same_sample writing undated) → SuffixesStay mode same_sample writing undated (tables mode same_sample writing undated)
    → NothingLeft mode same_sample writing undated (tables mode same_sample writing undated) (rounds mode same_sample writing undated)
    → RanksRise RoundMode.Full same_sample writing undated (tables RoundMode.Full same_sample writing undated) → IsLawful mode same_sample writing undated never_marked 0
never-marked mode go_on marks stay left ranks =
    subst (λ ts. IsLawful mode same_sample writing undated ts (length ts - 1)) (one-table mode)
    (record {
      go_on = go_on;
      marks = marks;
      stay = stay;
      left = left;
      ranks = λ full. subst (λ m. RanksRise m same_sample writing undated (tables m same_sample writing undated)) (sym full) ranks;
    })

-- in the right answer for the two that test `disambiguate` one is chosen
pub one-chosen : let next = slice_index_or (tables RoundMode.Three same_sample writing in_two_groups) 1 no_states in
    (next (entry 0) ≡ Some Choose) × (next (entry 1) ≡ None)
unfolding round_marks name_marks steps step
one-chosen = let t = second in_two_groups refl in (ap (λ s. s (entry 0)) t, ap (λ s. s (entry 1)) t)
