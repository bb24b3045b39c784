-- States that the laws of the rounds refuse.
use Rattle.std.proofs.Common.{◌≡◌, ℕ, zero, suc, ◌≤◌, List, [], ◌∷◌, Option, Some, None, true, false, cond, refl, ap, true≢false, arith}
use Rattle.std.specs.Prelude.{Bool, flat_map, slice_index_or, unwrap_or}
use Rattle.std.proofs.lemmas.List.Elements.{All-cons, All-from_recursion, All-nil}
use Rattle.driver_lookup.specs.States.{year_suffix}
use Rattle.driver_lookup.specs.declared.state.DisambiguateState.{DisambiguateState}
use Rattle.driver_lookup.specs.declared.state.DisambiguateState.TheVariants.{Choose, YearSuffix}
use Rattle.driver_passes.specs.Renders.{CiteRender, ItemRender, Place}
use Rattle.rounds_runs.specs.FirstRenders.{AreBegun}
use Rattle.rounds_runs.specs.RoundMarks.{Mark, has_any, round_marks}
use Rattle.rounds_runs.specs.Rounds.{StateTable, no_states, with_marks}
use Rattle.rounds_runs.specs.RunLaws.{GetsSuffixes, IsInNoGroup, NothingLeft, StatesGoOn, SuffixesStay, shown_at}
use Rattle.rounds_runs.specs.Tables.{marked_at, marks_at, tables, tables_from}
use Rattle.rounds_runs.specs.declared.mode.RoundMode.{RoundMode}
use Rattle.rounds_names.specs.NameMarks.{name_marks}
use Rattle.rounds_names.specs.Steps.{step, steps}
use Rattle.test_wrong_answers.proofs.Differ.{above}
use Rattle.test_wrong_answers.specs.Rounds.{alike, by_cite, in_two_groups, on_every_entry, overwritten_at_once, overwritten_later, unlike}
use Rattle.test_wrong_answers.specs.Samples.{entry}
use Rattle.test_wrong_answers.specs.Silent.{same_sample, writing}
use Rattle.test_wrong_answers.specs.declared.sample.Sample.{Sample}

abbrev three : RoundMode
three = RoundMode.Three

-- suffixes by cite
abbrev pub suffix_of : Option DisambiguateState → ℕ
suffix_of o = unwrap_or (year_suffix (unwrap_or o DisambiguateState.None)) 9

abbrev all_three : List Place
all_three = (0, 0) ∷ (1, 0) ∷ (2, 0) ∷ []

abbrev first_two : List Mark
first_two = ((0, 0), YearSuffix 0) ∷ ((2, 0), YearSuffix 1) ∷ []

they-get : GetsSuffixes three same_sample writing alike no_states all_three
unfolding name_marks steps step
they-get = record {
  own = first_two;
  are_own = (0, omega arith, refl);
  mark = ((0, 0), YearSuffix 0);
  suffix = 0;
  one_of_them = (0, omega arith, refl);
  is_suffix = refl;
}

pub by-cite : ¬ SuffixesStay three same_sample writing alike by_cite
by-cite h =
    let first : Some (YearSuffix 1) ≡ Some (YearSuffix 0) = h.in_order 0 no_states (omega arith) all_three they-get 0 (0, entry 0) (omega arith) in
    above 1 0 (omega arith) (ap suffix_of first)

-- the second table, where the first round marks
module _ (firsts : List (CiteRender Sample ℕ)) where
  begins : (n : ℕ) (t : StateTable Sample) → slice_index_or (tables_from three same_sample writing firsts n t) 0 no_states ≡ t
  unfolding tables_from
  begins zero t = refl
  begins (suc n) t = by (has_any (marks_at three same_sample writing firsts t))
    where
      by : (b : Bool) → slice_index_or (cond b (t ∷ tables_from three same_sample writing firsts n (with_marks (marked_at three same_sample writing firsts t) t)) (t ∷ [])) 0 no_states ≡ t
      by true = refl
      by false = refl

  pub second : has_any (marks_at three same_sample writing firsts no_states) ≡ true
      → slice_index_or (tables three same_sample writing firsts) 1 no_states ≡ with_marks (marked_at three same_sample writing firsts no_states) no_states
  unfolding tables_from
  second h = rw h (begins 2 (with_marks (marked_at three same_sample writing firsts no_states) no_states))

  pub no-second : has_any (marks_at three same_sample writing firsts no_states) ≡ false → tables three same_sample writing firsts ≡ no_states ∷ []
  unfolding tables_from
  no-second h = rw h refl

pub alike-next : let next = slice_index_or (tables three same_sample writing alike) 1 no_states in
    (next (entry 0) ≡ Some (YearSuffix 0)) × (next (entry 1) ≡ Some (YearSuffix 1))
unfolding round_marks name_marks steps step
alike-next = let t = second alike refl in (ap (λ s. s (entry 0)) t, ap (λ s. s (entry 1)) t)

-- a state on every entry
pub on-every : ¬ NothingLeft three same_sample writing unlike on_every_entry 1
on-every h =
    let none : Some (YearSuffix 0) ≡ None = h.only_ambiguous (entry 0)
    (All-cons (λ t. IsInNoGroup same_sample (shown_at three same_sample writing unlike t) (entry 0)) no_states []
    (All-nil _) (All-nil (λ t. IsInNoGroup same_sample (shown_at three same_sample writing unlike t) (entry 0)))) in
    cc

pub none-marked : tables three same_sample writing unlike ≡ no_states ∷ []
unfolding round_marks name_marks steps step
none-marked = no-second unlike refl

-- names over a choice
pub at-once : ¬ StatesGoOn three same_sample writing in_two_groups overwritten_at_once
unfolding round_marks name_marks steps step
at-once h =
    let lost : true ≡ false = h.no_mark_lost 0 no_states (omega arith) (entry 0) 0 ((1, 0), Choose) (omega arith) in
    absurd (true≢false lost)

pub later : ¬ StatesGoOn three same_sample writing in_two_groups overwritten_later
later h =
    let back : 2 ≤ 1 = h.on 1 no_states (omega arith) (entry 0) in
    absurd (omega (arith, back))

pub chosen-next : let next = slice_index_or (tables three same_sample writing in_two_groups) 1 no_states in next (entry 0) ≡ Some Choose
unfolding round_marks name_marks steps step
chosen-next = ap (λ s. s (entry 0)) (second in_two_groups refl)

-- the first renders are in no state
abbrev pub IsUntold : ItemRender Sample ℕ → Type 0
IsUntold i = i.properties.speculative.disambiguation ≡ DisambiguateState.None

pub alike-begun : AreBegun alike
alike-begun = All-from_recursion IsUntold (flat_map (λ c. c.items) alike) (refl, (refl, (refl, tt)))

pub unlike-begun : AreBegun unlike
unlike-begun = All-from_recursion IsUntold (flat_map (λ c. c.items) unlike) (refl, (refl, tt))

pub two-groups-begun : AreBegun in_two_groups
two-groups-begun = All-from_recursion IsUntold (flat_map (λ c. c.items) in_two_groups) (refl, (refl, (refl, (refl, tt))))
