-- Rounds of a mode, one after another: in mode three as many as are left, in mode full until none marks.
use Rattle.std.proofs.Common.{◌≡◌, ℕ, ◌+◌, ◌-◌, ◌*◌, ◌^◌, ◌<◌, ◌≤◌, Bool, true, false, true≢false, Option, None, List, length, replicate, refl, ap, sym, subst, ◌∙◌, arith, ltb-true, ltb-false}
use Rattle.std.specs.Prelude.{min}
use Rattle.std.specs.Cmp.{IsEquivalence}
use Rattle.std.specs.List.{flat_map, sum_by}
use Rattle.value_sources.specs.Answers.{Answers}
use Rattle.driver_lookup.specs.GoingOn.{rank}
use Rattle.driver_lookup.specs.declared.state.DisambiguateState.{DisambiguateState}
use Rattle.driver_passes.specs.Renders.{CiteRender}
use Rattle.rounds_runs.specs.FirstRenders.{AreBegun}
use Rattle.rounds_runs.specs.RoundMarks.{has_any, round_marks}
use Rattle.rounds_runs.specs.Rounds.{StateTable, at_table, entries_cited, no_states, with_marks}
use Rattle.rounds_runs.specs.Tables.{marked_at, marks_at, most_forms, most_rounds}
use Rattle.rounds_runs.specs.declared.mode.RoundMode.{RoundMode}
use Rattle.rounds_runs.proofs.RankSums.{HaveRisen, cite-ranks, cites-most, cites-rise, ranks, risen-begun, risen-more, risen-within}
use Rattle.driver_writers.specs.Desk.{Desk}
use Rattle.driver_writers.specs.Writing.{Writing, writing_of}
use Rattle.rounds_rendering.specs.AfterRounds.{AreAfterRounds}
use Rattle.rounds_rendering.specs.Gathered.{has_round_left}
use Rattle.rounds_rendering.proofs.InRounds.{InRounds, Round, begun, cites-after, no-round-left, one-round, three-not-full}

-- the ranks of cites as they stand, where no state has more than f forms
abbrev pub ranks_of : {E P : Type 0} → ℕ → List (CiteRender E P) → ℕ
ranks_of f rs = sum_by (λ i. rank f i.properties.speculative.disambiguation) (flat_map (λ c. c.items) rs)

-- what falls with each round: how many are left, or by how much ranks can still rise
abbrev pub left_for : {E P : Type 0} → RoundMode → List (CiteRender E P) → ℕ → List (CiteRender E P) → ℕ
left_for RoundMode.Three firsts marked now = 3 - marked
left_for RoundMode.Full firsts marked now = length (entries_cited firsts) * (3 * most_forms firsts + 3) - ranks_of (most_forms firsts) now

falls : (most before after now new : ℕ) → now ≡ before → new ≡ after → before < after → after ≤ most → most - new < most - now
falls most before after now new e f h g = omega (arith, e, f, h, g)

module _ {E P : Type 0} (writing : Writing E P) (firsts : List (CiteRender E P)) (eq : E → E → Bool) (laws : IsEquivalence eq) where
  -- in mode full so many rounds have raised the ranks of this table
  abbrev pub Risen : RoundMode → ℕ → StateTable E → Type 0
  Risen RoundMode.Three k t = Unit {0}
  Risen RoundMode.Full k t = (untold : AreBegun firsts) → HaveRisen writing firsts untold eq laws k t

  module _ (k : ℕ) (t : StateTable E) where
    within : (mode : RoundMode) → (mode ≡ RoundMode.Full → AreBegun firsts) → Risen mode k t → (marked : ℕ) → marked ≡ min k (2 ^ 128 - 1) → has_round_left mode marked ≡ true
        → has_any (marks_at mode eq writing firsts t) ≡ true → k < most_rounds mode eq firsts
    within RoundMode.Three untold risen marked is left any = let few = ltb-true marked 3 left in omega (arith, few, is)
    within RoundMode.Full untold risen marked is left any = risen-within writing firsts (untold refl) eq laws k t (risen (untold refl)) any

    risen-next : (mode : RoundMode) → Risen mode k t → has_any (marks_at mode eq writing firsts t) ≡ true → Risen mode (k + 1) (with_marks (marked_at mode eq writing firsts t) t)
    risen-next RoundMode.Three risen any = tt
    risen-next RoundMode.Full risen any = λ untold. risen-more writing firsts untold eq laws k t (risen untold) any

    left-falls : (mode : RoundMode) → (mode ≡ RoundMode.Full → AreBegun firsts) → Risen mode k t → (marked next : ℕ) → has_round_left mode marked ≡ true → next ≡ min (marked + 1) (2 ^ 128 - 1)
        → has_any (marks_at mode eq writing firsts t) ≡ true → (now new : List (CiteRender E P)) → now ≡ at_table writing t firsts → new ≡ at_table writing (with_marks (marked_at mode eq writing firsts t) t) firsts
        → left_for mode firsts next new < left_for mode firsts marked now
    left-falls RoundMode.Three untold risen marked next left one any now new here there = let few = ltb-true marked 3 left in omega (arith, few, one)
    left-falls RoundMode.Full untold risen marked next left one any now new here there =
        let begun = untold refl in
        let after = with_marks (marked_at RoundMode.Full eq writing firsts t) t in
        falls (length (entries_cited firsts) * (3 * most_forms firsts + 3)) (ranks writing firsts begun (entries_cited firsts) t) (ranks writing firsts begun (entries_cited firsts) after)
        (ranks_of (most_forms firsts) now) (ranks_of (most_forms firsts) new) (ap (ranks_of (most_forms firsts)) here ∙ cite-ranks writing firsts begun t) (ap (ranks_of (most_forms firsts)) there ∙ cite-ranks writing firsts begun after)
        (cites-rise writing firsts begun eq laws k t (risen begun) any) (cites-most writing firsts begun eq laws k t (risen begun) any)

module _ {E P N : Type 0} (mode : RoundMode) (eq : E → E → Bool) (answers : E → Answers) (firsts : List (CiteRender E P)) (es : List E) (old : Desk E P N) (laws : IsEquivalence eq) where
  abbrev writing : Writing E P
  writing = writing_of answers old.writer

  -- so many rounds have marked
  pub record InMode (now : List (CiteRender E P)) (states : List (Option DisambiguateState)) (marked : ℕ) (behind : Desk E P N) : Type 0 where
    pub k : ℕ
    pub so : InRounds mode eq answers firsts es old k now states marked behind
    pub risen : Risen writing firsts eq laws mode k so.table

  pub begun-mode : (states : List (Option DisambiguateState)) (n : ℕ) → states ≡ replicate n None → n ≡ length es → InMode firsts states 0 old
  unfolding begun
  begun-mode states n none same = record {
    k = 0;
    so = begun mode eq answers firsts es old states n none same;
    risen = by mode;
  }
    where
      by : (m : RoundMode) → Risen writing firsts eq laws m 0 no_states
      by RoundMode.Three = tt
      by RoundMode.Full = λ untold. risen-begun writing firsts untold eq laws

  module _ (untold : mode ≡ RoundMode.Full → AreBegun firsts) (now : List (CiteRender E P)) (states : List (Option DisambiguateState)) (marked : ℕ) (before : Desk E P N) (in_mode : InMode now states marked before) where
    -- no round is left
    pub none-left : has_round_left mode marked ≡ false → AreAfterRounds mode eq writing firsts es old now states marked before
    none-left none = by mode refl
      where
        by : (m : RoundMode) → mode ≡ m → AreAfterRounds mode eq writing firsts es old now states marked before
        by RoundMode.Three e =
            let past : 3 ≤ marked = ltb-false marked 3 (ap (λ m. has_round_left m marked) (sym e) ∙ none) in
            let most : most_rounds mode eq firsts ≡ 3 = ap (λ m. most_rounds m eq firsts) e in
            no-round-left mode eq answers firsts es old in_mode.k now states marked before in_mode.so (omega (arith, past, most, in_mode.so.marked_is)) (λ f. three-not-full (sym e ∙ f))
        by RoundMode.Full e = absurd (true≢false (ap (λ m. has_round_left m marked) (sym e) ∙ none))

    module _ (left : has_round_left mode marked ≡ true) (new : List (CiteRender E P)) (given : List (Option DisambiguateState)) (behind : Desk E P N)
        (round : Round mode eq answers firsts es old in_mode.k now states marked before in_mode.so new given behind) (any : has_any (round_marks mode eq answers now) ≡ true) where
      yes : has_any (marks_at mode eq writing firsts in_mode.so.table) ≡ true
      yes = subst (λ rs. has_any (round_marks mode eq answers rs) ≡ true) in_mode.so.cites any

      -- one more
      pub one-more-round : (next : ℕ) → next ≡ min (marked + 1) (2 ^ 128 - 1) → InMode new given next behind
      unfolding one-round
      one-more-round next one = record {
        k = in_mode.k + 1;
        so = one-round mode eq answers firsts es old in_mode.k now states marked before in_mode.so new given behind round
            (within writing firsts eq laws in_mode.k in_mode.so.table mode untold in_mode.risen marked in_mode.so.marked_is left yes) next any one;
        risen = risen-next writing firsts eq laws in_mode.k in_mode.so.table mode in_mode.risen yes;
      }

      -- and less is left
      pub less-left : (next : ℕ) → next ≡ min (marked + 1) (2 ^ 128 - 1) → left_for mode firsts next new < left_for mode firsts marked now
      less-left next one =
          left-falls writing firsts eq laws in_mode.k in_mode.so.table mode untold in_mode.risen marked next left one yes now new in_mode.so.cites
          (cites-after mode eq writing firsts now new in_mode.so.table in_mode.so.cites round.cites)
