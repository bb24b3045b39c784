-- The rounds, one after another.
use Rattle.std.proofs.Common.{◌≡◌, ℕ, zero, suc, ◌+◌, ◌-◌, ◌^◌, ◌<◌, ◌≤◌, Bool, true, false, Option, None, List, [], ◌∷◌, ◌++◌, drop, take, get_or, length, replicate, refl, ap, sym, subst, ◌∙◌, arith, append_assoc, length-append}
use Rattle.std.specs.Prelude.{min}
use Rattle.std.specs.List.{flat_map}
use Rattle.std.proofs.Math.Seq.{get_or-append_seam, take-append_seam}
use Rattle.std.proofs.lemmas.List.{flat_map_more, get_or-replicate, length-replicate, take_at}
use Rattle.value_sources.specs.Answers.{Answers}
use Rattle.driver_entries.specs.Entries.{place}
use Rattle.driver_lookup.specs.declared.state.DisambiguateState.{DisambiguateState}
use Rattle.driver_passes.specs.Renders.{CiteRender}
use Rattle.driver_writers.specs.Desk.{Desk, after}
use Rattle.driver_writers.specs.Tasks.{TaskValue}
use Rattle.driver_writers.specs.Writing.{Writing, writing_of}
use Rattle.driver_writers.proofs.TasksDone.{after-then, writes-same}
use Rattle.rounds_rendering.specs.AfterRounds.{AreAfterRounds}
use Rattle.rounds_runs.specs.Rerenders.{AreStatesOf}
use Rattle.rounds_runs.specs.RoundMarks.{has_any, round_marks}
use Rattle.rounds_runs.specs.Rounds.{StateTable, again_tasks, at_table, mark_of, marked_by, no_states, with_marks}
use Rattle.rounds_runs.specs.Tables.{disambiguated, last_states, marked_at, marks_at, most_rounds, rounds, tables, tables_from}
use Rattle.rounds_runs.specs.declared.mode.RoundMode.{RoundMode}
use Rattle.rounds_rendering.proofs.Marked.{empty-asked, empty-round, nothing-marked}
use Rattle.rounds_runs.proofs.Twice.{nothing-new, twice}

pub three-not-full : RoundMode.Three ≡ RoundMode.Full → ⊥
three-not-full e = cc

pub one-more : (k : ℕ) → min (min k (2 ^ 128 - 1) + 1) (2 ^ 128 - 1) ≡ min (k + 1) (2 ^ 128 - 1)
one-more k = omega arith

module _ {E P : Type 0} (mode : RoundMode) (eq : E → E → Bool) (writing : Writing E P) (firsts : List (CiteRender E P)) where
  abbrev last_of : StateTable E → List (StateTable E)
  last_of t = t ∷ []

  -- a round that marks, and one that doesn't
  pub from-yes : (n : ℕ) (t : StateTable E) → has_any (marks_at mode eq writing firsts t) ≡ true
      → tables_from mode eq writing firsts (suc n) t ≡ t ∷ tables_from mode eq writing firsts n (with_marks (marked_at mode eq writing firsts t) t)
  unfolding tables_from
  from-yes n t h = rw h refl

  from-none : (t : StateTable E) → tables_from mode eq writing firsts 0 t ≡ last_of t
  unfolding tables_from
  from-none t = refl

  from-no : (n : ℕ) (t : StateTable E) → has_any (marks_at mode eq writing firsts t) ≡ false → tables_from mode eq writing firsts n t ≡ last_of t
  unfolding tables_from
  from-no zero t h = refl
  from-no (suc n) t h = rw h refl

  told-apart : (now : List (CiteRender E P)) → now ≡ at_table writing (last_states mode eq writing firsts) firsts → now ≡ disambiguated mode eq writing firsts
  unfolding disambiguated
  told-apart now h = h

  -- where these tables are all
  module _ (done : List (StateTable E)) (t : StateTable E) (all : done ++ t ∷ [] ≡ tables mode eq writing firsts) where
    rounds-done : length done ≡ rounds mode eq writing firsts
    rounds-done =
        let long : length (done ++ t ∷ []) ≡ length (tables mode eq writing firsts) = ap length all in
        omega (arith, long, length-append done (t ∷ []))

    last-done : t ≡ last_states mode eq writing firsts
    last-done = sym (get_or-append_seam done t [] no_states) ∙ ap (λ ts. get_or ts (length done) no_states) all ∙ ap (λ n. get_or (tables mode eq writing firsts) n no_states) rounds-done

    taken-done : done ≡ take (rounds mode eq writing firsts) (tables mode eq writing firsts)
    taken-done = sym (take-append_seam done (t ∷ [])) ∙ ap (take (length done)) all ∙ ap (λ n. take n (tables mode eq writing firsts)) rounds-done

  -- the cites after a round are those at the next table
  pub cites-after : (now new : List (CiteRender E P)) (t : StateTable E) → now ≡ at_table writing t firsts → new ≡ at_table writing (marked_by mode eq writing now) now
      → new ≡ at_table writing (with_marks (marked_at mode eq writing firsts t) t) firsts
  cites-after now new t here again = again ∙ ap (λ rs. at_table writing (marked_by mode eq writing rs) rs) here ∙ twice writing (marked_at mode eq writing firsts t) t firsts

  -- what the round asks for that begins with this table
  abbrev tasks-at : StateTable E → List (TaskValue E P)
  tasks-at t = again_tasks (marked_at mode eq writing firsts t) (at_table writing t firsts)

module _ {E P N : Type 0} (mode : RoundMode) (eq : E → E → Bool) (answers : E → Answers) (firsts : List (CiteRender E P)) (es : List E) (old : Desk E P N) where
  abbrev writing : Writing E P
  writing = writing_of answers old.writer

  -- k rounds have marked
  pub record InRounds (k : ℕ) (now : List (CiteRender E P)) (states : List (Option DisambiguateState)) (marked : ℕ) (behind : Desk E P N) : Type 0 where
    pub table : StateTable E
    pub done : List (StateTable E)
    pub cites : now ≡ at_table writing table firsts
    pub all : done ++ tables_from mode eq writing firsts (most_rounds mode eq firsts - k) table ≡ tables mode eq writing firsts
    pub states_are : AreStatesOf eq es table states
    pub each : length done ≡ k
    pub marked_is : marked ≡ min k (2 ^ 128 - 1)
    pub asked : behind ≡ after (flat_map (tasks-at mode eq writing firsts) done) old

  unfoldable pub begun : (states : List (Option DisambiguateState)) (n : ℕ) → states ≡ replicate n None → n ≡ length es → InRounds 0 firsts states 0 old
  begun states n none same = record {
    table = no_states;
    done = [];
    cites = sym (nothing-new writing firsts);
    all = ap (λ m. tables_from mode eq writing firsts m no_states) whole;
    states_are = record {
      long = ap length none ∙ length-replicate n None ∙ same;
      at = λ e below. ap (λ ss. get_or ss (place eq e es) None) none ∙ get_or-replicate n (place eq e es) None None (subst (λ m. place eq e es < m) (sym same) below);
    };
    each = refl;
    marked_is = refl;
    asked = refl;
  }
    where
      whole : most_rounds mode eq firsts - 0 ≡ most_rounds mode eq firsts
      whole = omega arith

  module _ (k : ℕ) (now : List (CiteRender E P)) (states : List (Option DisambiguateState)) (marked : ℕ) (before : Desk E P N) (so : InRounds k now states marked before) where
    module _ (last : tables_from mode eq writing firsts (most_rounds mode eq firsts - k) so.table ≡ last_of mode eq writing firsts so.table) where
      all-done : so.done ++ so.table ∷ [] ≡ tables mode eq writing firsts
      all-done = ap (λ ts. so.done ++ ts) (sym last) ∙ so.all

      last-table : so.table ≡ last_states mode eq writing firsts
      last-table = last-done mode eq writing firsts so.done so.table all-done

      done-with : (mode ≡ RoundMode.Full → has_any (marks_at mode eq writing firsts so.table) ≡ false) → AreAfterRounds mode eq writing firsts es old now states marked before
      done-with ended = record {
        cites = told-apart mode eq writing firsts now (so.cites ∙ ap (λ t. at_table writing t firsts) last-table);
        states_are = subst (λ t. AreStatesOf eq es t states) last-table so.states_are;
        marked_is = so.marked_is ∙ ap (λ n. min n (2 ^ 128 - 1)) (sym so.each ∙ rounds-done mode eq writing firsts so.done so.table all-done);
        asked = so.asked ∙ ap (λ ts. after (flat_map (tasks-at mode eq writing firsts) ts) old) (taken-done mode eq writing firsts so.done so.table all-done);
        ended = λ full. subst (λ t. has_any (marks_at mode eq writing firsts t) ≡ false) last-table (ended full);
      }

    -- no round is left
    pub no-round-left : most_rounds mode eq firsts ≤ k → (mode ≡ RoundMode.Full → ⊥) → AreAfterRounds mode eq writing firsts es old now states marked before
    no-round-left past three =
        let none : most_rounds mode eq firsts - k ≡ 0 = omega (arith, past) in
        done-with (ap (λ n. tables_from mode eq writing firsts n so.table) none ∙ from-none mode eq writing firsts so.table) (λ full. absurd (three full))

    -- one more round
    pub record Round (new : List (CiteRender E P)) (given : List (Option DisambiguateState)) (behind : Desk E P N) : Type 0 where
      pub cites : new ≡ at_table writing (marked_by mode eq writing now) now
      pub states_are : AreStatesOf eq es (with_marks (marked_by mode eq writing now) so.table) given
      pub asked : behind ≡ after (again_tasks (marked_by mode eq writing now) now) before

    -- its writer writes as before, and the states are put back where they came from
    pub round-made : (len : ℕ) (lent given : List (Option DisambiguateState)) (new : List (CiteRender E P)) (behind : Desk E P N) → len ≡ length states → lent ≡ states
        → new ≡ at_table (writing_of answers before.writer) (marked_by mode eq (writing_of answers before.writer) now) now
        → ((known : StateTable E) → AreStatesOf eq es known lent → AreStatesOf eq es (with_marks (marked_by mode eq (writing_of answers before.writer) now) known) given)
        → behind ≡ after (again_tasks (marked_by mode eq (writing_of answers before.writer) now) now) before
        → Round new (take len (given ++ drop (length given) states)) behind
    round-made len lent given new behind long same again are asking =
        let got : AreStatesOf eq es (with_marks (marked_by mode eq writing now) so.table) given = are so.table (subst (AreStatesOf eq es so.table) (sym same) so.states_are) in
        record {
          cites = again ∙ ap (λ w. at_table w (marked_by mode eq w now) now) (writes-same answers (flat_map (tasks-at mode eq writing firsts) so.done) old before so.asked);
          states_are = subst (AreStatesOf eq es (with_marks (marked_by mode eq writing now) so.table))
              (sym (take_at given (drop (length given) states) len (got.long ∙ sym so.states_are.long ∙ sym long))) got;
          asked = asking;
        }

    module _ (new : List (CiteRender E P)) (given : List (Option DisambiguateState)) (behind : Desk E P N) (round : Round new given behind) where
      -- it marks
      unfoldable pub one-round : k < most_rounds mode eq firsts → (next : ℕ) → has_any (round_marks mode eq answers now) ≡ true → next ≡ min (marked + 1) (2 ^ 128 - 1)
          → InRounds (k + 1) new given next behind
      one-round within next any one =
          let left : most_rounds mode eq firsts - k ≡ suc (most_rounds mode eq firsts - (k + 1)) = omega (arith, within) in
          let yes : has_any (marks_at mode eq writing firsts so.table) ≡ true = subst (λ rs. has_any (round_marks mode eq answers rs) ≡ true) so.cites any in
          let tasks = tasks-at mode eq writing firsts in
          record {
            table = with_marks (marked_at mode eq writing firsts so.table) so.table;
            done = so.done ++ so.table ∷ [];
            cites = cites-after mode eq writing firsts now new so.table so.cites round.cites;
            all = append_assoc so.done (so.table ∷ []) _
                ∙ ap (λ ts. so.done ++ ts)
                (sym (from-yes mode eq writing firsts (most_rounds mode eq firsts - (k + 1)) so.table yes) ∙ ap (λ n. tables_from mode eq writing firsts n so.table) (sym left)) ∙ so.all;
            states_are = subst (λ rs. AreStatesOf eq es (with_marks (marked_by mode eq writing rs) so.table) given) so.cites round.states_are;
            each = length-append so.done (so.table ∷ []) ∙ ap (λ n. n + 1) so.each;
            marked_is = one ∙ ap (λ n. min (n + 1) (2 ^ 128 - 1)) so.marked_is ∙ one-more k;
            asked = after-then (flat_map tasks so.done) (tasks so.table) old before behind so.asked (round.asked ∙ ap (λ rs. after (again_tasks (marked_by mode eq writing rs) rs) before) so.cites)
                ∙ ap (λ l. after l old) (flat_map_more tasks [] so.done so.table);
          }

      -- it marks nothing, and is the last
      pub last-round : has_any (round_marks mode eq answers now) ≡ false → AreAfterRounds mode eq writing firsts es old new given marked behind
      last-round none =
          let marks : round_marks mode eq answers now ≡ [] = nothing-marked (round_marks mode eq answers now) none in
          let no : has_any (marks_at mode eq writing firsts so.table) ≡ false = subst (λ rs. has_any (round_marks mode eq answers rs) ≡ false) so.cites none in
          let last = from-no mode eq writing firsts (most_rounds mode eq firsts - k) so.table no in
          let done = done-with last (λ full. no) in
          record {
            cites = round.cites ∙ sym (empty-round eq now (round_marks mode eq answers now) marks writing) ∙ done.cites;
            states_are = subst (λ t. AreStatesOf eq es t given) (last-table last) (subst (λ ms. AreStatesOf eq es (with_marks (mark_of eq now ms) so.table) given) marks round.states_are);
            marked_is = done.marked_is;
            asked = round.asked ∙ sym (empty-asked eq now (round_marks mode eq answers now) marks before) ∙ done.asked;
            ended = done.ended;
          }
