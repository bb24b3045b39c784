-- Steps of a round.
use Rattle.std.proofs.Common.{◌≡◌, ℕ, ◌<◌, Bool, true, false, not, ◌==◌, Option, None, List, [], ◌∷◌, ◌++◌, get_or, length, refl, ap, sym, subst, ◌∙◌, arith}
use Rattle.std.proofs.lemmas.Bool.{eqb-true, eqb-false}
use Rattle.driver_writers.specs.Writing.{Writing}
use Rattle.driver_passes.specs.Renders.{CiteRender, ItemRender}
use Rattle.driver_entries.specs.Entries.{place}
use Rattle.driver_entries.specs.Table.{Table}
use Rattle.std.specs.Cmp.{IsEquivalence}
use Rattle.driver_lookup.specs.declared.state.DisambiguateState.{DisambiguateState}
use Rattle.driver_passes.proofs.Halves.{by_places-at, by_places-length}
use Rattle.rounds_rendering.specs.CitesOfTable.{AreCitesOfTable}
use Rattle.rounds_rendering.specs.Gathered.{AreGreatest, document_again, document_tasks, put_before}
use Rattle.rounds_runs.specs.RoundMarks.{Mark, has_any, round_marks}
use Rattle.rounds_runs.proofs.Kept.{places-kept, rings-kept}
use Rattle.rounds_rendering.proofs.Placed.{document-alike, state-at, tasks-alike}
use Rattle.rounds_runs.specs.Rerenders.{AreStatesOf}
use Rattle.rounds_runs.specs.Rounds.{StateTable, again_tasks, at_table, mark_of, marked_by, no_states, tasks_with, with_marks}
use Rattle.rounds_runs.specs.declared.mode.RoundMode.{RoundMode}
use Rattle.rounds_runs.proofs.Twice.{nothing-new}
use Rattle.driver_writers.specs.Desk.{Desk, after}
use Rattle.std.specs.List.{flat_map}
use Rattle.std.specs.Option.{option_or}

module _ {X : Type 0} where
  pub any-tested : (xs : List X) (n : ℕ) (b : Bool) → length xs ≡ n → b ≡ (n == 0) → has_any xs ≡ not b
  any-tested [] n true l e = refl
  any-tested [] n false l e = absurd (eqb-false n 0 (sym e) (sym l))
  any-tested (x ∷ xs) n true l e = absurd (omega (arith, l, eqb-true n 0 (sym e)))
  any-tested (x ∷ xs) n false l e = refl

  pub nothing-marked : (xs : List X) → has_any xs ≡ false → xs ≡ []
  nothing-marked [] h = refl
  nothing-marked (x ∷ xs) h = cc

-- a table without states asks for nothing
no-tasks : {E P : Type 0} (rs : List (CiteRender E P)) → again_tasks no_states rs ≡ []
no-tasks [] = refl
no-tasks {E} {P} (c ∷ cs) = ap (λ l. l ++ again_tasks no_states cs) (none c.items) ∙ no-tasks cs
  where
    none : (is : List (ItemRender E P)) → flat_map (λ i. tasks_with c.request None i) is ≡ []
    none [] = refl
    none (i ∷ is) = none is

module _ {E P : Type 0} (eq : E → E → Bool) (rs : List (CiteRender E P)) (marks : List Mark) (none : marks ≡ []) where
  -- a round without marks changes nothing
  pub empty-round : (writing : Writing E P) → rs ≡ at_table writing (mark_of eq rs marks) rs
  empty-round writing = sym (ap (λ ms. at_table writing (mark_of eq rs ms) rs) none ∙ nothing-new writing rs)

  -- nor does it give states
  pub empty-states : (es : List E) (known : StateTable E) (states : List (Option DisambiguateState)) → AreStatesOf eq es known states → AreStatesOf eq es (with_marks (mark_of eq rs marks) known) states
  empty-states es known states h = subst (λ ms. AreStatesOf eq es (with_marks (mark_of eq rs ms) known) states) (sym none) h

  -- nor is anything asked for
  pub empty-asked : {N : Type 0} (d : Desk E P N) → d ≡ after (again_tasks (mark_of eq rs marks) rs) d
  empty-asked d = sym (ap (λ ms. after (again_tasks (mark_of eq rs ms) rs) d) none ∙ ap (λ l. after l d) (no-tasks rs))

-- the parts of a round fit
module _ {E P : Type 0} (mode : RoundMode) (eq : E → E → Bool) (writing : Writing E P) (table : Table E) (rs : List (CiteRender E P)) (are : AreCitesOfTable eq table rs) where
  abbrev all : List Mark
  all = round_marks mode eq writing.answers rs

  pub greatest-now : (places : List (List ℕ)) (count : ℕ) (marks : List Mark) (states now : List (Option DisambiguateState)) → places ≡ table.places → count ≡ length table.entries → marks ≡ all → now ≡ states
      → AreGreatest places marks count states → AreGreatest table.places all (length table.entries) now
  greatest-now places count marks states now e n m s great =
      subst (AreGreatest table.places all (length table.entries)) (sym s)
      (subst (λ k. AreGreatest table.places all k states) n (subst (λ ms. AreGreatest table.places ms count states) m (subst (λ ps. AreGreatest ps marks count states) e great)))

  module _ (laws : IsEquivalence eq) (now : List (Option DisambiguateState)) (great : AreGreatest table.places all (length table.entries) now) where
    pub round-done : document_again now writing table.places rs ≡ at_table writing (marked_by mode eq writing rs) rs
    round-done = document-alike eq table.entries table.places rs are.placed are.listed laws all now great writing

    -- what it asks for
    pub round-asked : document_tasks now table.places rs ≡ again_tasks (marked_by mode eq writing rs) rs
    round-asked = tasks-alike eq table.entries table.places rs are.placed are.listed laws all now great

    -- and the entries have its states before those that they had
    pub round-states : (known : StateTable E) (old new : List (Option DisambiguateState)) → new ≡ put_before now old → AreStatesOf eq table.entries known old
        → AreStatesOf eq table.entries (with_marks (marked_by mode eq writing rs) known) new
    round-states known old new put were =
        subst (AreStatesOf eq table.entries (with_marks (marked_by mode eq writing rs) known)) (sym put)
        (record {
          long = by_places-length before old ∙ were.long;
          at = λ e below.
              by_places-at before old (place eq e table.entries) None (subst (λ n. place eq e table.entries < n) (sym were.long) below)
              ∙ ap (λ s. option_or s (get_or old (place eq e table.entries) None))
              (state-at eq table.entries table.places rs are.placed are.listed laws all now great e below)
              ∙ ap (option_or (marked_by mode eq writing rs e)) (were.at e below);
        })
      where
        before : ℕ → Option DisambiguateState → Option DisambiguateState
        before p = option_or (get_or now p None)

-- what is known of the cites is known of them after a round
pub still-of-table : {E P : Type 0} (mode : RoundMode) (eq : E → E → Bool) (writing : Writing E P) (now new : List (CiteRender E P)) → new ≡ at_table writing (marked_by mode eq writing now) now
    → (table : Table E) → AreCitesOfTable eq table now → AreCitesOfTable eq table new
still-of-table mode eq writing now new marked table are =
    let marks = marked_by mode eq writing now in
    subst (AreCitesOfTable eq table) (sym marked)
    (record {
      no_ring = rings-kept writing marks now are.no_ring;
      placed = are.placed ∙ sym (places-kept writing marks eq table.entries now);
      listed = are.listed;
    })
