-- Only the ambiguous are marked; and where a round marks nothing, nothing is left to be marked.
use Rattle.std.proofs.Common.{◌≡◌, ℕ, ◌-◌, ◌<◌, Bool, true, false, cond, ◌&&◌, ◌||◌, None, List, [], ◌∷◌, ◌++◌, length, map, filter, refl, ap, sym, subst, ◌∙◌, true≢false}
use Rattle.std.specs.Prelude.{All, Contains}
use Rattle.std.specs.List.{list_any}
use Rattle.std.specs.Option.{option_map_or, option_or}
use Rattle.std.proofs.lemmas.List.Elements.{All-cons, All-contains, All-from_recursion, All-head, All-map, All-nil, All-weaker}
use Rattle.rounds_ambiguity.proofs.Sifted.{document-stands}
use Rattle.rounds_ambiguity.specs.Ambiguity.{ambiguous_groups}
use Rattle.rounds_ambiguity.specs.MarkLaws.{AmbiguousStandTogether, AreAmbiguous, HaveNoSuffix, StandInOneGroup}
use Rattle.rounds_ambiguity.specs.Members.{Member, document, entry_of, members, state_of}
use Rattle.rounds_ambiguity.specs.SuffixMarks.{adds_suffix, first_cites, shows_dates, suffix_among, suffix_marks, year_suffix_marks}
use Rattle.driver_writers.specs.Writing.{Writing}
use Rattle.driver_lookup.specs.States.{may_get_suffix}
use Rattle.driver_lookup.specs.declared.state.DisambiguateState.{DisambiguateState}
use Rattle.driver_lookup.specs.declared.state.DisambiguateState.TheVariants.{YearSuffix}
use Rattle.rounds_names.specs.NameMarks.{name_marks}
use Rattle.driver_passes.specs.Renders.{CiteRender, Place}
use Rattle.rounds_runs.specs.RoundMarks.{CannotBeMarked, Mark, Ways, all_ways, by_choice, by_full, by_suffix, by_three, counting, counts, greatest_state, has_any, marks_of, or_others, raises, round_marks, waits, ways}
use Rattle.rounds_runs.specs.Rounds.{StateTable, at_table, mark_of, no_states}
use Rattle.rounds_runs.specs.RunLaws.{Ended, IsInNoGroup, NothingLeft}
use Rattle.rounds_runs.specs.Tables.{last_states, marks_at, most_rounds, rounds, tables}
use Rattle.rounds_runs.specs.declared.mode.RoundMode.{RoundMode}
use Rattle.rounds_runs.proofs.GoneOn.{AreMarkLaws, GoesFrom, are-steps, goes_on, next, own-marks}
use Rattle.rounds_runs.proofs.Kept.{all-distinct}
use Rattle.rounds_runs.proofs.Runs.{done, final, run-ends, run-last}
use Rattle.rounds_runs.proofs.Told.{IsThere, in-members, members-there}

-- an entry in no group gets no mark
module _ {E P : Type 0} (eq : E → E → Bool) (laws : AreMarkLaws E P eq) (cites : List (CiteRender E P)) (e : E) (apart : IsInNoGroup eq cites e) where
  abbrev Own : Mark → Type 0
  Own m = (f : GoesFrom eq laws cites m) × (eq e (entry_of f.cite) ≡ true)

  no-mark : (ms : List Mark) → All Own ms → greatest_state (map (λ m. m.1) ms) ≡ None
  no-mark [] all = refl
  no-mark (m ∷ ms) all =
      let own : Own m = All-head Own m ms all in
      let none : eq e (entry_of own.0.cite) ≡ false =
      All-contains (λ c. eq e (entry_of c) ≡ false) (members cites own.0.group) own.0.cite
      (All-contains (λ g. All (λ c. eq e (entry_of c) ≡ false) (members cites g)) (ambiguous_groups eq cites) own.0.group apart own.0.is_group) own.0.among in
      absurd (true≢false (sym own.1 ∙ none))

  pub unmarked : (mode : RoundMode) (writing : Writing E P) → mark_of eq cites (round_marks mode eq writing.answers cites) e ≡ None
  unmarked mode writing = no-mark _ (own-marks eq laws cites mode writing e)

-- where groups get no mark, there is none in any way
both-empty : {X : Type 0} (xs ys : List X) → or_others xs ys ≡ [] → (xs ≡ []) × (ys ≡ [])
both-empty [] ys h = (refl, h)
both-empty (x ∷ xs) ys h = cc

in-no-way : (w : Ways) (g : List Place) → all_ways w.by_names w.by_choice w.by_suffix g ≡ [] → CannotBeMarked w g
in-no-way w g h =
    let names = both-empty (w.by_names g) (or_others (w.by_choice g) (w.by_suffix g)) h in
    let others = both-empty (w.by_choice g) (w.by_suffix g) names.1 in
    record { not_by_names = names.0; not_by_choice = others.0; not_by_suffix = others.1 }

module _ (n c s : List Place → List Mark) where
  abbrev IsDone : List Place → Type 0
  IsDone g = all_ways n c s g ≡ []

  three-empty : (gs : List (List Place)) → has_any (marks_of (by_three n c s gs)) ≡ false → All IsDone gs
  three-empty [] h = All-nil IsDone
  three-empty (g ∷ gs) h = by (all_ways n c s g) refl h (three-empty gs)
    where
      by : (ws : List Mark) → all_ways n c s g ≡ ws → has_any (marks_of (cond (has_any ws) ((g, ws) ∷ map (λ h. (h, n h)) gs) ((g, []) ∷ by_three n c s gs))) ≡ false
          → (has_any (marks_of (by_three n c s gs)) ≡ false → All IsDone gs) → All IsDone (g ∷ gs)
      by [] e h more = All-cons IsDone g gs e (more h)
      by (m ∷ ms) e h more = absurd (true≢false h)

  full-empty : (w : List Mark → List Place → Bool) → ((g : List Place) → w [] g ≡ false) → (gs : List (List Place))
      → has_any (marks_of (by_full n c s w [] gs)) ≡ false → All IsDone gs
  full-empty w none [] h = All-nil IsDone
  full-empty w none (g ∷ gs) h = by (all_ways n c s g) refl (subst (λ b. has_any (rest (cond b [] (all_ways n c s g))) ≡ false) (none g) h) (full-empty w none gs)
    where
      rest : List Mark → List Mark
      rest own = own ++ marks_of (by_full n c s w ([] ++ own) gs)

      by : (ws : List Mark) → all_ways n c s g ≡ ws → has_any (rest ws) ≡ false → (has_any (marks_of (by_full n c s w [] gs)) ≡ false → All IsDone gs) → All IsDone (g ∷ gs)
      by [] e h more = All-cons IsDone g gs e (more h)
      by (m ∷ ms) e h more = absurd (true≢false h)

module _ {E P : Type 0} (eq : E → E → Bool) (writing : Writing E P) (cites : List (CiteRender E P)) where
  nothing-waits : (g : List Place) → waits eq cites [] g ≡ false
  nothing-waits g = by (members cites g)
    where
      by : (ms : List (Member E P)) → list_any (λ c. false) ms ≡ false
      by [] = refl
      by (m ∷ ms) = by ms

  abbrev their_ways : RoundMode → Ways
  their_ways mode = ways eq cites (shows_dates writing.answers cites) mode

  none-in-any-way : (mode : RoundMode) → has_any (round_marks mode eq writing.answers cites) ≡ false
      → let w = their_ways mode in All (λ g. all_ways w.by_names w.by_choice w.by_suffix g ≡ []) (ambiguous_groups eq cites)
  unfolding round_marks
  none-in-any-way RoundMode.Three h =
      three-empty (name_marks cites) (by_choice eq cites) (by_suffix eq cites (shows_dates writing.answers cites)) (ambiguous_groups eq cites) h
  none-in-any-way RoundMode.Full h =
      full-empty (counting cites (name_marks cites)) (counting cites (by_choice eq cites)) (counting cites (by_suffix eq cites (shows_dates writing.answers cites)))
      (waits eq cites) nothing-waits (ambiguous_groups eq cites) h

  pub all-done : (mode : RoundMode) → has_any (round_marks mode eq writing.answers cites) ≡ false → All (CannotBeMarked (their_ways mode)) (ambiguous_groups eq cites)
  all-done mode h =
      let w = their_ways mode in
      All-weaker (λ g. all_ways w.by_names w.by_choice w.by_suffix g ≡ []) (CannotBeMarked w) (in-no-way w) (ambiguous_groups eq cites) (none-in-any-way mode h)

-- suffixes count
suffix-counts : (s : DisambiguateState) (n : ℕ) → may_get_suffix s ≡ true → raises s (YearSuffix n) ≡ true
suffix-counts DisambiguateState.None n h = refl
suffix-counts (DisambiguateState.NameDisambiguation forms) n h = refl
suffix-counts DisambiguateState.Choose n h = refl
suffix-counts (DisambiguateState.YearSuffix suffix) n h = absurd (true≢false (sym h))

none-passes : {X : Type 0} (q : X → Bool) (xs : List X) → All (λ x. q x ≡ true) xs → filter q xs ≡ [] → xs ≡ []
none-passes q [] h e = refl
none-passes q (x ∷ xs) h e = absurd (by (q x) (All-head (λ x. q x ≡ true) x xs h) e)
  where
    by : (b : Bool) → b ≡ true → cond b (x ∷ filter q xs) (filter q xs) ≡ [] → ⊥
    by true h e = cc
    by false h e = cc

module _ {E P : Type 0} (eq : E → E → Bool) (writing : Writing E P) (cites : List (CiteRender E P)) where
  abbrev IsBare : Member E P → Type 0
  IsBare m = IsThere cites m × (may_get_suffix (state_of m) ≡ true)

  pub suffixes-count : (dated : Bool) (g : List Place) → HaveNoSuffix (members cites g) → All (λ m. counts cites m ≡ true) (by_suffix eq cites dated g)
  suffixes-count dated g bare = by (dated && adds_suffix ms)
    where
      ms : List (Member E P)
      ms = members cites g

      counts-there : (m : Member E P) → IsBare m → counts cites (m.place, suffix_among eq ms m) ≡ true
      counts-there m h = ap (λ o. option_map_or (λ c. raises (state_of c) (suffix_among eq ms m)) o false) h.0 ∙ suffix-counts (state_of m) _ h.1

      by : (b : Bool) → All (λ m. counts cites m ≡ true) (cond b (suffix_marks eq ms) [])
      by true =
          All-map (λ m. counts cites m ≡ true) (λ m. (m.place, suffix_among eq ms m)) (first_cites eq ms)
          (All-weaker IsBare (λ m. counts cites (m.place, suffix_among eq ms m) ≡ true) counts-there (first_cites eq ms)
          (all-distinct IsBare (λ a b. eq (entry_of a) (entry_of b)) ms (λ k d w. (members-there cites g k d w, bare k d w))))
      by false = All-nil (λ m. counts cites m ≡ true)

  abbrev HasNone : RoundMode → List Place → Type 0
  HasNone mode = CannotBeMarked (ways eq cites (shows_dates writing.answers cites) mode)

  no-suffix : (mode : RoundMode) (g : List Place) → HaveNoSuffix (members cites g) → HasNone mode g → by_suffix eq cites (shows_dates writing.answers cites) g ≡ []
  no-suffix RoundMode.Three g bare h = h.not_by_suffix
  no-suffix RoundMode.Full g bare h =
      none-passes (counts cites) (by_suffix eq cites (shows_dates writing.answers cites) g) (suffixes-count (shows_dates writing.answers cites) g bare) h.not_by_suffix

  -- a group that could get suffixes has no style that adds them
  adds-none : (ms : List (Member E P)) (a : Member E P) → Contains ms a → year_suffix_marks eq true ms ≡ [] → adds_suffix ms ≡ false
  adds-none [] a (k, w, e) h = refl
  adds-none (m ∷ ms) a h none = by (adds_suffix (m ∷ ms)) none
    where
      by : (b : Bool) → cond b (suffix_marks eq (m ∷ ms)) [] ≡ [] → b ≡ false
      by true e = cc
      by false e = refl

  style-of : (ms : List (Member E P)) → adds_suffix ms ≡ false → All (λ m. m.style.citation.disambiguate_add_year_suffix ≡ false) ms
  style-of [] h = All-nil (λ m. m.style.citation.disambiguate_add_year_suffix ≡ false)
  style-of (m ∷ ms) h = by m.style.citation.disambiguate_add_year_suffix refl h (style-of ms)
    where
      by : (b : Bool) → m.style.citation.disambiguate_add_year_suffix ≡ b → b || adds_suffix ms ≡ false
          → (adds_suffix ms ≡ false → All (λ m. m.style.citation.disambiguate_add_year_suffix ≡ false) ms) → All (λ m. m.style.citation.disambiguate_add_year_suffix ≡ false) (m ∷ ms)
      by true e h more = absurd (true≢false h)
      by false e h more = All-cons (λ m. m.style.citation.disambiguate_add_year_suffix ≡ false) m ms e (more h)

  cited-there : All (IsThere cites) (document cites)
  cited-there = All-from_recursion (IsThere cites) (document cites) (document-stands cites [] cites refl)

  pub add-none : (mode : RoundMode) → AreMarkLaws E P eq → AmbiguousStandTogether eq cites → All (HasNone mode) (ambiguous_groups eq cites)
      → shows_dates writing.answers cites ≡ true → (a b : Member E P) → AreAmbiguous eq cites a b → adds_suffix (a ∷ b ∷ []) ≡ false
  add-none mode laws together none dated a b h =
      let t : StandInOneGroup (ambiguous_groups eq cites) a.place b.place = together a b h in
      let one = in-members cites t.group a.place a t.one_inside (All-contains (IsThere cites) (document cites) a cited-there h.one_cited) in
      let other = in-members cites t.group b.place b t.other_inside (All-contains (IsThere cites) (document cites) b cited-there h.other_cited) in
      let bare : HaveNoSuffix (members cites t.group) =
      All-contains (λ g. HaveNoSuffix (members cites g)) (ambiguous_groups eq cites) t.group (laws.without_suffix cites) t.is_group in
      let empty : HasNone mode t.group = All-contains (HasNone mode) (ambiguous_groups eq cites) t.group none t.is_group in
      let suffixes : year_suffix_marks eq true (members cites t.group) ≡ [] =
      ap (λ d. by_suffix eq cites d t.group) (sym dated) ∙ no-suffix mode t.group bare empty in
      let styles = style-of (members cites t.group) (adds-none (members cites t.group) a one suffixes) in
      let no = λ (m : Member E P) (i : Contains (members cites t.group) m).
      All-contains (λ (m : Member E P). m.style.citation.disambiguate_add_year_suffix ≡ false) (members cites t.group) m styles i in
      ap (λ d. d || adds_suffix (b ∷ [])) (no a one) ∙ ap (λ d. d || false) (no b other)

module _ {E P : Type 0} (mode : RoundMode) (eq : E → E → Bool) (writing : Writing E P) (firsts : List (CiteRender E P)) (laws : AreMarkLaws E P eq) where
  abbrev at : StateTable E → List (CiteRender E P)
  at t = at_table writing t firsts

  only-ambiguous : (e : E) → All (λ t. IsInNoGroup eq (at t) e) (done (tables mode eq writing firsts)) → last_states mode eq writing firsts e ≡ None
  only-ambiguous e =
      subst (λ ts. All (λ t. IsInNoGroup eq (at t) e) (done ts) → final ts no_states e ≡ None) (are-steps mode eq writing firsts)
      (run-last (goes_on mode eq writing firsts) (next mode eq writing firsts) (λ t. IsInNoGroup eq (at t) e) (λ t. t e ≡ None)
      (λ t none apart go. ap (λ o. option_or o (t e)) (unmarked eq laws (at t) e apart mode writing) ∙ none) no_states (most_rounds mode eq firsts) no_states refl)

  abbrev last : List (CiteRender E P)
  last = at (last_states mode eq writing firsts)

  abbrev HaveEnded : Type 0
  HaveEnded = Ended mode (rounds mode eq writing firsts)

  module _ (together : AmbiguousStandTogether eq last) (ends : HaveEnded → has_any (marks_at mode eq writing firsts (last_states mode eq writing firsts)) ≡ false) where
    none-left : HaveEnded → All (CannotBeMarked (ways eq last (shows_dates writing.answers last) mode)) (ambiguous_groups eq last)
    none-left ended = all-done eq writing last mode (ends ended)

    pub nothing-left : NothingLeft mode eq writing firsts (tables mode eq writing firsts) (rounds mode eq writing firsts)
    nothing-left = record {
      only_ambiguous = only-ambiguous;
      none_left = none-left;
      told_apart = λ ended. add-none eq writing last mode laws together (none-left ended);
    }

-- in mode three they ended where fewer than three marked
pub three-ends : {E P : Type 0} (eq : E → E → Bool) (writing : Writing E P) (firsts : List (CiteRender E P)) → Ended RoundMode.Three (rounds RoundMode.Three eq writing firsts)
    → has_any (marks_at RoundMode.Three eq writing firsts (last_states RoundMode.Three eq writing firsts)) ≡ false
three-ends eq writing firsts h =
    subst (λ ts. length ts - 1 < 3 → goes_on RoundMode.Three eq writing firsts (final ts no_states) ≡ false) (are-steps RoundMode.Three eq writing firsts)
    (run-ends (goes_on RoundMode.Three eq writing firsts) (next RoundMode.Three eq writing firsts) no_states 3 no_states) h
