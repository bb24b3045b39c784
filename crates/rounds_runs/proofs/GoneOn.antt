-- From one table to the next the state of each entry goes on.
use Rattle.std.proofs.Common.{◌≡◌, ◌⊎◌, inl, inr, ℕ, zero, suc, Bool, true, false, cond, Option, Some, None, List, [], ◌∷◌, map, filter, refl, ap, sym, subst, ◌∙◌}
use Rattle.std.specs.Prelude.{All, Any, Contains, length, option_map, unwrap_or}
use Rattle.std.specs.Cmp.{IsEquivalence}
use Rattle.std.specs.List.{AllAdjacentBelow}
use Rattle.std.specs.Option.{option_map_or, option_or}
use Rattle.std.proofs.lemmas.List.Elements.{All-contains, All-contains_itself, All-filter, All-map, All-weaker, filter_agree}
use Rattle.rounds_ambiguity.specs.Ambiguity.{ambiguous_groups}
use Rattle.rounds_ambiguity.specs.MarkLaws.{ChooseMarksGoOn, GroupsHaveNoSuffix, HaveNoSuffix, IsMarkOf, SuffixMarksGoOn}
use Rattle.rounds_ambiguity.specs.Members.{Member, entry_of, member_at, members, state_of}
use Rattle.rounds_ambiguity.specs.SuffixMarks.{shows_dates}
use Rattle.driver_writers.specs.Writing.{Writing}
use Rattle.value_sources.specs.Ordered.{IsValueOrder}
use Rattle.driver_lookup.specs.GoingOn.{GoesOn, GoesOnTo}
use Rattle.driver_lookup.specs.States.{greater, state_cmp}
use Rattle.driver_lookup.specs.ValueLaws.{IsNeverBelow}
use Rattle.driver_lookup.specs.declared.state.DisambiguateState.{DisambiguateState}
use Rattle.rounds_names.specs.MarkLaws.{IsNameMark, NameMarksGoOn}
use Rattle.rounds_names.specs.NameMarks.{name_marks}
use Rattle.driver_passes.specs.Renders.{CiteRender, Place}
use Rattle.rounds_runs.specs.FirstRenders.{AreBegun}
use Rattle.rounds_runs.specs.RoundMarks.{Mark, by_choice, by_suffix, cites_entry, counting, counts, greatest_state, has_any, raises, round_marks, waits}
use Rattle.rounds_runs.specs.Rounds.{StateTable, at_table, mark_of, no_states, told_by, with_marks}
use Rattle.rounds_runs.specs.RunLaws.{StatesGoOn, marks_of_entry}
use Rattle.rounds_runs.specs.Tables.{marked_at, marks_at, most_rounds, tables, tables_from}
use Rattle.rounds_runs.specs.declared.mode.RoundMode.{RoundMode}
use Rattle.rounds_runs.proofs.Greatest.{greatest-kept, none-greater, one-of-marks}
use Rattle.rounds_runs.proofs.Kept.{full-kept, three-kept}
use Rattle.rounds_runs.proofs.Runs.{all-passed, run, run-all, run-neighbours}
use Rattle.rounds_runs.proofs.Told.{IsThere, IsTold, in-members, item-known, members-there, rows-told}

-- the laws of marks that the rounds rest on
pub record AreMarkLaws (E P : Type 0) (eq : E → E → Bool) : Type 0 where
  pub equal : IsEquivalence eq
  pub goes : GoesOn
  pub order : IsValueOrder state_cmp
  pub never_below : IsNeverBelow state_cmp greater
  pub names : (cites : List (CiteRender E P)) (group : List Place) → NameMarksGoOn cites group
  pub without_suffix : (cites : List (CiteRender E P)) → GroupsHaveNoSuffix eq cites
  pub choose : (cites : List (Member E P)) → ChooseMarksGoOn eq cites
  pub suffix : (cites : List (Member E P)) → SuffixMarksGoOn eq cites

module _ {E P : Type 0} (eq : E → E → Bool) (laws : AreMarkLaws E P eq) (cites : List (CiteRender E P)) where
  -- the mark stands at a cite of the group, whose state goes on to it
  pub record GoesIn (group : List Place) (mark : Mark) : Type 0 where
    pub cite : Member E P
    pub stands_there : member_at cites mark.0 ≡ Some cite
    pub goes_on : GoesOnTo (state_of cite) mark.1
    pub among : Contains (members cites group) cite

  -- at one of an ambiguous group
  pub record GoesFrom (mark : Mark) : Type 0 where
    pub cite : Member E P
    pub stands_there : member_at cites mark.0 ≡ Some cite
    pub goes_on : GoesOnTo (state_of cite) mark.1
    pub group : List Place
    pub is_group : Contains (ambiguous_groups eq cites) group
    pub among : Contains (members cites group) cite

  abbrev pub IsGroup : List Place → Type 0
  IsGroup g = Contains (ambiguous_groups eq cites) g × HaveNoSuffix (members cites g)

  pub are-groups : All IsGroup (ambiguous_groups eq cites)
  are-groups = λ k d w. (All-contains_itself (ambiguous_groups eq cites) k d w, laws.without_suffix cites k d w)

  from-name : (g : List Place) (m : Mark) → IsNameMark cites g m → GoesIn g m
  from-name g m n =
      let own : Member E P = record { place = m.0; item = n.cite.1; style = n.cite.0.style } in
      let there : member_at cites m.0 ≡ Some own = ap (option_map (λ cite. record { place = m.0; item = cite.1; style = cite.0.style })) n.stands_there in
      record { cite = own; stands_there = there; goes_on = n.goes_on; among = in-members cites g m.0 own n.in_group there }

  from-member : (g : List Place) (m : Mark) → IsMarkOf (members cites g) m → GoesIn g m
  from-member g m n = record {
    cite = n.cite;
    stands_there = ap (member_at cites) n.stands_there ∙ All-contains (IsThere cites) (members cites g) n.cite (members-there cites g) n.among;
    goes_on = n.goes_on;
    among = n.among;
  }

  pub names-in : (g : List Place) → IsGroup g → All (GoesIn g) (name_marks cites g)
  names-in g h = All-weaker (IsNameMark cites g) (GoesIn g) (from-name g) (name_marks cites g) (laws.names cites g)

  pub choice-in : (g : List Place) → IsGroup g → All (GoesIn g) (by_choice eq cites g)
  choice-in g h = All-weaker (IsMarkOf (members cites g)) (GoesIn g) (from-member g) (by_choice eq cites g) (laws.choose (members cites g) h.1)

  pub suffixes-in : (dated : Bool) (g : List Place) → IsGroup g → All (GoesIn g) (by_suffix eq cites dated g)
  suffixes-in dated g h = All-weaker (IsMarkOf (members cites g)) (GoesIn g) (from-member g) (by_suffix eq cites dated g) (laws.suffix (members cites g) dated h.1)

  from-in : (g : List Place) → IsGroup g → (ms : List Mark) → All (GoesIn g) ms → All GoesFrom ms
  from-in g h ms all =
      All-weaker (GoesIn g) GoesFrom (λ m i. record { cite = i.cite; stands_there = i.stands_there; goes_on = i.goes_on; group = g; is_group = h.0; among = i.among }) ms all

  names-go : (g : List Place) → IsGroup g → All GoesFrom (name_marks cites g)
  names-go g h = from-in g h (name_marks cites g) (names-in g h)

  choice-goes : (g : List Place) → IsGroup g → All GoesFrom (by_choice eq cites g)
  choice-goes g h = from-in g h (by_choice eq cites g) (choice-in g h)

  suffixes-go : (dated : Bool) (g : List Place) → IsGroup g → All GoesFrom (by_suffix eq cites dated g)
  suffixes-go dated g h = from-in g h (by_suffix eq cites dated g) (suffixes-in dated g h)

  counting-goes : (way : List Place → List Mark) → ((g : List Place) → IsGroup g → All GoesFrom (way g)) → (g : List Place) → IsGroup g → All GoesFrom (counting cites way g)
  counting-goes way h g i = All-filter (counts cites) GoesFrom (way g) (h g i)

  -- so does each mark of a round
  pub marks-go : (mode : RoundMode) (writing : Writing E P) → All GoesFrom (round_marks mode eq writing.answers cites)
  unfolding round_marks
  marks-go RoundMode.Three writing =
      let dated = shows_dates writing.answers cites in
      three-kept IsGroup GoesFrom (name_marks cites) (by_choice eq cites) (by_suffix eq cites dated) names-go choice-goes (suffixes-go dated) (ambiguous_groups eq cites) are-groups
  marks-go RoundMode.Full writing =
      let dated = shows_dates writing.answers cites in
      full-kept IsGroup GoesFrom (counting cites (name_marks cites)) (counting cites (by_choice eq cites)) (counting cites (by_suffix eq cites dated))
      (counting-goes (name_marks cites) names-go) (counting-goes (by_choice eq cites) choice-goes) (counting-goes (by_suffix eq cites dated) (suffixes-go dated))
      (waits eq cites) [] (ambiguous_groups eq cites) are-groups

  pub cites-is : (e : E) (p : Place) (c : Member E P) → member_at cites p ≡ Some c → cites_entry eq cites e p ≡ eq e (entry_of c)
  cites-is e p c found = ap (λ o. option_map_or (λ m. eq e (entry_of m)) o false) found

  -- the marks of an entry
  pub own-marks : (mode : RoundMode) (writing : Writing E P) (e : E)
      → All (λ m. (f : GoesFrom m) × (eq e (entry_of f.cite) ≡ true)) (filter (λ m. cites_entry eq cites e m.0) (round_marks mode eq writing.answers cites))
  own-marks mode writing e =
      All-weaker (λ m. GoesFrom m × (cites_entry eq cites e m.0 ≡ true)) (λ m. (f : GoesFrom m) × (eq e (entry_of f.cite) ≡ true))
      (λ m h. (h.0, sym (cites-is e m.0 h.0.cite h.0.stands_there) ∙ h.1))
      (filter (λ m. cites_entry eq cites e m.0) (round_marks mode eq writing.answers cites))
      (all-passed GoesFrom (λ m. cites_entry eq cites e m.0) (round_marks mode eq writing.answers cites) (marks-go mode writing))

  -- equal entries have the same ones
  cites-alike : (d e : E) → eq d e ≡ true → (p : Place) → cites_entry eq cites d p ≡ cites_entry eq cites e p
  cites-alike d e h p = by (member_at cites p)
    where
      by : (o : Option (Member E P)) → option_map_or (λ m. eq d (entry_of m)) o false ≡ option_map_or (λ m. eq e (entry_of m)) o false
      by None = refl
      by (Some c) = laws.equal.congr d e (entry_of c) h

  pub mark-alike : (marks : List Mark) (d e : E) → eq d e ≡ true → mark_of eq cites marks d ≡ mark_of eq cites marks e
  mark-alike marks d e h = ap (λ ms. greatest_state (map (λ m. m.1) ms)) (filter_agree (λ m. cites_entry eq cites d m.0) (λ m. cites_entry eq cites e m.0) (λ m. cites-alike d e h m.0) marks)

-- the tables, as steps from one to the next
module _ {E P : Type 0} (mode : RoundMode) (eq : E → E → Bool) (writing : Writing E P) (firsts : List (CiteRender E P)) where
  abbrev pub goes_on : StateTable E → Bool
  goes_on t = has_any (marks_at mode eq writing firsts t)

  abbrev pub next : StateTable E → StateTable E
  next t = with_marks (marked_at mode eq writing firsts t) t

  pub tables-are : (n : ℕ) (t : StateTable E) → tables_from mode eq writing firsts n t ≡ run goes_on next n t
  unfolding tables_from
  tables-are n t = by n t
    where
      by : (n : ℕ) (t : StateTable E) → tables_from mode eq writing firsts n t ≡ run goes_on next n t
      by zero t = refl
      by (suc n) t = ap (λ ts. cond (goes_on t) (t ∷ ts) (t ∷ [])) (by n (next t))

  abbrev pub steps : List (StateTable E)
  steps = run goes_on next (most_rounds mode eq firsts) no_states

  pub are-steps : steps ≡ tables mode eq writing firsts
  are-steps = sym (tables-are (most_rounds mode eq firsts) no_states)

  abbrev pub Alike : StateTable E → Type 0
  Alike t = (d e : E) → eq d e ≡ true → t d ≡ t e

  module _ (laws : AreMarkLaws E P eq) (begun : AreBegun firsts) where
    pub member-told : (t : StateTable E) (p : Place) (c : Member E P) → member_at (at_table writing t firsts) p ≡ Some c → state_of c ≡ told_by (t (entry_of c))
    member-told t p c found = item-known (at_table writing t firsts) (IsTold t) p c (rows-told writing t firsts begun) found

    -- to each mark of an entry its state goes on
    pub marks-of : (t : StateTable E) → Alike t → (e : E)
        → All (λ m. GoesOnTo (told_by (t e)) m.1) (filter (λ m. cites_entry eq (at_table writing t firsts) e m.0) (marks_at mode eq writing firsts t))
    marks-of t alike e =
        let cites = at_table writing t firsts in
        All-weaker (λ m. (f : GoesFrom eq laws cites m) × (eq e (entry_of f.cite) ≡ true)) (λ m. GoesOnTo (told_by (t e)) m.1)
        (λ m h. subst (λ s. GoesOnTo s m.1)
        (member-told t m.0 h.0.cite h.0.stands_there ∙ ap (λ o. unwrap_or o DisambiguateState.None) (sym (alike e (entry_of h.0.cite) h.1))) h.0.goes_on)
        (filter (λ m. cites_entry eq cites e m.0) (marks_at mode eq writing firsts t)) (own-marks eq laws cites mode writing e)

    pub state-goes : (t : StateTable E) → Alike t → (e : E) (s : DisambiguateState) → marked_at mode eq writing firsts t e ≡ Some s → GoesOnTo (told_by (t e)) s
    state-goes t alike e s h =
        let own = filter (λ m. cites_entry eq (at_table writing t firsts) e m.0) (marks_at mode eq writing firsts t) in
        greatest-kept (GoesOnTo (told_by (t e))) (map (λ m. m.1) own) (All-map (GoesOnTo (told_by (t e))) (λ m. m.1) own (marks-of t alike e)) s h

    pub goes-next : (t : StateTable E) → Alike t → (e : E) → GoesOnTo (told_by (t e)) (told_by (next t e))
    goes-next t alike e = by (marked_at mode eq writing firsts t e) refl
      where
        by : (o : Option DisambiguateState) → marked_at mode eq writing firsts t e ≡ o → GoesOnTo (told_by (t e)) (unwrap_or (option_or o (t e)) DisambiguateState.None)
        by None h = laws.goes.0 (told_by (t e))
        by (Some s) h = state-goes t alike e s h

    pub alike-next : (t : StateTable E) → Alike t → Alike (next t)
    alike-next t alike d e h =
        ap (λ o. option_or o (t d)) (mark-alike eq laws (at_table writing t firsts) (marks_at mode eq writing firsts t) d e h)
        ∙ ap (option_or (marked_at mode eq writing firsts t e)) (alike d e h)

    pub all-alike : All Alike (tables mode eq writing firsts)
    all-alike = subst (All Alike) are-steps (run-all goes_on next Alike (λ t alike h. alike-next t alike) (most_rounds mode eq firsts) no_states (λ d e h. refl))

    -- no mark is greater than the state that the round leaves
    LosesNone : StateTable E → StateTable E → Type 0
    LosesNone t later = (e : E) → All (λ m. raises (told_by (later e)) m.1 ≡ false) (marks_of_entry mode eq writing firsts t e)

    loses-none : (t : StateTable E) → LosesNone t (next t)
    unfolding LosesNone
    loses-none t e =
        none-greater laws.order.total laws.never_below (t e) (marks_of_entry mode eq writing firsts t e)

    -- an entry keeps its state, or gets that of one of its marks
    KeepsOrIsMarked : StateTable E → StateTable E → Type 0
    KeepsOrIsMarked t later = (e : E) → (later e ≡ t e) ⊎ Any (λ m. later e ≡ Some m.1) (marks_of_entry mode eq writing firsts t e)

    keeps-or-is-marked : (t : StateTable E) → KeepsOrIsMarked t (next t)
    unfolding KeepsOrIsMarked
    keeps-or-is-marked t e = by (marked_at mode eq writing firsts t e) refl
      where
        own : List Mark
        own = marks_of_entry mode eq writing firsts t e

        by : (o : Option DisambiguateState) → marked_at mode eq writing firsts t e ≡ o → (option_or o (t e) ≡ t e) ⊎ Any (λ m. option_or o (t e) ≡ Some m.1) own
        by None h = inl refl
        by (Some s) h = let one = one-of-marks own s h in inr (one.0, one.1, one.2, one.3, ap Some one.4)

    pub states-go-on : StatesGoOn mode eq writing firsts (tables mode eq writing firsts)
    unfolding LosesNone KeepsOrIsMarked
    states-go-on = record {
      alike = all-alike;
      rendered = λ k d w. rows-told writing _ firsts begun;
      on = subst (λ ts. AllAdjacentBelow (λ t later. (e : E) → GoesOnTo (told_by (t e)) (told_by (later e))) ts (length ts)) are-steps
          (run-neighbours goes_on next Alike (λ t alike h. alike-next t alike) (λ t later. (e : E) → GoesOnTo (told_by (t e)) (told_by (later e)))
          (λ t alike h. goes-next t alike) (most_rounds mode eq firsts) no_states (λ d e h. refl));
      no_mark_lost = subst (λ ts. AllAdjacentBelow LosesNone ts (length ts)) are-steps
          (run-neighbours goes_on next Alike (λ t alike h. alike-next t alike) LosesNone (λ t alike h. loses-none t) (most_rounds mode eq firsts) no_states (λ d e h. refl));
      kept_or_marked = subst (λ ts. AllAdjacentBelow KeepsOrIsMarked ts (length ts)) are-steps
          (run-neighbours goes_on next Alike (λ t alike h. alike-next t alike) KeepsOrIsMarked (λ t alike h. keeps-or-is-marked t) (most_rounds mode eq firsts) no_states (λ d e h. refl));
    }
