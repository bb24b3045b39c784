-- Suffixes stay, and in a group that was given them they count its entries.
use Rattle.std.proofs.Common.{◌≡◌, ◌⊎◌, inl, inr, ℕ, ◌+◌, ◌≤◌, Bool, true, false, Option, Some, None, List, [], ◌∷◌, get_or, length, map, filter, refl, ap, sym, subst, ◌∙◌, true≢false, arith}
use Rattle.std.specs.Prelude.{All, AllPairs, Any, Contains, unwrap_or}
use Rattle.std.specs.List.{AllAdjacentBelow, enumerate_from, list_any}
use Rattle.std.specs.Option.{option_or}
use Rattle.std.proofs.lemmas.List.Elements.{All-cons, All-contains, All-contains_itself, All-filter, All-map, All-nil, All-tail, All-weaker}
use Rattle.list_lemmas.proofs.Members.{any-map}
use Rattle.rounds_ambiguity.specs.Ambiguity.{ambiguous_groups}
use Rattle.rounds_ambiguity.specs.MarkLaws.{HaveNoSuffix, SuffixesCountEntries}
use Rattle.rounds_ambiguity.specs.Members.{Member, entry_of, members, state_of}
use Rattle.rounds_ambiguity.specs.SuffixMarks.{first_cites, shows_dates, suffix_among, suffix_marks}
use Rattle.rounds_ambiguity.proofs.Contained.{in-filter, in-map, any-in, some-in}
use Rattle.driver_writers.specs.Writing.{Writing}
use Rattle.driver_entries.specs.Entries.{distinct, is_in}
use Rattle.driver_entries.specs.Laws.{NoTwoEqual}
use Rattle.driver_lookup.specs.GoingOn.{GoesOnTo}
use Rattle.driver_lookup.specs.States.{kind_of, may_get_suffix}
use Rattle.driver_lookup.specs.declared.state.DisambiguateState.{DisambiguateState}
use Rattle.driver_lookup.specs.declared.state.DisambiguateState.TheVariants.{YearSuffix}
use Rattle.rounds_names.specs.NameMarks.{name_marks}
use Rattle.driver_passes.specs.Renders.{CiteRender, Place}
use Rattle.rounds_runs.specs.FirstRenders.{AreBegun}
use Rattle.rounds_runs.specs.RoundMarks.{Mark, all_ways, by_choice, by_suffix, cites_entry, counting, counts, has_any, marks_by_group, or_others, round_marks}
use Rattle.rounds_runs.specs.Rounds.{StateTable, at_table, mark_of, no_states}
use Rattle.rounds_runs.specs.RunLaws.{GetsSuffixInGroup, GetsSuffixes, IsInNoGroup, SuffixesStay, marks_of_entry}
use Rattle.rounds_runs.specs.Tables.{marked_at, most_rounds, tables}
use Rattle.rounds_runs.specs.declared.mode.RoundMode.{RoundMode}
use Rattle.rounds_runs.proofs.GoneOn.{Alike, AreMarkLaws, GoesIn, all-alike, alike-next, are-groups, are-steps, choice-in, cites-is, goes_on, member-told, names-in, next, state-goes, suffixes-in}
use Rattle.rounds_runs.proofs.Greatest.{one-of-marks}
use Rattle.rounds_runs.proofs.Kept.{all-chosen, all-distinct}
use Rattle.rounds_runs.proofs.MarkKinds.{Named, names-named}
use Rattle.rounds_runs.proofs.Numbered.{IsBelow, all-numbered, none-in, numbered-map, top-greatest}
use Rattle.rounds_runs.proofs.Runs.{all-passed, run-neighbours, run-pairs}
use Rattle.rounds_runs.proofs.SuffixGroups.{IsOfGroup, are-ambiguous, marks-of-groups, own-suffixes}
use Rattle.rounds_runs.proofs.SuffixWalk.{IsSuffixed, full-walked, one-group, three-walked}
use Rattle.rounds_runs.proofs.Told.{IsThere, members-there}

-- the laws of counted suffixes
pub record AreSuffixLaws (E P : Type 0) (eq : E → E → Bool) : Type 0 where
  pub count : (cites : List (Member E P)) → SuffixesCountEntries eq cites
  pub all_in : (es : List E) (e : E) → is_in eq e (distinct eq es) ≡ is_in eq e es
  pub once : (es : List E) → NoTwoEqual eq (distinct eq es)

-- a suffix goes on to itself alone
suffix-on : (n : ℕ) (s : DisambiguateState) → GoesOnTo (YearSuffix n) s → s ≡ YearSuffix n
suffix-on n DisambiguateState.None h = absurd (omega (arith, h))
suffix-on n (DisambiguateState.NameDisambiguation forms) h = absurd (omega (arith, h))
suffix-on n DisambiguateState.Choose h = absurd (omega (arith, h))
suffix-on n (DisambiguateState.YearSuffix m) h = ap YearSuffix (sym h)

-- the marks of a group that was given suffixes
module _ {E P : Type 0} (eq : E → E → Bool) (laws : AreMarkLaws E P eq) (more : AreSuffixLaws E P eq) (cites : List (CiteRender E P)) where
  all-in-ways : (n c s : List Place → List Mark) (g : List Place) → All (GoesIn eq laws cites g) (n g) → All (GoesIn eq laws cites g) (c g) → All (GoesIn eq laws cites g) (s g)
      → All (GoesIn eq laws cites g) (all_ways n c s g)
  all-in-ways n c s g hn hc hs =
      all-chosen (GoesIn eq laws cites g) (has_any (n g)) (n g) (or_others (c g) (s g)) hn (all-chosen (GoesIn eq laws cites g) (has_any (c g)) (c g) (s g) hc hs)

  counted : (way : List Place → List Mark) (g : List Place) → All (GoesIn eq laws cites g) (way g) → All (GoesIn eq laws cites g) (counting cites way g)
  counted way g h = All-filter (counts cites) (GoesIn eq laws cites g) (way g) h

  cites-there : (e : E) (c : Member E P) → IsThere cites c → cites_entry eq cites e c.place ≡ eq e (entry_of c)
  cites-there e c there = cites-is eq laws cites e c.place c there

  -- of cites with different entries each has a suffix of its own
  abbrev Tells : List Mark → ℕ × Member E P → Type 0
  Tells marks p = All (λ m. cites_entry eq cites (entry_of p.1) m.0 ≡ true → m.1 ≡ YearSuffix p.0) marks

  tells-all : (k : ℕ) (cs : List (Member E P)) → All (IsThere cites) cs → NoTwoEqual eq (map entry_of cs)
      → All (Tells (map (λ p. (p.1.place, YearSuffix p.0)) (enumerate_from k cs))) (enumerate_from k cs)
  tells-all k [] there once = All-nil (Tells [])
  tells-all k (c ∷ cs) there once =
      All-cons (Tells (first ∷ rest)) (k, c) later
      (All-cons (λ m. cites_entry eq cites (entry_of c) m.0 ≡ true → m.1 ≡ YearSuffix k) first rest (λ h. refl)
      (All-map (λ m. cites_entry eq cites (entry_of c) m.0 ≡ true → m.1 ≡ YearSuffix k) (λ p. (p.1.place, YearSuffix p.0)) later
      (All-weaker Other (λ p. cites_entry eq cites (entry_of c) p.1.place ≡ true → YearSuffix p.0 ≡ YearSuffix k) (λ p o h. absurd (true≢false (sym h ∙ cites-there (entry_of c) p.1 o.1 ∙ o.0))) later
      others)))
      (λ j d w. with-first _ (others j d w) (tells-all (k + 1) cs (All-tail (IsThere cites) c cs there) once.1 j d w))
    where
      later : List (ℕ × Member E P)
      later = enumerate_from (k + 1) cs

      first : Mark
      first = (c.place, YearSuffix k)

      rest : List Mark
      rest = map (λ p. (p.1.place, YearSuffix p.0)) later

      Other : ℕ × Member E P → Type 0
      Other p = (eq (entry_of c) (entry_of p.1) ≡ false) × IsThere cites p.1

      others : All Other later
      others =
          all-numbered (λ d. (eq (entry_of c) (entry_of d) ≡ false) × IsThere cites d) (k + 1) cs
          (λ j d w. (none-in (λ d. eq (entry_of c) (entry_of d)) cs (sym (any-map (eq (entry_of c)) entry_of cs) ∙ once.0) j d w, All-tail (IsThere cites) c cs there j d w))

      with-first : (p : ℕ × Member E P) → Other p → Tells rest p → Tells (first ∷ rest) p
      with-first p o h =
          All-cons (λ m. cites_entry eq cites (entry_of p.1) m.0 ≡ true → m.1 ≡ YearSuffix p.0) first rest
          (λ g. absurd (true≢false (sym g ∙ cites-there (entry_of p.1) c (there 0 c (omega arith)) ∙ laws.equal.symm (entry_of p.1) (entry_of c) ∙ o.0))) h

  module _ (writing : Writing E P) (group : List Place) where
    abbrev ms : List (Member E P)
    ms = members cites group

    abbrev ones : List (Member E P)
    ones = first_cites eq ms

    abbrev own : List Mark
    own = suffix_marks eq ms

    ones-there : All (IsThere cites) ones
    ones-there = all-distinct (IsThere cites) (λ a b. eq (entry_of a) (entry_of b)) ms (members-there cites group)

    ones-in : All (Contains ms) ones
    ones-in = all-distinct (Contains ms) (λ a b. eq (entry_of a) (entry_of b)) ms (All-contains_itself ms)

    first-of : (x : Member E P) → Contains ms x → (d : Member E P) × Contains ones d × (eq (entry_of x) (entry_of d) ≡ true)
    first-of x i =
        some-in (λ d. eq (entry_of x) (entry_of d)) ones
        (sym (any-map (eq (entry_of x)) entry_of ones) ∙ ap (list_any (eq (entry_of x))) (more.count ms).one_each ∙ more.all_in (map entry_of ms) (entry_of x)
        ∙ any-in (eq (entry_of x)) (map entry_of ms) (entry_of x) (in-map entry_of ms x i) (laws.equal.refl (entry_of x)))

    -- an entry that one of the marks is for is cited in the group
    pub cites-it : (e : E) (m : Mark) → Contains own m → cites_entry eq cites e m.0 ≡ true → Any (λ x. eq e (entry_of x) ≡ true) ms
    cites-it e m i cited = All-contains IsCited own m (All-map IsCited (λ x. (x.place, suffix_among eq ms x)) ones (λ k d w. at _ (ones-there k d w) (ones-in k d w))) i cited
      where
        IsCited : Mark → Type 0
        IsCited m = cites_entry eq cites e m.0 ≡ true → Any (λ x. eq e (entry_of x) ≡ true) ms

        at : (x : Member E P) → IsThere cites x → Contains ms x → cites_entry eq cites e x.place ≡ true → Any (λ x. eq e (entry_of x) ≡ true) ms
        at x there inside cited = (inside.0, x, inside.1, inside.2, sym (cites-there e x there) ∙ cited)

    covers : (x : Member E P) → Contains ms x → (m : Mark) × Contains own m × ((e : E) → eq e (entry_of x) ≡ true → cites_entry eq cites e m.0 ≡ true)
    covers x i =
        let d = first-of x i in (
          (d.0.place, suffix_among eq ms d.0),
          in-map (λ m. (m.place, suffix_among eq ms m)) ones d.0 d.1,
          λ e h. cites-there e d.0 (All-contains (IsThere cites) ones d.0 ones-there d.1) ∙ laws.equal.congr e (entry_of x) (entry_of d.0) h ∙ d.2,
        )

    -- each mark of one of its entries is of a lower kind, or one of its suffixes
    abbrev IsKnown : Mark → Type 0
    IsKnown m = (kind_of m.1 ≤ 2) ⊎ Contains own m

    abbrev AreKnown : List Mark → Type 0
    AreKnown marks =
        ((x : Member E P) → Contains ms x → All (λ m. IsKnown m × (cites_entry eq cites (entry_of x) m.0 ≡ true)) (filter (λ m. cites_entry eq cites (entry_of x) m.0) marks)) × All (Contains marks) own

    abbrev given : List Place × List Mark
    given = (group, own)

    known : (mode : RoundMode) (one : Mark) → Contains own one → kind_of one.1 ≡ 3 → Contains (marks_by_group mode eq writing.answers cites) given → AreKnown (round_marks mode eq writing.answers cites)
    unfolding round_marks
    known RoundMode.Three one is_own high h =
        let walked = three-walked (name_marks cites) (by_choice eq cites) (by_suffix eq cites (shows_dates writing.answers cites))
        (λ g. All-weaker (Named cites) (λ m. kind_of m.1 ≤ 2) (λ m k. omega (arith, k)) (name_marks cites g) (names-named cites g)) group own one is_own high (ambiguous_groups eq cites) h in
        (λ x i. all-passed IsKnown (λ m. cites_entry eq cites (entry_of x) m.0) (round_marks RoundMode.Three eq writing.answers cites) walked.0, walked.1)
    known RoundMode.Full one is_own high h =
        let dated = shows_dates writing.answers cites in
        let walked = full-walked eq laws cites (counting cites (name_marks cites)) (counting cites (by_choice eq cites)) (counting cites (by_suffix eq cites dated))
        (λ g i. all-in-ways (counting cites (name_marks cites)) (counting cites (by_choice eq cites)) (counting cites (by_suffix eq cites dated)) g
        (counted (name_marks cites) g (names-in eq laws cites g i)) (counted (by_choice eq cites) g (choice-in eq laws cites g i))
        (counted (by_suffix eq cites dated) g (suffixes-in eq laws cites dated g i)))
        group own one is_own covers [] (ambiguous_groups eq cites) (are-groups eq laws cites) h in (
          λ x i. All-weaker (λ m. ((y : Member E P) → Contains ms y → cites_entry eq cites (entry_of y) m.0 ≡ true → Contains own m) × (cites_entry eq cites (entry_of x) m.0 ≡ true))
              (λ m. IsKnown m × (cites_entry eq cites (entry_of x) m.0 ≡ true)) (λ m k. (inr (k.0 x i k.1), k.1)) (filter (λ m. cites_entry eq cites (entry_of x) m.0) (round_marks RoundMode.Full eq writing.answers cites))
              (all-passed (λ m. (y : Member E P) → Contains ms y → cites_entry eq cites (entry_of y) m.0 ≡ true → Contains own m) (λ m. cites_entry eq cites (entry_of x) m.0) (round_marks RoundMode.Full eq writing.answers cites) walked.1),
          walked.2,
        )

    -- so its distinct entries are marked with them, in order
    module _ (marks : List Mark) (are : AreKnown marks) where
      one-marked : (p : ℕ × Member E P) → Contains ms p.1 → IsThere cites p.1 → Tells own p → Contains own (p.1.place, YearSuffix p.0) → mark_of eq cites marks (entry_of p.1) ≡ Some (YearSuffix p.0)
      one-marked p i there tells inside =
          let its = filter (λ m. cites_entry eq cites (entry_of p.1) m.0) marks in
          top-greatest p.0 (map (λ m. m.1) its)
          (All-map (IsBelow p.0) (λ m. m.1) its
          (All-weaker (λ m. IsKnown m × (cites_entry eq cites (entry_of p.1) m.0 ≡ true)) (λ m. IsBelow p.0 m.1)
          (λ m k. by m k.0 k.1) its (are.0 p.1 i)))
          (in-map (λ m. m.1) its (p.1.place, YearSuffix p.0)
          (in-filter (λ m. cites_entry eq cites (entry_of p.1) m.0) marks (p.1.place, YearSuffix p.0) (All-contains (Contains marks) own (p.1.place, YearSuffix p.0) are.1 inside)
          (cites-there (entry_of p.1) p.1 there ∙ laws.equal.refl (entry_of p.1))))
        where
          by : (m : Mark) → IsKnown m → cites_entry eq cites (entry_of p.1) m.0 ≡ true → IsBelow p.0 m.1
          by m (inl low) h = inl low
          by m (inr o) h = inr (All-contains (λ m. cites_entry eq cites (entry_of p.1) m.0 ≡ true → m.1 ≡ YearSuffix p.0) own m tells o h)

      ones-marked : All (λ p. mark_of eq cites marks (entry_of p.1) ≡ Some (YearSuffix p.0)) (enumerate_from 0 ones)
      ones-marked =
          let marked = map (λ p. (p.1.place, YearSuffix p.0)) (enumerate_from 0 ones) in
          let same : own ≡ marked = (more.count ms).in_order in
          let apart : NoTwoEqual eq (map entry_of ones) = subst (NoTwoEqual eq) (sym (more.count ms).one_each) (more.once (map entry_of ms)) in
          λ k d w.
          let p : ℕ × Member E P = get_or (enumerate_from 0 ones) k d in
          one-marked p (all-numbered (Contains ms) 0 ones ones-in k d w) (all-numbered (IsThere cites) 0 ones ones-there k d w)
          (subst (λ l. Tells l p) (sym same) (tells-all 0 ones ones-there apart k d w))
          (subst (λ l. Contains l (p.1.place, YearSuffix p.0)) (sym same) (in-map (λ p. (p.1.place, YearSuffix p.0)) (enumerate_from 0 ones) p (All-contains_itself (enumerate_from 0 ones) k d w)))

      entries-marked : All (λ p. mark_of eq cites marks p.1 ≡ Some (YearSuffix p.0)) (enumerate_from 0 (distinct eq (map entry_of ms)))
      entries-marked =
          subst (All (λ p. mark_of eq cites marks p.1 ≡ Some (YearSuffix p.0))) (numbered-map entry_of 0 ones ∙ ap (enumerate_from 0) (more.count ms).one_each)
          (All-map (λ p. mark_of eq cites marks p.1 ≡ Some (YearSuffix p.0)) (λ p. (p.0, entry_of p.1)) (enumerate_from 0 ones) ones-marked)

    pub suffixes-in-order : (mode : RoundMode) → Contains (marks_by_group mode eq writing.answers cites) given
        → All (λ p. mark_of eq cites (round_marks mode eq writing.answers cites) p.1 ≡ Some (YearSuffix p.0)) (enumerate_from 0 (distinct eq (map entry_of ms)))
    suffixes-in-order mode h = by ms refl
      where
        by : (l : List (Member E P)) → ms ≡ l → All (λ p. mark_of eq cites (round_marks mode eq writing.answers cites) p.1 ≡ Some (YearSuffix p.0)) (enumerate_from 0 (distinct eq (map entry_of ms)))
        by [] e =
            subst (λ l. All (λ p. mark_of eq cites (round_marks mode eq writing.answers cites) p.1 ≡ Some (YearSuffix p.0)) (enumerate_from 0 (distinct eq (map entry_of l)))) (sym e)
            (All-nil (λ p. mark_of eq cites (round_marks mode eq writing.answers cites) p.1 ≡ Some (YearSuffix p.0)))
        by (x ∷ xs) e =
            let d = first-of x (subst (λ l. Contains l x) (sym e) (0, omega arith, refl)) in
            entries-marked (round_marks mode eq writing.answers cites)
            (known mode (d.0.place, suffix_among eq ms d.0) (in-map (λ m. (m.place, suffix_among eq ms m)) ones d.0 d.1) refl h)

-- in mode three one group is given suffixes
alone : {E P : Type 0} (mode : RoundMode) (eq : E → E → Bool) (writing : Writing E P) (cites : List (CiteRender E P)) → mode ≡ RoundMode.Three → (p q : List Place × List Mark)
    → IsSuffixed p → IsSuffixed q → Contains (marks_by_group mode eq writing.answers cites) p → Contains (marks_by_group mode eq writing.answers cites) q → p.0 ≡ q.0
alone RoundMode.Three eq writing cites three p q i j h l =
    one-group (name_marks cites) (by_choice eq cites) (by_suffix eq cites (shows_dates writing.answers cites))
    (λ g. All-weaker (Named cites) (λ m. kind_of m.1 ≤ 2) (λ m k. omega (arith, k)) (name_marks cites g) (names-named cites g)) (ambiguous_groups eq cites) p q i j h l
alone RoundMode.Full eq writing cites three p q i j h l = cc

module _ {E P : Type 0} (mode : RoundMode) (eq : E → E → Bool) (writing : Writing E P) (firsts : List (CiteRender E P)) (laws : AreMarkLaws E P eq) (more : AreSuffixLaws E P eq) (begun : AreBegun firsts) where
  abbrev at : StateTable E → List (CiteRender E P)
  at t = at_table writing t firsts

  abbrev after : StateTable E → StateTable E
  after t = next mode eq writing firsts t

  abbrev KeepsSuffixes : StateTable E → StateTable E → Type 0
  KeepsSuffixes t later = (e : E) (n : ℕ) → t e ≡ Some (YearSuffix n) → later e ≡ Some (YearSuffix n)

  stay-next : (t : StateTable E) → Alike mode eq writing firsts t → KeepsSuffixes t (after t)
  stay-next t alike e n h = by (marked_at mode eq writing firsts t e) refl
    where
      by : (o : Option DisambiguateState) → marked_at mode eq writing firsts t e ≡ o → option_or o (t e) ≡ Some (YearSuffix n)
      by None f = h
      by (Some s) f =
          ap Some (suffix-on n s (subst (λ o. GoesOnTo (unwrap_or o DisambiguateState.None) s) h (state-goes mode eq writing firsts laws begun t alike e s f)))

  suffixed-apart : (t : StateTable E) → Alike mode eq writing firsts t → (e : E) (n : ℕ) → t e ≡ Some (YearSuffix n) → IsInNoGroup eq (at t) e
  suffixed-apart t alike e n h =
      All-weaker (λ g. HaveNoSuffix (members (at t) g)) (λ g. All (λ m. eq e (entry_of m) ≡ false) (members (at t) g))
      (λ g bare k d w. one _ (members-there (at t) g k d w) (bare k d w)) (ambiguous_groups eq (at t)) (laws.without_suffix (at t))
    where
      one : (m : Member E P) → IsThere (at t) m → may_get_suffix (state_of m) ≡ true → eq e (entry_of m) ≡ false
      one m there bare = by (eq e (entry_of m)) refl
        where
          by : (b : Bool) → eq e (entry_of m) ≡ b → b ≡ false
          by true same =
              let state : state_of m ≡ YearSuffix n =
              member-told mode eq writing firsts laws begun t m.place m there ∙ ap (λ o. unwrap_or o DisambiguateState.None) (sym (alike e (entry_of m) same) ∙ h) in
              absurd (true≢false (sym bare ∙ ap may_get_suffix state))
          by false same = refl

  abbrev InOrder : StateTable E → StateTable E → Type 0
  InOrder t later =
      (group : List Place) → GetsSuffixes mode eq writing firsts t group → All (λ p. later p.1 ≡ Some (YearSuffix p.0)) (enumerate_from 0 (distinct eq (map entry_of (members (at t) group))))

  own-are : (t : StateTable E) (group : List Place) (gets : GetsSuffixes mode eq writing firsts t group) → gets.own ≡ suffix_marks eq (members (at t) group)
  own-are t group gets =
      own-suffixes eq (at t) writing (laws.without_suffix (at t)) mode group gets.own gets.are_own gets.mark gets.one_of_them (ap kind_of gets.is_suffix)

  in-order : (t : StateTable E) → InOrder t (after t)
  in-order t group gets =
      All-weaker (λ p. marked_at mode eq writing firsts t p.1 ≡ Some (YearSuffix p.0)) (λ p. after t p.1 ≡ Some (YearSuffix p.0)) (λ p e. ap (λ o. option_or o (t p.1)) e)
      (enumerate_from 0 (distinct eq (map entry_of (members (at t) group))))
      (suffixes-in-order eq laws more (at t) writing group mode (subst (λ own. Contains (marks_by_group mode eq writing.answers (at t)) (group, own)) (own-are t group gets) gets.are_own))

  -- an entry that gets a suffix gets it in a group
  of-mark : (t : StateTable E) (e : E) (n : ℕ) → Any (λ m. YearSuffix n ≡ m.1) (marks_of_entry mode eq writing firsts t e) → GetsSuffixInGroup mode eq writing firsts t (after t) e
  of-mark t e n one =
      let m = one.1 in
      let all = round_marks mode eq writing.answers (at t) in
      let here : IsOfGroup (marks_by_group mode eq writing.answers (at t)) m × (cites_entry eq (at t) e m.0 ≡ true) =
      All-contains (λ m. IsOfGroup (marks_by_group mode eq writing.answers (at t)) m × (cites_entry eq (at t) e m.0 ≡ true)) (marks_of_entry mode eq writing firsts t e) m
      (all-passed (IsOfGroup (marks_by_group mode eq writing.answers (at t))) (λ m. cites_entry eq (at t) e m.0) all
      (marks-of-groups eq (at t) writing (laws.without_suffix (at t)) mode)) (one.0, one.2, one.3) in
      let gets : GetsSuffixes mode eq writing firsts t here.0.group =
      record { own = here.0.own; are_own = here.0.are_own; mark = m; suffix = n; one_of_them = here.0.one_of_them; is_suffix = sym one.4 } in
      record {
        group = here.0.group;
        is_ambiguous = All-contains (λ p. Contains (ambiguous_groups eq (at t)) p.0) (marks_by_group mode eq writing.answers (at t)) (here.0.group, here.0.own)
            (are-ambiguous eq (at t) writing (laws.without_suffix (at t)) mode) here.0.are_own;
        cites_it = cites-it eq laws more (at t) writing here.0.group e m (subst (λ own. Contains own m) (own-are t here.0.group gets) here.0.one_of_them) here.1;
        gets_suffixes = gets;
        in_order = in-order t here.0.group gets;
      }

  abbrev ByGroup : StateTable E → StateTable E → Type 0
  ByGroup t later = (e : E) (n : ℕ) → later e ≡ Some (YearSuffix n) → (t e ≡ Some (YearSuffix n)) ⊎ GetsSuffixInGroup mode eq writing firsts t later e

  by-group : (t : StateTable E) → ByGroup t (after t)
  by-group t e n h = by (marked_at mode eq writing firsts t e) refl h
    where
      by : (o : Option DisambiguateState) → marked_at mode eq writing firsts t e ≡ o → option_or o (t e) ≡ Some (YearSuffix n)
          → (t e ≡ Some (YearSuffix n)) ⊎ GetsSuffixInGroup mode eq writing firsts t (after t) e
      by None f h = inl h
      by (Some s) f h = inr (of-mark t e n (one-of-marks (marks_of_entry mode eq writing firsts t e) (YearSuffix n) (f ∙ h)))

  abbrev OneGroup : StateTable E → StateTable E → Type 0
  OneGroup t later = (g h : List Place) → GetsSuffixes mode eq writing firsts t g → GetsSuffixes mode eq writing firsts t h → g ≡ h

  suffixed : (t : StateTable E) (g : List Place) (gets : GetsSuffixes mode eq writing firsts t g) → IsSuffixed (g, gets.own)
  suffixed t g gets = record { one = gets.mark; is_own = gets.one_of_them; high = ap kind_of gets.is_suffix }

  one-alone : mode ≡ RoundMode.Three → (t : StateTable E) → OneGroup t (after t)
  one-alone three t g h one other = alone mode eq writing (at t) three (g, one.own) (h, other.own) (suffixed t g one) (suffixed t h other) one.are_own other.are_own

  pub suffixes-stay : SuffixesStay mode eq writing firsts (tables mode eq writing firsts)
  suffixes-stay = record {
    stay = subst (AllPairs KeepsSuffixes) (are-steps mode eq writing firsts)
        (run-pairs (goes_on mode eq writing firsts) after (Alike mode eq writing firsts) (λ t alike go. alike-next mode eq writing firsts laws begun t alike) KeepsSuffixes (λ t e n h. h)
        (λ t later alike go rest e n h. rest e n (stay-next t alike e n h)) (most_rounds mode eq firsts) no_states (λ d e h. refl));
    apart = All-weaker (Alike mode eq writing firsts) (λ t. (e : E) (n : ℕ) → t e ≡ Some (YearSuffix n) → IsInNoGroup eq (at t) e) suffixed-apart (tables mode eq writing firsts)
        (all-alike mode eq writing firsts laws begun);
    in_order = subst (λ ts. AllAdjacentBelow InOrder ts (length ts)) (are-steps mode eq writing firsts)
        (run-neighbours (goes_on mode eq writing firsts) after (Alike mode eq writing firsts) (λ t alike go. alike-next mode eq writing firsts laws begun t alike) InOrder
        (λ t alike go. in-order t) (most_rounds mode eq firsts) no_states (λ d e h. refl));
    by_group = subst (λ ts. AllAdjacentBelow ByGroup ts (length ts)) (are-steps mode eq writing firsts)
        (run-neighbours (goes_on mode eq writing firsts) after (Alike mode eq writing firsts) (λ t alike go. alike-next mode eq writing firsts laws begun t alike) ByGroup
        (λ t alike go. by-group t) (most_rounds mode eq firsts) no_states (λ d e h. refl));
    one_group = λ three. subst (λ ts. AllAdjacentBelow OneGroup ts (length ts)) (are-steps mode eq writing firsts)
        (run-neighbours (goes_on mode eq writing firsts) after (Alike mode eq writing firsts) (λ t alike go. alike-next mode eq writing firsts laws begun t alike) OneGroup
        (λ t alike go. one-alone three t) (most_rounds mode eq firsts) no_states (λ d e h. refl));
  }
