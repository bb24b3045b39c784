-- Of a group that was given suffixes: no other group of the round gives its entries suffixes too.
use Rattle.std.proofs.Common.{◌≡◌, ◌⊎◌, inl, inr, zero, suc, ◌≤◌, Bool, true, false, cond, List, [], ◌∷◌, ◌++◌, map, refl, ap, sym, subst, ◌∙◌, true≢false, arith}
use Rattle.std.specs.Prelude.{All, Contains}
use Rattle.std.specs.List.{list_any}
use Rattle.std.proofs.lemmas.List.Elements.{All-append, All-contains, All-contains_itself, All-head, All-nil, All-tail, All-weaker, Contains-append_left, Contains-append_right}
use Rattle.rounds_ambiguity.specs.Members.{Member, entry_of, members}
use Rattle.rounds_ambiguity.proofs.Contained.{any-in}
use Rattle.driver_lookup.specs.States.{kind_of}
use Rattle.driver_passes.specs.Renders.{CiteRender, Place}
use Rattle.rounds_runs.specs.RoundMarks.{Mark, MarkedGroups, all_ways, by_full, by_three, cites_entry, has_any, marks_of, waits}
use Rattle.rounds_runs.proofs.GoneOn.{AreMarkLaws, GoesIn, IsGroup, cites-is}
use Rattle.rounds_runs.proofs.Runs.{all-left, all-right}

-- in mode three: all other marks of the round are by names
module _ (n c s : List Place → List Mark) (low : (g : List Place) → All (λ m. kind_of m.1 ≤ 2) (n g)) (group : List Place) (own : List Mark) (one : Mark) (is_own : Contains own one)
    (high : kind_of one.1 ≡ 3) where
  abbrev given : List Place × List Mark
  given = (group, own)

  abbrev Fits : Mark → Type 0
  Fits m = (kind_of m.1 ≤ 2) ⊎ Contains own m

  own-fit : (ms : List Mark) → ms ≡ own → All Fits ms
  own-fit ms same = subst (All Fits) (sym same) (All-weaker (Contains own) Fits (λ m h. inr h) own (All-contains_itself own))

  own-inside : (ms more : List Mark) → ms ≡ own → All (Contains (ms ++ more)) own
  own-inside ms more same =
      All-weaker (Contains own) (Contains (ms ++ more)) (λ m h. Contains-append_left ms more m (subst (λ l. Contains l m) (sym same) h)) own (All-contains_itself own)

  not-empty : [] ≡ own → ⊥
  not-empty same = by (subst (λ l. Contains l one) (sym same) is_own)
    where
      by : Contains [] one → ⊥
      by (k, w, e) = absurd (omega (arith, w))

  names-fit : (gs : List (List Place)) → All Fits (marks_of (map (λ h. (h, n h)) gs))
  names-fit [] = All-nil Fits
  names-fit (g ∷ gs) = All-append Fits (n g) (marks_of (map (λ h. (h, n h)) gs)) (All-weaker (λ m. kind_of m.1 ≤ 2) Fits (λ m h. inl h) (n g) (low g)) (names-fit gs)

  not-by-names : (gs : List (List Place)) → Contains (map (λ h. (h, n h)) gs) given → ⊥
  not-by-names [] (k, w, e) = absurd (omega (arith, w))
  not-by-names (g ∷ gs) (zero, w, e) =
      let same : n g ≡ own = ap (λ p. p.1) e in
      let small : kind_of one.1 ≤ 2 = All-contains (λ m. kind_of m.1 ≤ 2) own one (subst (All (λ m. kind_of m.1 ≤ 2)) same (low g)) is_own in
      absurd (omega (arith, small, high))
  not-by-names (g ∷ gs) (suc k, w, e) = not-by-names gs (k, omega (arith, w), e)

  abbrev Walked : List Mark → Type 0
  Walked marks = All Fits marks × All (Contains marks) own

  pub three-walked : (gs : List (List Place)) → Contains (by_three n c s gs) given → Walked (marks_of (by_three n c s gs))
  three-walked [] (k, w, e) = absurd (omega (arith, w))
  three-walked (g ∷ gs) h = by (has_any ways) h (three-walked gs)
    where
      ways : List Mark
      ways = all_ways n c s g

      rest : MarkedGroups
      rest = map (λ h. (h, n h)) gs

      by : (b : Bool) → Contains (cond b ((g, ways) ∷ rest) ((g, []) ∷ by_three n c s gs)) given
          → (Contains (by_three n c s gs) given → Walked (marks_of (by_three n c s gs))) → Walked (marks_of (cond b ((g, ways) ∷ rest) ((g, []) ∷ by_three n c s gs)))
      by true (zero, w, e) more =
          let same : ways ≡ own = ap (λ p. p.1) e in
          (All-append Fits ways (marks_of rest) (own-fit ways same) (names-fit gs), own-inside ways (marks_of rest) same)
      by true (suc k, w, e) more = absurd (not-by-names gs (k, omega (arith, w), e))
      by false (zero, w, e) more = absurd (not-empty (ap (λ p. p.1) e))
      by false (suc k, w, e) more = more (k, omega (arith, w), e)

-- a suffix is among the marks of the group
pub record IsSuffixed (p : List Place × List Mark) : Type 0 where
  pub one : Mark
  pub is_own : Contains p.1 one
  pub high : kind_of one.1 ≡ 3

-- in mode three one group alone is given suffixes
module _ (n c s : List Place → List Mark) (low : (g : List Place) → All (λ m. kind_of m.1 ≤ 2) (n g)) where
  is-first : (g : List Place) (ways : List Mark) (gs : List (List Place)) (p : List Place × List Mark) → IsSuffixed p → Contains ((g, ways) ∷ map (λ h. (h, n h)) gs) p → g ≡ p.0
  is-first g ways gs p i (zero, w, e) = ap (λ q. q.0) e
  is-first g ways gs p i (suc k, w, e) = absurd (not-by-names n c s low p.0 p.1 i.one i.is_own i.high gs (k, omega (arith, w), e))

  is-later : (g : List Place) (rest : MarkedGroups) (p : List Place × List Mark) → IsSuffixed p → Contains ((g, []) ∷ rest) p → Contains rest p
  is-later g rest p i (zero, w, e) = absurd (not-empty n c s low p.0 p.1 i.one i.is_own i.high (ap (λ q. q.1) e))
  is-later g rest p i (suc k, w, e) = (k, omega (arith, w), e)

  pub one-group : (gs : List (List Place)) (p q : List Place × List Mark) → IsSuffixed p → IsSuffixed q → Contains (by_three n c s gs) p → Contains (by_three n c s gs) q → p.0 ≡ q.0
  one-group [] p q i j (k, w, e) l = absurd (omega (arith, w))
  one-group (g ∷ gs) p q i j h l = by (has_any ways) h l (one-group gs p q i j)
    where
      ways : List Mark
      ways = all_ways n c s g

      marked : Bool → MarkedGroups
      marked b = cond b ((g, ways) ∷ map (λ h. (h, n h)) gs) ((g, []) ∷ by_three n c s gs)

      by : (b : Bool) → Contains (marked b) p → Contains (marked b) q → (Contains (by_three n c s gs) p → Contains (by_three n c s gs) q → p.0 ≡ q.0) → p.0 ≡ q.0
      by true h l more = sym (is-first g ways gs p i h) ∙ is-first g ways gs q j l
      by false h l more = more (is-later g (by_three n c s gs) p i h) (is-later g (by_three n c s gs) q j l)

-- in mode full: all other groups with these entries have no marks
module _ {E P : Type 0} (eq : E → E → Bool) (laws : AreMarkLaws E P eq) (cites : List (CiteRender E P)) (n c s : List Place → List Mark)
    (inside : (g : List Place) → IsGroup eq laws cites g → All (GoesIn eq laws cites g) (all_ways n c s g)) (group : List Place) (own : List Mark) (one : Mark) (is_own : Contains own one) where
  abbrev given_here : List Place × List Mark
  given_here = (group, own)

  -- each of the group's entries has one of the marks
  abbrev pub Covers : Type 0
  Covers = (x : Member E P) → Contains (members cites group) x → (m : Mark) × Contains own m × ((e : E) → eq e (entry_of x) ≡ true → cites_entry eq cites e m.0 ≡ true)

  -- a mark of one of them is one of these
  abbrev pub Keeps : Mark → Type 0
  Keeps m = (x : Member E P) → Contains (members cites group) x → cites_entry eq cites (entry_of x) m.0 ≡ true → Contains own m

  it-waits : (marks : List Mark) (h : List Place) (y : Member E P) (m : Mark) → Contains (members cites h) y → Contains marks m → cites_entry eq cites (entry_of y) m.0 ≡ true → waits eq cites marks h ≡ true
  it-waits marks h y m i j cited =
      any-in (λ c. list_any (λ m. cites_entry eq cites (entry_of c) m.0) marks) (members cites h) y i (any-in (λ m. cites_entry eq cites (entry_of y) m.0) marks m j cited)

  module _ (covers : Covers) where
    behind-keeps : (marks : List Mark) → All (Contains marks) own → (gs : List (List Place)) → All (IsGroup eq laws cites) gs → All Keeps (marks_of (by_full n c s (waits eq cites) marks gs))
    behind-keeps marks there [] all = All-nil Keeps
    behind-keeps marks there (h ∷ hs) all =
        let added : List Mark = cond (waits eq cites marks h) [] (all_ways n c s h) in
        All-append Keeps added (marks_of (by_full n c s (waits eq cites) (marks ++ added) hs)) (by (waits eq cites marks h) refl)
        (behind-keeps (marks ++ added) (All-weaker (Contains marks) (Contains (marks ++ added)) (λ m i. Contains-append_left marks added m i) own there) hs (All-tail (IsGroup eq laws cites) h hs all))
      where
        none : waits eq cites marks h ≡ false → (m : Mark) → GoesIn eq laws cites h m → Keeps m
        none free m g x i cited =
            let cover = covers x i in
            let same : eq (entry_of g.cite) (entry_of x) ≡ true =
            laws.equal.symm (entry_of g.cite) (entry_of x) ∙ sym (cites-is eq laws cites (entry_of x) m.0 g.cite g.stands_there) ∙ cited in
            let waiting : waits eq cites marks h ≡ true =
            it-waits marks h g.cite cover.0 g.among (All-contains (Contains marks) own cover.0 there cover.1) (cover.2 (entry_of g.cite) same) in
            absurd (true≢false (sym waiting ∙ free))

        by : (b : Bool) → waits eq cites marks h ≡ b → All Keeps (cond b [] (all_ways n c s h))
        by true e = All-nil Keeps
        by false e = All-weaker (GoesIn eq laws cites h) Keeps (none e) (all_ways n c s h) (inside h (All-head (IsGroup eq laws cites) h hs all))

    abbrev Walk : List Mark → List Mark → Type 0
    Walk before marks = All Keeps before × All Keeps marks × All (Contains marks) own

    pub full-walked : (marks : List Mark) (gs : List (List Place)) → All (IsGroup eq laws cites) gs → Contains (by_full n c s (waits eq cites) marks gs) given_here
        → Walk marks (marks_of (by_full n c s (waits eq cites) marks gs))
    full-walked marks [] all (k, w, e) = absurd (omega (arith, w))
    full-walked marks (h ∷ hs) all (zero, w, e) = by (waits eq cites marks h) refl (ap (λ p. p.0) e) (ap (λ p. p.1) e)
      where
        rest : List Mark → List Mark
        rest added = marks_of (by_full n c s (waits eq cites) (marks ++ added) hs)

        itself : All Keeps own
        itself = All-weaker (Contains own) Keeps (λ m i x j cited. i) own (All-contains_itself own)

        first : waits eq cites marks h ≡ false → h ≡ group → All Keeps marks
        first free same =
            All-weaker (Contains marks) Keeps
            (λ m i x j cited. absurd (true≢false (sym (it-waits marks h x m (subst (λ g. Contains (members cites g) x) (sym same) j) i cited) ∙ free))) marks (All-contains_itself marks)

        by : (b : Bool) → waits eq cites marks h ≡ b → h ≡ group → cond b [] (all_ways n c s h) ≡ own → Walk marks (cond b [] (all_ways n c s h) ++ rest (cond b [] (all_ways n c s h)))
        by true f place same = absurd (not-there (subst (λ l. Contains l one) (sym same) is_own))
          where
            not-there : Contains [] one → ⊥
            not-there (k, w, e) = absurd (omega (arith, w))
        by false f place same =
            let ways : List Mark = all_ways n c s h in
            let there : All (Contains ways) own = subst (λ l. All (Contains l) own) (sym same) (All-contains_itself own) in (
              first f place,
              All-append Keeps ways (rest ways) (subst (All Keeps) (sym same) itself)
                  (behind-keeps (marks ++ ways) (All-weaker (Contains ways) (Contains (marks ++ ways)) (λ m i. Contains-append_right marks ways m i) own there) hs
                  (All-tail (IsGroup eq laws cites) h hs all)),
              All-weaker (Contains ways) (Contains (ways ++ rest ways)) (λ m i. Contains-append_left ways (rest ways) m i) own there,
            )
    full-walked marks (h ∷ hs) all (suc k, w, e) =
        let added : List Mark = cond (waits eq cites marks h) [] (all_ways n c s h) in
        let later : List Mark = marks_of (by_full n c s (waits eq cites) (marks ++ added) hs) in
        let more = full-walked (marks ++ added) hs (All-tail (IsGroup eq laws cites) h hs all) (k, omega (arith, w), e) in (
          all-left Keeps marks added more.0,
          All-append Keeps added later (all-right Keeps marks added more.0) more.1,
          All-weaker (Contains later) (Contains (added ++ later)) (λ m i. Contains-append_right added later m i) own more.2,
        )
