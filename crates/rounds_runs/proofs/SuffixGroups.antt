-- A group that gets a suffix gets its suffix marks, and no others.
use Rattle.std.proofs.Common.{◌≡◌, ◌⊎◌, inl, inr, ◌≤◌, Bool, true, false, cond, ◌&&◌, List, [], ◌∷◌, ◌++◌, map, filter, refl, ap, sym, subst, ◌∙◌, arith}
use Rattle.std.specs.Prelude.{All, Contains}
use Rattle.std.proofs.lemmas.List.Elements.{All-append, All-cons, All-contains, All-contains_itself, All-filter, All-head, All-map, All-nil, All-tail, All-weaker}
use Rattle.rounds_ambiguity.specs.Ambiguity.{ambiguous_groups}
use Rattle.rounds_ambiguity.specs.MarkLaws.{GroupsHaveNoSuffix, HaveNoSuffix}
use Rattle.rounds_ambiguity.specs.Members.{members}
use Rattle.rounds_ambiguity.specs.SuffixMarks.{adds_suffix, shows_dates, suffix_marks}
use Rattle.driver_writers.specs.Writing.{Writing}
use Rattle.driver_lookup.specs.States.{kind_of}
use Rattle.rounds_names.specs.NameMarks.{name_marks}
use Rattle.driver_passes.specs.Renders.{CiteRender, Place}
use Rattle.rounds_runs.specs.RoundMarks.{Mark, MarkedGroups, all_ways, by_choice, by_full, by_suffix, by_three, counting, counts, has_any, marks_by_group, marks_of, or_others, round_marks, waits}
use Rattle.rounds_runs.specs.declared.mode.RoundMode.{RoundMode}
use Rattle.rounds_runs.proofs.Left.{suffixes-count}
use Rattle.rounds_runs.proofs.MarkKinds.{Chosen, Named, by-choice, names-named}

abbrev IsLow : Mark → Type 0
IsLow m = kind_of m.1 ≤ 2

not-in-none : {X : Type 0} (x : X) → Contains [] x → ⊥
not-in-none x (k, w, e) = absurd (omega (arith, w))

all-pass : {X : Type 0} (q : X → Bool) (xs : List X) → All (λ x. q x ≡ true) xs → filter q xs ≡ xs
all-pass q [] h = refl
all-pass q (x ∷ xs) h =
    ap (λ b. cond b (x ∷ filter q xs) (filter q xs)) (All-head (λ x. q x ≡ true) x xs h) ∙ ap (λ ys. x ∷ ys) (all-pass q xs (All-tail (λ x. q x ≡ true) x xs h))

-- a mark that one of these groups gets
pub record IsOfGroup (groups : MarkedGroups) (m : Mark) : Type 0 where
  pub group : List Place
  pub own : List Mark
  pub are_own : Contains groups (group, own)
  pub one_of_them : Contains own m

pub of-groups : (groups : MarkedGroups) → All (IsOfGroup groups) (marks_of groups)
of-groups groups = by groups (All-contains_itself groups)
  where
    by : (gs : MarkedGroups) → All (Contains groups) gs → All (IsOfGroup groups) (marks_of gs)
    by [] h = All-nil (IsOfGroup groups)
    by (g ∷ gs) h =
        All-append (IsOfGroup groups) g.1 (marks_of gs)
        (All-weaker (Contains g.1) (IsOfGroup groups) (λ m c. record { group = g.0; own = g.1; are_own = All-head (Contains groups) g gs h; one_of_them = c }) g.1 (All-contains_itself g.1))
        (by gs (All-tail (Contains groups) g gs h))

-- the marks of each group are those that it gets in some way
module _ (n c s : List Place → List Mark) where
  abbrev pub InSomeWay : List Place → List Mark → Type 0
  InSomeWay g own = (own ≡ []) ⊎ ((own ≡ n g) ⊎ (own ≡ all_ways n c s g))

  -- a group of these, with its marks
  abbrev pub IsMarked : (List Place → Type 0) → List Place × List Mark → Type 0
  IsMarked G p = G p.0 × InSomeWay p.0 p.1

  pub three-marked : (G : List Place → Type 0) (gs : List (List Place)) → All G gs → All (IsMarked G) (by_three n c s gs)
  three-marked G [] all = All-nil (IsMarked G)
  three-marked G (g ∷ gs) all = by (has_any (all_ways n c s g)) (three-marked G gs (All-tail G g gs all))
    where
      first : (own : List Mark) → InSomeWay g own → IsMarked G (g, own)
      first own h = (All-head G g gs all, h)

      names : All (IsMarked G) (map (λ h. (h, n h)) gs)
      names = All-map (IsMarked G) (λ h. (h, n h)) gs (All-weaker G (λ h. IsMarked G (h, n h)) (λ h i. (i, inr (inl refl))) gs (All-tail G g gs all))

      by : (b : Bool) → All (IsMarked G) (by_three n c s gs) → All (IsMarked G) (cond b ((g, all_ways n c s g) ∷ map (λ h. (h, n h)) gs) ((g, []) ∷ by_three n c s gs))
      by true more = All-cons (IsMarked G) (g, all_ways n c s g) (map (λ h. (h, n h)) gs) (first (all_ways n c s g) (inr (inr refl))) names
      by false more = All-cons (IsMarked G) (g, []) (by_three n c s gs) (first [] (inl refl)) more

  pub full-marked : (G : List Place → Type 0) (w : List Mark → List Place → Bool) (marks : List Mark) (gs : List (List Place)) → All G gs → All (IsMarked G) (by_full n c s w marks gs)
  full-marked G w marks [] all = All-nil (IsMarked G)
  full-marked G w marks (g ∷ gs) all =
      let own : List Mark = cond (w marks g) [] (all_ways n c s g) in
      All-cons (IsMarked G) (g, own) (by_full n c s w (marks ++ own) gs) (All-head G g gs all, by (w marks g)) (full-marked G w (marks ++ own) gs (All-tail G g gs all))
    where
      by : (b : Bool) → InSomeWay g (cond b [] (all_ways n c s g))
      by true = inl refl
      by false = inr (inr refl)

  -- with a suffix among them they are those by suffix
  pub by-suffix-alone : (g : List Place) → All IsLow (n g) → All IsLow (c g) → (own : List Mark) → InSomeWay g own → (one : Mark) → Contains own one → kind_of one.1 ≡ 3 → own ≡ s g
  by-suffix-alone g names choice own h one is_own high = by h
    where
      not-low : (ms : List Mark) → All IsLow ms → own ≡ ms → ⊥
      not-low ms low same =
          let small : kind_of one.1 ≤ 2 = All-contains IsLow ms one low (subst (λ l. Contains l one) same is_own) in
          absurd (omega (arith, small, high))

      in_choice : (b : Bool) → own ≡ cond b (c g) (s g) → own ≡ s g
      in_choice true e = absurd (not-low (c g) choice e)
      in_choice false e = e

      in_names : (b : Bool) → own ≡ cond b (n g) (or_others (c g) (s g)) → own ≡ s g
      in_names true e = absurd (not-low (n g) names e)
      in_names false e = in_choice (has_any (c g)) e

      by : InSomeWay g own → own ≡ s g
      by (inl e) = absurd (not-in-none one (subst (λ l. Contains l one) e is_own))
      by (inr (inl e)) = absurd (not-low (n g) names e)
      by (inr (inr e)) = in_names (has_any (n g)) e

module _ {E P : Type 0} (eq : E → E → Bool) (cites : List (CiteRender E P)) (writing : Writing E P) (bare : GroupsHaveNoSuffix eq cites) where
  abbrev dated : Bool
  dated = shows_dates writing.answers cites

  names-low : (g : List Place) → All IsLow (name_marks cites g)
  names-low g = All-weaker (Named cites) IsLow (λ m h. omega (arith, h)) (name_marks cites g) (names-named cites g)

  choice-low : (g : List Place) → All IsLow (by_choice eq cites g)
  choice-low g = All-weaker (Chosen cites eq) IsLow (λ m h. subst (λ s. kind_of s ≤ 2) (sym h) (omega arith)) (by_choice eq cites g) (by-choice cites eq g)

  counting-low : (ms : List Mark) → All IsLow ms → All IsLow (filter (counts cites) ms)
  counting-low ms h = All-filter (counts cites) IsLow ms h

  -- those by suffix are the suffix marks, where there are any
  all-suffixes : (g : List Place) (one : Mark) → Contains (by_suffix eq cites dated g) one → by_suffix eq cites dated g ≡ suffix_marks eq (members cites g)
  all-suffixes g one h = by (dated && adds_suffix (members cites g)) h
    where
      by : (b : Bool) → Contains (cond b (suffix_marks eq (members cites g)) []) one → cond b (suffix_marks eq (members cites g)) [] ≡ suffix_marks eq (members cites g)
      by true i = refl
      by false i = absurd (not-in-none one i)

  abbrev IsOne : List Place → Type 0
  IsOne g = Contains (ambiguous_groups eq cites) g

  -- the groups that get marks are ambiguous
  pub are-ambiguous : (mode : RoundMode) → All (λ p. IsOne p.0) (marks_by_group mode eq writing.answers cites)
  are-ambiguous RoundMode.Three =
      let n = name_marks cites in
      let c = by_choice eq cites in
      let s = by_suffix eq cites dated in
      All-weaker (IsMarked n c s IsOne) (λ p. IsOne p.0) (λ p h. h.0) (by_three n c s (ambiguous_groups eq cites))
      (three-marked n c s IsOne (ambiguous_groups eq cites) (All-contains_itself (ambiguous_groups eq cites)))
  are-ambiguous RoundMode.Full =
      let n = counting cites (name_marks cites) in
      let c = counting cites (by_choice eq cites) in
      let s = counting cites (by_suffix eq cites dated) in
      All-weaker (IsMarked n c s IsOne) (λ p. IsOne p.0) (λ p h. h.0) (by_full n c s (waits eq cites) [] (ambiguous_groups eq cites))
      (full-marked n c s IsOne (waits eq cites) [] (ambiguous_groups eq cites) (All-contains_itself (ambiguous_groups eq cites)))

  -- each mark of a round is one that such a group gets
  pub marks-of-groups : (mode : RoundMode) → All (IsOfGroup (marks_by_group mode eq writing.answers cites)) (round_marks mode eq writing.answers cites)
  unfolding round_marks
  marks-of-groups mode = of-groups (marks_by_group mode eq writing.answers cites)

  pub own-suffixes : (mode : RoundMode) (group : List Place) (own : List Mark) → Contains (marks_by_group mode eq writing.answers cites) (group, own) → (one : Mark) → Contains own one → kind_of one.1 ≡ 3
      → own ≡ suffix_marks eq (members cites group)
  own-suffixes RoundMode.Three group own given one is_own high =
      let n = name_marks cites in
      let c = by_choice eq cites in
      let s = by_suffix eq cites dated in
      let marked = All-contains (IsMarked n c s IsOne) (by_three n c s (ambiguous_groups eq cites)) (group, own) (three-marked n c s IsOne (ambiguous_groups eq cites) (All-contains_itself (ambiguous_groups eq cites))) given in
      let same : own ≡ s group = by-suffix-alone n c s group (names-low group) (choice-low group) own marked.1 one is_own high in
      same ∙ all-suffixes group one (subst (λ l. Contains l one) same is_own)
  own-suffixes RoundMode.Full group own given one is_own high =
      let n = counting cites (name_marks cites) in
      let c = counting cites (by_choice eq cites) in
      let s = counting cites (by_suffix eq cites dated) in
      let marked = All-contains (IsMarked n c s IsOne) (by_full n c s (waits eq cites) [] (ambiguous_groups eq cites)) (group, own)
      (full-marked n c s IsOne (waits eq cites) [] (ambiguous_groups eq cites) (All-contains_itself (ambiguous_groups eq cites))) given in
      let same : own ≡ s group =
      by-suffix-alone n c s group (counting-low (name_marks cites group) (names-low group)) (counting-low (by_choice eq cites group) (choice-low group)) own marked.1 one is_own high in
      let all : s group ≡ by_suffix eq cites dated group =
      all-pass (counts cites) (by_suffix eq cites dated group) (suffixes-count eq writing cites dated group (All-contains (λ g. HaveNoSuffix (members cites g)) (ambiguous_groups eq cites) group bare marked.0)) in
      same ∙ all ∙ all-suffixes group one (subst (λ l. Contains l one) (same ∙ all) is_own)
