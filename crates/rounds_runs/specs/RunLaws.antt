-- Laws of the whole run: what holds of its tables of states, from the first to the last.
use Rattle.std.specs.Prelude.{◌≡◌, ◌⊎◌, ℕ, ◌+◌, ◌-◌, ◌*◌, ◌<◌, ◌≤◌, ⊤, All, AllPairs, Any, Bool, true, false, Contains, List, [], ◌∷◌, None, Some, filter, flat_map, length, map, take}
use Rattle.std.specs.List.{AllAdjacentBelow, enumerate_from}
use Rattle.rounds_ambiguity.specs.Ambiguity.{ambiguous_groups}
use Rattle.rounds_ambiguity.specs.MarkLaws.{AreAmbiguous}
use Rattle.rounds_ambiguity.specs.Members.{Member, entry_of, members}
use Rattle.rounds_ambiguity.specs.SuffixMarks.{adds_suffix, shows_dates}
use Rattle.driver_writers.specs.Writing.{Writing}
use Rattle.driver_entries.specs.Entries.{distinct}
use Rattle.driver_lookup.specs.GoingOn.{GoesOnTo, rank}
use Rattle.driver_lookup.specs.declared.state.DisambiguateState.TheVariants.{YearSuffix}
use Rattle.driver_passes.specs.Renders.{CiteRender, Place}
use Rattle.rounds_runs.specs.RoundMarks.{CannotBeMarked, Mark, cites_entry, has_any, marks_by_group, raises, ways}
use Rattle.rounds_runs.specs.Rounds.{StateTable, at_table, entries_cited, told_by}
use Rattle.rounds_runs.specs.Tables.{last_table, marks_at, most_forms}
use Rattle.rounds_runs.specs.declared.mode.RoundMode.{RoundMode}

-- where so many rounds marked, they came to an end by themselves: in mode three fewer than three,
-- in mode full any number
abbrev pub Ended : RoundMode → ℕ → Type 0
Ended RoundMode.Three marked = marked < 3
Ended RoundMode.Full marked = ⊤

-- no cite of an ambiguous group cites an entry equal to e
abbrev pub IsInNoGroup : {E P : Type 0} → (E → E → Bool) → List (CiteRender E P) → E → Type 0
IsInNoGroup eq cites e =
    All (λ group. All (λ m. eq e (entry_of m) ≡ false) (members cites group))
    (ambiguous_groups eq cites)

module _ {E P : Type 0} (mode : RoundMode) (eq : E → E → Bool) (writing : Writing E P)
    (firsts : List (CiteRender E P)) where
  -- the cites as they stand at a table
  abbrev pub shown_at : StateTable E → List (CiteRender E P)
  shown_at table = at_table writing table firsts

  -- the rank of an entry at a table
  abbrev pub rank_at : StateTable E → E → ℕ
  rank_at table e = rank (most_forms firsts) (told_by (table e))

  -- the marks that an entry gets in the round that begins with a table
  abbrev pub marks_of_entry : StateTable E → E → List Mark
  marks_of_entry table e =
      filter (λ m. cites_entry eq (shown_at table) e m.0) (marks_at mode eq writing firsts table)

  -- in that round the group gets marks of which one is a suffix
  pub record GetsSuffixes (table : StateTable E) (group : List Place) : Type 0 where
    pub own : List Mark
    pub are_own : Contains (marks_by_group mode eq writing.answers (shown_at table)) (group, own)
    pub mark : Mark
    pub suffix : ℕ
    pub one_of_them : Contains own mark
    pub is_suffix : mark.1 ≡ YearSuffix suffix

  -- the distinct entries that the group cites have the suffixes 0, 1, 2 and on, by their first
  -- cites in it
  abbrev pub HasSuffixesInOrder : StateTable E → StateTable E → List Place → Type 0
  HasSuffixesInOrder table next group =
      let entries = distinct eq (map entry_of (members (shown_at table) group)) in
      All (λ p. next p.1 ≡ Some (YearSuffix p.0)) (enumerate_from 0 entries)

  -- an ambiguous group that cites the entry gets suffixes, and has them in order in the next table
  pub record GetsSuffixInGroup (table next : StateTable E) (e : E) : Type 0 where
    pub group : List Place
    pub is_ambiguous : Contains (ambiguous_groups eq (shown_at table)) group
    pub cites_it : Any (λ m. eq e (entry_of m) ≡ true) (members (shown_at table) group)
    pub gets_suffixes : GetsSuffixes table group
    pub in_order : HasSuffixesInOrder table next group

  module _ (tables : List (StateTable E)) where
    -- it holds of each table and the next one
    abbrev pub OfEachAndTheNext : (StateTable E → StateTable E → Type 0) → Type 0
    OfEachAndTheNext R = AllAdjacentBelow R tables (length tables)

    -- states go on
    pub record StatesGoOn : Type 0 where
      -- in each table equal entries have one state
      pub alike : All (λ t. (d e : E) → eq d e ≡ true → t d ≡ t e) tables
      -- at each table each cite is rendered with the state of its entry
      pub rendered : All (λ t.
          All (λ i. i.properties.speculative.disambiguation ≡ told_by (t i.entry))
          (flat_map (λ c. c.items) (shown_at t))) tables
      -- from each table to the next the state of each entry goes on
      pub on : OfEachAndTheNext (λ t next. (e : E) → GoesOnTo (told_by (t e)) (told_by (next e)))
      -- no mark of a round is greater than the state that the round leaves
      pub no_mark_lost : OfEachAndTheNext
          (λ t next. (e : E) → All (λ m. raises (told_by (next e)) m.1 ≡ false)
          (marks_of_entry t e))
      -- from each table to the next an entry keeps its state, or gets that of one of its marks
      pub kept_or_marked : OfEachAndTheNext
          (λ t next. (e : E) → (next e ≡ t e) ⊎ Any (λ m. next e ≡ Some m.1) (marks_of_entry t e))

    -- the rounds that are counted are rounds that mark
    pub record RoundsMark : Type 0 where
      -- from each table to the next leads a round that has a mark
      pub each_marks : OfEachAndTheNext
          (λ t next. has_any (marks_at mode eq writing firsts t) ≡ true)
      -- in mode three these are three at most
      pub three_at_most : mode ≡ RoundMode.Three → length tables - 1 ≤ 3

    -- suffixes stay
    pub record SuffixesStay : Type 0 where
      -- an entry with a suffix has it in all later tables
      pub stay : AllPairs (λ t later. (e : E) (n : ℕ)
          → t e ≡ Some (YearSuffix n) → later e ≡ Some (YearSuffix n)) tables
      -- and is in no ambiguous group
      pub apart : All (λ t. (e : E) (n : ℕ)
          → t e ≡ Some (YearSuffix n) → IsInNoGroup eq (shown_at t) e) tables
      -- a group that gets suffixes has them in order in the next table
      pub in_order : OfEachAndTheNext
          (λ t next. (group : List Place) → GetsSuffixes t group → HasSuffixesInOrder t next group)
      -- an entry with a suffix had it in the table before, or gets it in a group
      pub by_group : OfEachAndTheNext
          (λ t next. (e : E) (n : ℕ) → next e ≡ Some (YearSuffix n)
          → (t e ≡ Some (YearSuffix n)) ⊎ GetsSuffixInGroup t next e)
      -- in mode three one group of a round gets suffixes
      pub one_group : mode ≡ RoundMode.Three → OfEachAndTheNext
          (λ t next. (g h : List Place) → GetsSuffixes t g → GetsSuffixes t h → g ≡ h)

    -- the cites as they stand in the end
    abbrev pub last_shown : List (CiteRender E P)
    last_shown = shown_at (last_table tables)

    -- only the ambiguous are marked, and nothing is left, where so many rounds marked
    pub record NothingLeft (marked : ℕ) : Type 0 where
      -- an entry that is in no ambiguous group of a table but the last has no state in the last one
      pub only_ambiguous : (e : E)
          → All (λ t. IsInNoGroup eq (shown_at t) e) (take (length tables - 1) tables)
          → last_table tables e ≡ None
      -- where the rounds came to an end, no ambiguous group can be marked
      pub none_left : Ended mode marked
          → All (CannotBeMarked (ways eq last_shown (shows_dates writing.answers last_shown) mode))
          (ambiguous_groups eq last_shown)
      -- and where dates are shown, two ambiguous cites are of styles that add no suffixes
      pub told_apart : Ended mode marked → shows_dates writing.answers last_shown ≡ true
          → (a b : Member E P) → AreAmbiguous eq last_shown a b → adds_suffix (a ∷ b ∷ []) ≡ false

    -- ranks rise, and so the rounds that mark have a bound
    pub record RanksRise : Type 0 where
      -- from each table to the next no entry's rank falls
      pub none_falls : OfEachAndTheNext (λ t next. (e : E) → rank_at t e ≤ rank_at next e)
      -- and that of some cited entry rises
      pub one_rises : OfEachAndTheNext
          (λ t next. Any (λ e. rank_at t e < rank_at next e) (entries_cited firsts))
      -- of n distinct entries, where no first name has more than F forms, at most n times 3F + 3
      -- rounds mark
      pub bound : length tables - 1
          ≤ length (distinct eq (entries_cited firsts)) * (3 * most_forms firsts + 3)

    -- all of these; ranks are those of mode full
    pub record IsLawful (marked : ℕ) : Type 0 where
      pub go_on : StatesGoOn
      pub marks : RoundsMark
      pub stay : SuffixesStay
      pub left : NothingLeft marked
      pub ranks : mode ≡ RoundMode.Full → RanksRise
