-- Two entries that got their suffixes in one group of one round have different suffixes in the account.
use Rattle.std.proofs.Common.{◌≡◌, ◌⊎◌, inl, inr, ℕ, zero, suc, ◌+◌, ◌-◌, ◌<◌, ◌≤◌, Bool, true, false, ◌||◌, List, [], ◌∷◌, Option, Some, None, length, map, get_or, refl, ap, sym, subst, ◌∙◌, true≢false, arith}
use Rattle.std.specs.Prelude.{◌≢◌, ◌^◌, All, AllPairs, min, option_and_then, option_map, slice_get, slice_index_or}
use Rattle.std.specs.Cmp.{IsEquivalence}
use Rattle.std.specs.List.{AllAdjacentBelow, enumerate_from, list_any}
use Rattle.std.proofs.lemmas.Bool.{or_right}
use Rattle.std.proofs.lemmas.List.Elements.{All-head, All-tail}
use Rattle.std.proofs.lemmas.List.Folds.{Any-from_list_any, list_any-from_Any}
use Rattle.std.proofs.lemmas.Option.{slice_get-get_or, slice_get-map}
use Rattle.std.proofs.lemmas.Simd.{map-map}
use Rattle.rounds_ambiguity.specs.Members.{Member, entry_of, members}
use Rattle.driver_assembly.specs.declared.rendered.Rendered.{Rendered}
use Rattle.driver_writers.specs.Writing.{Writing}
use Rattle.csl_driver.specs.Answer.{Job, rendered_first}
use Rattle.csl_driver.specs.AnswerLaws.{KeepsLaws}
use Rattle.csl_driver.specs.declared.account.Account.{Account}
use Rattle.driver_entries.specs.Entries.{distinct, is_in}
use Rattle.driver_entries.specs.Laws.{NoTwoEqual}
use Rattle.driver_entries.proofs.Distinct.{is_in-distinct}
use Rattle.driver_lookup.specs.States.{year_suffix}
use Rattle.driver_lookup.specs.declared.state.DisambiguateState.{DisambiguateState}
use Rattle.driver_lookup.specs.declared.state.DisambiguateState.TheVariants.{YearSuffix}
use Rattle.driver_passes.specs.Renders.{Place}
use Rattle.rounds_runs.specs.Rounds.{StateTable, no_states, told_by}
use Rattle.rounds_runs.specs.RunLaws.{GetsSuffixInGroup, GetsSuffixes, shown_at}
use Rattle.rounds_runs.specs.Tables.{last_table}
use Rattle.rounds_runs.specs.declared.mode.RoundMode.{RoundMode}
use Rattle.list_lemmas.proofs.Members.{any-map}
use Rattle.test_callers.specs.Clients.{GotLetters, GotSuffix, firsts, table_of_round}

some-inj : {X : Type 0} (x y : X) → Some x ≡ Some y → x ≡ y
some-inj x y h = cc

split : (a b : ℕ) → a ≤ b → (a ≡ b) ⊎ (a < b)
split zero zero h = inl refl
split zero (suc b) h = inr (omega arith)
split (suc a) zero h = absurd (omega (arith, h))
split (suc a) (suc b) h = elim (split a b (omega (arith, h))) [ inl e ↦ inl (ap suc e) | inr l ↦ inr (omega (arith, l)) ]

-- what is known of numbered members is known of the one at a place
at-its-number : {X : Type 0} (Q : ℕ × X → Type 0) (b : ℕ) (xs : List X) (k : ℕ) (x : X) → All Q (enumerate_from b xs) → slice_get xs k ≡ Some x → Q (b + k, x)
at-its-number Q b [] k x h e = cc
at-its-number Q b (y ∷ ys) zero x h e =
    let same : b ≡ b + 0 = omega arith in
    let is : y ≡ x = some-inj y x e in
    subst (λ n. Q (n, x)) same (subst (λ z. Q (b, z)) is (All-head Q (b, y) (enumerate_from (b + 1) ys) h))
at-its-number Q b (y ∷ ys) (suc k) x h e =
    let same : b + 1 + k ≡ b + suc k = omega arith in
    subst (λ n. Q (n, x)) same (at-its-number Q (b + 1) ys k x (All-tail Q (b, y) (enumerate_from (b + 1) ys) h) e)

-- what holds of a table and all later ones holds of it and the last
at-last : {X : Type 0} (R : X → X → Type 0) (xs : List X) (d : X) → AllPairs R xs → ((x : X) → R x x) → (k : ℕ) → k < length xs → R (get_or xs k d) (get_or xs (length xs - 1) d)
at-last R xs d pairs self k within = elim (split k (length xs - 1) (omega (arith, within))) [
  | inl e ↦ subst (λ n. R (get_or xs k d) (get_or xs n d)) e (self (get_or xs k d))
  | inr l ↦ pairs k (length xs - 1) d l (omega (arith, within))
]

-- the first of a list
first-is : {X : Type 0} (xs : List X) (d x : X) → slice_get xs 0 ≡ Some x → get_or xs 0 d ≡ x
first-is [] d x h = cc
first-is (y ∷ ys) d x h = some-inj y x h

has-one : {X : Type 0} (xs : List X) (x : X) → slice_get xs 0 ≡ Some x → 0 < length xs
has-one [] x h = cc
has-one (y ∷ ys) x h = omega arith

-- what the first table hasn't came about from some table to the next
module _ {T : Type 0} (Has : T → Type 0) (Gets : T → T → Type 0) (ts : List T) (d : T) where
  abbrev Came : Type 0
  Came = (j : ℕ) × (j + 1 < length ts) × Gets (get_or ts j d) (get_or ts (j + 1) d)

  came : (Has (get_or ts 0 d) → ⊥) → AllAdjacentBelow (λ t later. Has later → Has t ⊎ Gets t later) ts (length ts) → (k : ℕ) → k < length ts → Has (get_or ts k d) → Came
  came first on zero within h = absurd (first h)
  came first on (suc k) within h =
      let next : suc k ≡ k + 1 = omega arith in
      let inside : k + 1 < length ts = omega (arith, within) in
      by inside (came first on k (omega (arith, within))) (on k d inside (subst (λ j. Has (get_or ts j d)) next h))
    where
      by : k + 1 < length ts → (Has (get_or ts k d) → Came) → Has (get_or ts k d) ⊎ Gets (get_or ts k d) (get_or ts (k + 1) d) → Came
      by inside earlier (inl before) = earlier before
      by inside earlier (inr gets) = (k, inside, gets)

no-state : {s : DisambiguateState} → None ≡ Some s → ⊥
no-state h = cc

-- members at different places aren't equal
module _ {E : Type 0} (eq : E → E → Bool) (equal : IsEquivalence eq) where
  in-list : (p : E → Bool) (xs : List E) (k : ℕ) (x : E) → slice_get xs k ≡ Some x → p x ≡ true → list_any p xs ≡ true
  in-list p [] k x e h = cc
  in-list p (y ∷ ys) zero x e h = ap (λ b. b || list_any p ys) (ap p (some-inj y x e) ∙ h)
  in-list p (y ∷ ys) (suc k) x e h = or_right (p y) (list_any p ys) (in-list p ys k x e h)

  not-behind : (x : E) (xs : List E) (k : ℕ) (y : E) → is_in eq x xs ≡ false → slice_get xs k ≡ Some y → eq x y ≡ true → ⊥
  not-behind x xs k y out e same = true≢false (sym (in-list (eq x) xs k y e same) ∙ out)

  apart : (xs : List E) → NoTwoEqual eq xs → (i j : ℕ) (x y : E) → i ≢ j → slice_get xs i ≡ Some x → slice_get xs j ≡ Some y → eq x y ≡ true → ⊥
  apart [] once i j x y ne e f same = cc
  apart (z ∷ zs) once zero zero x y ne e f same = ne refl
  apart (z ∷ zs) once zero (suc j) x y ne e f same = not-behind z zs j y once.0 f (ap (λ w. eq w y) (some-inj z x e) ∙ same)
  apart (z ∷ zs) once (suc i) zero x y ne e f same = not-behind z zs i x once.0 e (ap (λ w. eq w x) (some-inj z y f) ∙ equal.symm y x ∙ same)
  apart (z ∷ zs) once (suc i) (suc j) x y ne e f same = apart zs once.1 i j x y (λ h. ne (ap suc h)) e f same

-- the suffix of an entry
suffix-told : (o : Option DisambiguateState) (n : ℕ) → year_suffix (told_by o) ≡ Some n → o ≡ Some (YearSuffix n)
suffix-told None n h = cc
suffix-told (Some DisambiguateState.None) n h = cc
suffix-told (Some (DisambiguateState.NameDisambiguation forms)) n h = cc
suffix-told (Some DisambiguateState.Choose) n h = cc
suffix-told (Some (DisambiguateState.YearSuffix m)) n h = ap (λ k. Some (YearSuffix k)) (some-inj m n h)

-- at a place where the suffix of what an entry is told by was read, the entry stands
pub record IsReadOff {E : Type 0} (entries : List E) (table : StateTable E) (place n : ℕ) : Type 0 where
  pub entry : E
  pub is_entry : slice_get entries place ≡ Some entry
  pub state : table entry ≡ Some (YearSuffix n)

read-off : {E : Type 0} (entries : List E) (table : StateTable E) (place n : ℕ) → option_and_then year_suffix (slice_get (map (λ e. told_by (table e)) entries) place) ≡ Some n
    → IsReadOff entries table place n
read-off entries table place n h = by (slice_get entries place) refl (sym (ap (option_and_then year_suffix) (slice_get-map (λ e. told_by (table e)) entries place)) ∙ h)
  where
    by : (o : Option _) → slice_get entries place ≡ o → option_and_then year_suffix (option_map (λ e. told_by (table e)) o) ≡ Some n → IsReadOff entries table place n
    by None e h = cc
    by (Some x) e h = record { entry = x; is_entry = e; state = suffix-told (table x) n h }

-- where one round marked it is the first
only-one : (n : ℕ) → min n (2 ^ 128 - 1) ≡ 1 → n ≡ 1
only-one n h = omega (arith, h)

earliest : (n a b : ℕ) → n - 1 ≡ 1 → a + 1 < n → b + 1 < n → a ≡ b
earliest n a b one low lower = omega (arith, one, low, lower)

module _ {E P : Type 0} (eq : E → E → Bool) (equal : IsEquivalence eq) (payload_eq : P → P → Bool) (writing : Writing E P) (mode : RoundMode) (job : Job E P) (r : Rendered × Account E)
    (laws : KeepsLaws eq payload_eq writing mode job r) where
  abbrev table : ℕ → StateTable E
  table round = table_of_round eq payload_eq writing mode job r laws round

  abbrev entries : List E
  entries = map (λ e. e.now) r.1.entries.items

  abbrev Got : ℕ → Type 0
  Got place = GotSuffix eq payload_eq writing mode job r laws place

  -- an entry that has a suffix in the end got it in a round
  got : (place n : ℕ) (e : E) → slice_get entries place ≡ Some e → last_table laws.tables e ≡ Some (YearSuffix n) → (g : Got place) × (g.entry ≡ e)
  got place n e is h =
      let some : 0 < length laws.tables = has-one laws.tables no_states laws.first_is_empty in
      let way = came (λ t. t e ≡ Some (YearSuffix n)) (λ t later. GetsSuffixInGroup mode eq writing (firsts eq payload_eq writing mode job r laws) t later e) laws.tables no_states
      (λ first. no-state (sym (ap (λ (t : StateTable E). t e) (first-is laws.tables no_states no_states laws.first_is_empty)) ∙ first))
      (λ k d w. laws.rounds.stay.by_group k d w e n) (length laws.tables - 1) (omega (arith, some)) h in
      (record { entry = e; is_entry = is; round = way.0; marked = way.1; in_group = way.2 }, refl)

  -- where a suffix was read its entry got it in a round, and has it in the end
  pub record IsRead (place n : ℕ) : Type 0 where
    pub got_it : Got place
    pub in_the_end : last_table laws.tables got_it.entry ≡ Some (YearSuffix n)

  pub is-read : (place n : ℕ) → option_and_then year_suffix (slice_get r.1.states.items place) ≡ Some n → IsRead place n
  is-read place n h =
      let told : r.1.states.items ≡ map (λ e. told_by (last_table laws.tables e)) entries =
      laws.last_is_told ∙ sym (map-map (λ e. told_by (last_table laws.tables e)) (λ e. e.now) r.1.entries.items) in
      let off = read-off entries (last_table laws.tables) place n (sym (ap (λ l. option_and_then year_suffix (slice_get l place)) told) ∙ h) in
      let one = got place n off.entry off.is_entry off.state in
      record { got_it = one.0; in_the_end = ap (last_table laws.tables) one.1 ∙ off.state }

  -- the distinct entries of a group at the table of a round
  abbrev entries_of : ℕ → List Place → List E
  entries_of round group = distinct eq (map entry_of (members (shown_at mode eq writing (firsts eq payload_eq writing mode job r laws) (table round)) group))

  -- the suffix in the end is the place among them
  pub record IsPlaced (place : ℕ) (got : Got place) : Type 0 where
    pub at : ℕ
    pub alike : E
    pub there : slice_get (entries_of got.round got.in_group.group) at ≡ Some alike
    pub same : eq got.entry alike ≡ true
    pub suffix : last_table laws.tables got.entry ≡ Some (YearSuffix at)

  is-placed : (place : ℕ) (got : Got place) → IsPlaced place got
  is-placed place got =
      let group = got.in_group.group in
      let cites : List (Member E P) = members (shown_at mode eq writing (firsts eq payload_eq writing mode job r laws) (table got.round)) group in
      let cited : is_in eq got.entry (map entry_of cites) ≡ true = any-map (eq got.entry) entry_of cites ∙ list_any-from_Any (λ m. eq got.entry (entry_of m)) cites got.in_group.cites_it in
      let one = Any-from_list_any (eq got.entry) (entries_of got.round group) (is_in-distinct eq equal got.entry (map entry_of cites) ∙ cited) in
      let there : slice_get (entries_of got.round group) one.0 ≡ Some one.1 = slice_get-get_or (entries_of got.round group) one.0 one.1 one.2 ∙ ap Some one.3 in
      let given : table (got.round + 1) one.1 ≡ Some (YearSuffix (0 + one.0)) =
      at-its-number (λ p. table (got.round + 1) p.1 ≡ Some (YearSuffix p.0)) 0 (entries_of got.round group) one.0 one.1 got.in_group.in_order there in
      let number : 0 + one.0 ≡ one.0 = omega arith in
      let next : table (got.round + 1) got.entry ≡ Some (YearSuffix one.0) =
      laws.rounds.go_on.alike (got.round + 1) no_states got.marked got.entry one.1 one.4 ∙ given ∙ ap (λ n. Some (YearSuffix n)) number in
      record {
        at = one.0;
        alike = one.1;
        there = there;
        same = one.4;
        suffix = at-last (λ t later. (e : E) (n : ℕ) → t e ≡ Some (YearSuffix n) → later e ≡ Some (YearSuffix n)) laws.tables no_states laws.rounds.stay.stay (λ t e n h. h)
            (got.round + 1) got.marked got.entry one.0 next;
      }

  same-suffix : (e : E) (m n : ℕ) → last_table laws.tables e ≡ Some (YearSuffix m) → last_table laws.tables e ≡ Some (YearSuffix n) → m ≡ n
  same-suffix e m n h g = some-inj m n (ap (option_and_then year_suffix) (sym h ∙ g))

  -- so two suffixes that were read are different, where one group got them in one round
  pub suffixes-differ : (first second m n : ℕ) (one : IsRead first m) (other : IsRead second n) → first ≢ second → one.got_it.round ≡ other.got_it.round
      → one.got_it.in_group.group ≡ other.got_it.in_group.group → m ≢ n
  suffixes-differ first second m n one other ne same_round same_group same =
      let e : E = one.got_it.entry in
      let f : E = other.got_it.entry in
      let p = is-placed first one.got_it in
      let q = is-placed second other.got_it in
      let places : p.at ≡ q.at = same-suffix e p.at m p.suffix one.in_the_end ∙ same ∙ same-suffix f n q.at other.in_the_end q.suffix in
      let alike : p.alike ≡ q.alike = some-inj p.alike q.alike (sym p.there ∙ (λ i. slice_get (entries_of (same_round i) (same_group i)) (places i)) ∙ q.there) in
      let both : eq e f ≡ true = equal.congr e q.alike f (ap (eq e) (sym alike) ∙ p.same) ∙ equal.symm q.alike f ∙ q.same in
      apart eq equal entries laws.numbers.apart first second e f ne one.got_it.is_entry other.got_it.is_entry both

  -- in mode three those of one round are of one group; so where one round marked all letters differ
  pub letters-differ : mode ≡ RoundMode.Three → r.1.rounds ≡ 1 → (first second : ℕ) (letters others : List ℕ) → first ≢ second
      → GotLetters eq payload_eq writing mode job r laws first second letters others → letters ≢ others
  letters-differ three rounds first second letters others ne both =
      let one = both.one in
      let other = both.other in
      let marking : length laws.tables - 1 ≡ 1 = only-one (length laws.tables - 1) (sym laws.one_for_each_round ∙ rounds) in
      let same_round : one.round ≡ other.round = earliest (length laws.tables) one.round other.round marking one.marked other.marked in
      let same_group : one.in_group.group ≡ other.in_group.group =
      laws.rounds.stay.one_group three one.round no_states one.marked one.in_group.group other.in_group.group one.in_group.gets_suffixes
      (subst (λ k. GetsSuffixes mode eq writing (firsts eq payload_eq writing mode job r laws) (table k) other.in_group.group) (sym same_round) other.in_group.gets_suffixes) in
      both.differ ne same_round same_group
