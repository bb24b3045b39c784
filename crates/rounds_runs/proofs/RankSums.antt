-- A round of mode full that marks makes the sum of ranks greater, and this has a bound.
use Rattle.std.proofs.Common.{◌≡◌, ℕ, ◌+◌, ◌*◌, ◌<◌, ◌≤◌, Bool, true, false, cond, ◌||◌, Option, Some, None, List, [], ◌∷◌, length, map, filter, refl, ap, sym, subst, ◌∙◌, arith}
use Rattle.std.specs.Prelude.{All, is_some, max, option_map}
use Rattle.std.specs.Cmp.{IsEquivalence}
use Rattle.std.specs.List.{flat_map, list_any, sum_by}
use Rattle.std.specs.Option.{option_map_or, option_or}
use Rattle.std.proofs.Math.Nat.{le-max_left, le-max_right}
use Rattle.std.proofs.lemmas.List.Elements.{All-append, All-cons, All-head, All-nil, All-tail, All-weaker, filter_agree}
use Rattle.std.proofs.lemmas.List.Folds.{list_any-append}
use Rattle.std.proofs.lemmas.List.Sums.{sum_by-append, sum_by-cons, sum_by-le}
use Rattle.std.proofs.lemmas.Bool.{or_right}
use Rattle.rounds_ambiguity.specs.Members.{Member, entry_of, member_at, state_of}
use Rattle.driver_writers.specs.Writing.{Writing}
use Rattle.driver_entries.specs.Entries.{distinct}
use Rattle.driver_entries.proofs.Distinct.{is_in-distinct}
use Rattle.driver_lookup.specs.GoingOn.{rank}
use Rattle.driver_lookup.specs.declared.state.DisambiguateState.{DisambiguateState}
use Rattle.rounds_names.specs.NamedCites.{greatest as greatest_number}
use Rattle.driver_passes.specs.Places.{IsPlace, cite_at}
use Rattle.driver_passes.specs.Renders.{CiteRender, ItemRender, Place}
use Rattle.driver_passes.specs.Request.{Request}
use Rattle.rounds_runs.specs.FirstRenders.{AreBegun}
use Rattle.rounds_runs.specs.RoundMarks.{Mark, cites_entry, greatest_state, has_any}
use Rattle.rounds_runs.specs.Rounds.{StateTable, at_table, entries_cited, no_states, told_by, with_any, with_marks}
use Rattle.rounds_runs.specs.Tables.{form_count, marked_at, marks_at, most_forms, most_rounds}
use Rattle.rounds_runs.specs.declared.mode.RoundMode.{RoundMode}
use Rattle.rounds_runs.proofs.Greatest.{greatest-kept}
use Rattle.rounds_runs.proofs.Higher.{IsHigher, marks-are-higher}
use Rattle.rounds_runs.proofs.Kept.{marks-stand}
use Rattle.rounds_runs.proofs.NameSizes.{HasFew}
use Rattle.rounds_runs.proofs.Ranks.{IsShort, rank-most}
use Rattle.rounds_runs.proofs.Runs.{all-left, all-right}
use Rattle.rounds_runs.proofs.Told.{IsTold, item-known, rows-known, rows-told}
use Rattle.rounds_runs.proofs.Twice.{same-entry}

-- sums that rise
module _ {X : Type 0} (f g : X → ℕ) (q : X → Bool) (up : (x : X) → f x + cond (q x) 1 0 ≤ g x) where
  sum-up : (xs : List X) → sum_by f xs ≤ sum_by g xs
  sum-up [] = omega arith
  sum-up (x ∷ xs) = omega (arith, up x, sum-up xs, sum_by-cons f x xs, sum_by-cons g x xs)

  sum-rises : (xs : List X) → list_any q xs ≡ true → sum_by f xs < sum_by g xs
  sum-rises [] h = cc
  sum-rises (x ∷ xs) h = by (q x) h (up x) (λ k. sum-rises xs k)
    where
      by : (b : Bool) → (b || list_any q xs) ≡ true → f x + cond b 1 0 ≤ g x → (list_any q xs ≡ true → sum_by f xs < sum_by g xs) → sum_by f (x ∷ xs) < sum_by g (x ∷ xs)
      by true h one more = omega (arith, one, sum-up xs, sum_by-cons f x xs, sum_by-cons g x xs)
      by false h one more =
          let rest : sum_by f xs < sum_by g xs = more h in
          omega (arith, one, rest, sum_by-cons f x xs, sum_by-cons g x xs)

any-then : {X : Type 0} (p q : X → Bool) → ((x : X) → p x ≡ true → q x ≡ true) → (xs : List X) → list_any p xs ≡ true → list_any q xs ≡ true
any-then p q h [] e = cc
any-then p q h (x ∷ xs) e = by (p x) refl e (λ k. any-then p q h xs k)
  where
    by : (b : Bool) → p x ≡ b → (b || list_any p xs) ≡ true → (list_any p xs ≡ true → list_any q xs ≡ true) → (q x || list_any q xs) ≡ true
    by true here e more = ap (λ b. b || list_any q xs) (h x here)
    by false here e more = or_right (q x) (list_any q xs) (more e)

all-below : {X : Type 0} (f : X → ℕ) (n : ℕ) (xs : List X) → greatest_number (map f xs) ≤ n → All (λ x. f x ≤ n) xs
all-below f n [] h = All-nil (λ x. f x ≤ n)
all-below f n (x ∷ xs) h =
    let first : f x ≤ max (f x) (greatest_number (map f xs)) = le-max_left (f x) (greatest_number (map f xs)) in
    let others : greatest_number (map f xs) ≤ max (f x) (greatest_number (map f xs)) = le-max_right (f x) (greatest_number (map f xs)) in
    All-cons (λ x. f x ≤ n) x xs (omega (arith, h, first)) (all-below f n xs (omega (arith, h, others)))

module _ {E P : Type 0} (writing : Writing E P) (firsts : List (CiteRender E P)) (begun : AreBegun firsts) where
  abbrev forms_most : ℕ
  forms_most = most_forms firsts

  few-forms : All (λ i. form_count i.first_name ≤ forms_most) (flat_map (λ c. c.items) firsts)
  few-forms = all-below (λ i. form_count i.first_name) forms_most (flat_map (λ c. c.items) firsts) (omega arith)

  module _ (t : StateTable E) where
    abbrev item_state : ItemRender E P → DisambiguateState
    item_state i = i.properties.speculative.disambiguation

    again-state : (r : Request E P) (s : Option DisambiguateState) (i : ItemRender E P) → item_state i ≡ DisambiguateState.None → item_state (with_any writing r s i) ≡ told_by s
    again-state r None i none = none
    again-state r (Some s) i none = refl

    again-forms : (r : Request E P) (s : Option DisambiguateState) (i : ItemRender E P) → (with_any writing r s i).first_name ≡ i.first_name
    again-forms r None i = refl
    again-forms r (Some s) i = refl

    abbrev HasFewForms : ItemRender E P → Type 0
    HasFewForms i = form_count i.first_name ≤ forms_most

    -- its state is that of its entry
    shown : (p : Place) (c : Member E P) → member_at (at_table writing t firsts) p ≡ Some c → state_of c ≡ told_by (t (entry_of c))
    shown p c found = item-known (at_table writing t firsts) (IsTold t) p c (rows-told writing t firsts begun) found

    has-few : ((e : E) → IsShort forms_most (told_by (t e))) → HasFew forms_most (at_table writing t firsts)
    has-few short p c found = (
      subst (IsShort forms_most) (sym (shown p c found)) (short (entry_of c)),
      item-known (at_table writing t firsts) HasFewForms p c
          (rows-known writing t HasFewForms HasFewForms (λ r i few. subst (λ o. form_count o ≤ forms_most) (sym (again-forms r (t i.entry) i)) few) firsts few-forms) found,
    )

  -- the sum of ranks of entries
  abbrev pub ranks : List E → StateTable E → ℕ
  ranks es t = sum_by (λ e. rank forms_most (told_by (t e))) es

  module _ (eq : E → E → Bool) (laws : IsEquivalence eq) where
    -- equal entries have the same state, and no state has too many forms
    pub record IsSound (t : StateTable E) : Type 0 where
      pub even : (x y : E) → eq x y ≡ true → t x ≡ t y
      pub short : (e : E) → IsShort forms_most (told_by (t e))

    pub sound-begun : IsSound no_states
    sound-begun = record { even = λ x y e. refl; short = λ e. omega arith }

    module _ (t : StateTable E) (sound : IsSound t) where
      abbrev now : List (CiteRender E P)
      now = at_table writing t firsts

      abbrev marks : List Mark
      marks = marks_at RoundMode.Full eq writing firsts t

      abbrev marked : StateTable E
      marked = marked_at RoundMode.Full eq writing firsts t

      higher : All (IsHigher forms_most now) marks
      higher = marks-are-higher forms_most now (has-few t sound.short) eq writing

      -- what a mark of an entry raises
      abbrev Raises : E → DisambiguateState → Type 0
      Raises e s = (rank forms_most (told_by (t e)) < rank forms_most s) × IsShort forms_most s

      own : (e : E) (m : Mark) → IsHigher forms_most now m → cites_entry eq now e m.0 ≡ true → Raises e m.1
      own e m h cited = by (member_at now m.0) refl cited
        where
          by : (o : Option (Member E P)) → member_at now m.0 ≡ o → option_map_or (λ c. eq e (entry_of c)) o false ≡ true → Raises e m.1
          by None f c = cc
          by (Some c) f same =
              let high = h c f in
              (subst (λ s. rank forms_most s < rank forms_most m.1) (shown t m.0 c f ∙ ap told_by (sym (sound.even e (entry_of c) same))) high.0, high.1)

      own-all : (e : E) (ms : List Mark) → All (IsHigher forms_most now) ms → All (Raises e) (map (λ m. m.1) (filter (λ m. cites_entry eq now e m.0) ms))
      own-all e [] h = All-nil (Raises e)
      own-all e (m ∷ ms) h = by (cites_entry eq now e m.0) refl (own-all e ms (All-tail (IsHigher forms_most now) m ms h))
        where
          rest : List Mark
          rest = filter (λ m. cites_entry eq now e m.0) ms

          by : (b : Bool) → cites_entry eq now e m.0 ≡ b → All (Raises e) (map (λ m. m.1) rest) → All (Raises e) (map (λ m. m.1) (cond b (m ∷ rest) rest))
          by true c more = All-cons (Raises e) m.1 (map (λ m. m.1) rest) (own e m (All-head (IsHigher forms_most now) m ms h) c) more
          by false c more = more

      raised-by : (e : E) (s : DisambiguateState) → marked e ≡ Some s → Raises e s
      raised-by e s at = greatest-kept (Raises e) (map (λ m. m.1) (filter (λ m. cites_entry eq now e m.0) marks)) (own-all e marks higher) s at

      pub sound-after : IsSound (with_marks marked t)
      sound-after = record { even = even; short = λ e. short e (marked e) refl }
        where
          same-cites : (x y : E) → eq x y ≡ true → (m : Mark) → cites_entry eq now x m.0 ≡ cites_entry eq now y m.0
          same-cites x y e m = by (member_at now m.0)
            where
              by : (o : Option (Member E P)) → option_map_or (λ c. eq x (entry_of c)) o false ≡ option_map_or (λ c. eq y (entry_of c)) o false
              by None = refl
              by (Some c) = laws.congr x y (entry_of c) e

          even : (x y : E) → eq x y ≡ true → with_marks marked t x ≡ with_marks marked t y
          even x y e =
              ap (λ ms. option_or (greatest_state (map (λ m. m.1) ms)) (t x)) (filter_agree (λ m. cites_entry eq now x m.0) (λ m. cites_entry eq now y m.0) (same-cites x y e) marks)
              ∙ ap (option_or (marked y)) (sound.even x y e)

          short : (e : E) (o : Option DisambiguateState) → marked e ≡ o → IsShort forms_most (told_by (option_or o (t e)))
          short e None at = sound.short e
          short e (Some s) at = (raised-by e s at).1

      pub up : (e : E) → rank forms_most (told_by (t e)) + cond (is_some (marked e)) 1 0 ≤ rank forms_most (told_by (with_marks marked t e))
      up e = by (marked e) refl
        where
          by : (o : Option DisambiguateState) → marked e ≡ o → rank forms_most (told_by (t e)) + cond (is_some o) 1 0 ≤ rank forms_most (told_by (option_or o (t e)))
          by None at = omega arith
          by (Some s) at = let high = (raised-by e s at).0 in omega (arith, high)

      -- an entry with a mark, equal ones too
      is-marked : (p : Place) (s : DisambiguateState) (c : Member E P) → member_at now p ≡ Some c → (ms : List Mark) → (e : E) → eq (entry_of c) e ≡ true
          → list_any (λ m. cites_entry eq now e m.0) ((p, s) ∷ ms) ≡ true
      is-marked p s c found ms e same =
          ap (λ b. b || list_any (λ m. cites_entry eq now e m.0) ms) (ap (λ o. option_map_or (λ c. eq e (entry_of c)) o false) found ∙ laws.symm e (entry_of c) ∙ same)

      some-greatest : (q : Mark → Bool) (ms : List Mark) → list_any q ms ≡ true → is_some (greatest_state (map (λ m. m.1) (filter q ms))) ≡ true
      some-greatest q [] h = cc
      some-greatest q (m ∷ ms) h = by (q m) h (λ k. some-greatest q ms k)
        where
          by : (b : Bool) → (b || list_any q ms) ≡ true → (list_any q ms ≡ true → is_some (greatest_state (map (λ m. m.1) (filter q ms))) ≡ true) → is_some (greatest_state (map (λ m. m.1) (cond b (m ∷ filter q ms) (filter q ms)))) ≡ true
          by true h more = refl
          by false h more = more h

      cited-there : (p : Place) (c : Member E P) → member_at now p ≡ Some c → list_any (eq (entry_of c)) (entries_cited firsts) ≡ true
      cited-there p c found =
          item-known now Listed p c
          (rows-known writing t Listed Listed (λ r i h e. h (ap (eq (entry_of c)) (sym (same-entry writing r (t i.entry) i)) ∙ e)) firsts (each-from (entry_of c) firsts))
          found (laws.refl (entry_of c))
        where
          Listed : ItemRender E P → Type 0
          Listed i = eq (entry_of c) i.entry ≡ true → list_any (eq (entry_of c)) (entries_cited firsts) ≡ true

          row-there : (x : E) (items : List (ItemRender E P)) → All (λ i. eq x i.entry ≡ true → list_any (eq x) (map (λ i. i.entry) items) ≡ true) items
          row-there x [] = All-nil (λ i. eq x i.entry ≡ true → list_any (eq x) [] ≡ true)
          row-there x (i ∷ items) =
              All-cons (λ j. eq x j.entry ≡ true → list_any (eq x) (map (λ i. i.entry) (i ∷ items)) ≡ true) i items
              (λ h. ap (λ b. b || list_any (eq x) (map (λ i. i.entry) items)) h)
              (All-weaker (λ j. eq x j.entry ≡ true → list_any (eq x) (map (λ i. i.entry) items) ≡ true) (λ j. eq x j.entry ≡ true → list_any (eq x) (map (λ i. i.entry) (i ∷ items)) ≡ true)
              (λ j h e. or_right (eq x i.entry) (list_any (eq x) (map (λ i. i.entry) items)) (h e)) items (row-there x items))

          each-from : (x : E) (rs : List (CiteRender E P)) → All (λ i. eq x i.entry ≡ true → list_any (eq x) (entries_cited rs) ≡ true) (flat_map (λ c. c.items) rs)
          each-from x [] = All-nil (λ i. eq x i.entry ≡ true → list_any (eq x) [] ≡ true)
          each-from x (r ∷ rs) =
              All-append (λ i. eq x i.entry ≡ true → list_any (eq x) (entries_cited (r ∷ rs)) ≡ true) r.items (flat_map (λ c. c.items) rs)
              (All-weaker (λ j. eq x j.entry ≡ true → list_any (eq x) (map (λ i. i.entry) r.items) ≡ true) (λ j. eq x j.entry ≡ true → list_any (eq x) (entries_cited (r ∷ rs)) ≡ true)
              (λ j h e. list_any-append (eq x) (map (λ i. i.entry) r.items) (entries_cited rs) ∙ ap (λ b. b || list_any (eq x) (entries_cited rs)) (h e)) r.items (row-there x r.items))
              (All-weaker (λ j. eq x j.entry ≡ true → list_any (eq x) (entries_cited rs) ≡ true) (λ j. eq x j.entry ≡ true → list_any (eq x) (entries_cited (r ∷ rs)) ≡ true)
              (λ j h e. list_any-append (eq x) (map (λ i. i.entry) r.items) (entries_cited rs)
              ∙ or_right (list_any (eq x) (map (λ i. i.entry) r.items)) (list_any (eq x) (entries_cited rs)) (h e)) (flat_map (λ c. c.items) rs) (each-from x rs))

      -- in any list that has an entry equal to each that is cited, one gets a mark
      pub one-marked : (es : List E) → ((e : E) → list_any (eq e) (entries_cited firsts) ≡ true → list_any (eq e) es ≡ true) → has_any marks ≡ true → list_any (λ e. is_some (marked e)) es ≡ true
      one-marked es inside any = by marks refl any (marks-stand now RoundMode.Full eq writing)
        where
          by : (ms : List Mark) → marks ≡ ms → has_any ms ≡ true → All (λ m. IsPlace now m.0) ms → list_any (λ e. is_some (marked e)) es ≡ true
          by [] e h all = cc
          by (m ∷ ms) e h all = at (cite_at now m.0) refl (All-head (λ m. IsPlace now m.0) m ms all)
            where
              at : (o : Option (Request E P × ItemRender E P)) → cite_at now m.0 ≡ o → is_some o ≡ true → list_any (λ e. is_some (marked e)) es ≡ true
              at None f g = cc
              at (Some x) f g =
                  let c : Member E P = record { place = m.0; item = x.1; style = x.0.style } in
                  let found : member_at now m.0 ≡ Some c = ap (option_map (λ cite. record { place = m.0; item = cite.1; style = cite.0.style })) f in
                  any-then (eq (entry_of c)) (λ d. is_some (marked d))
                  (λ d same. some-greatest (λ m. cites_entry eq now d m.0) marks (ap (list_any (λ m. cites_entry eq now d m.0)) e ∙ is-marked m.0 m.1 c found ms d same))
                  es (inside (entry_of c) (cited-there m.0 c found))

      -- the sum of ranks rises
      pub ranks-rise : (es : List E) → ((e : E) → list_any (eq e) (entries_cited firsts) ≡ true → list_any (eq e) es ≡ true) → has_any marks ≡ true
          → ranks es t < ranks es (with_marks marked t)
      ranks-rise es inside any =
          sum-rises (λ e. rank forms_most (told_by (t e))) (λ e. rank forms_most (told_by (with_marks marked t e))) (λ e. is_some (marked e)) up es (one-marked es inside any)

    -- and has a bound
    pub ranks-most : (t : StateTable E) → IsSound t → (es : List E) → ranks es t ≤ length es * (3 * forms_most + 3)
    ranks-most t sound es = sum_by-le (λ e. rank forms_most (told_by (t e))) (3 * forms_most + 3) es (each es)
      where
        each : (es : List E) → All (λ e. rank forms_most (told_by (t e)) ≤ 3 * forms_most + 3) es
        each [] = All-nil (λ e. rank forms_most (told_by (t e)) ≤ 3 * forms_most + 3)
        each (e ∷ es) = All-cons (λ e. rank forms_most (told_by (t e)) ≤ 3 * forms_most + 3) e es (rank-most forms_most (told_by (t e)) (sound.short e)) (each es)

    pub in-distinct : (e : E) → list_any (eq e) (entries_cited firsts) ≡ true → list_any (eq e) (distinct eq (entries_cited firsts)) ≡ true
    in-distinct e h = is_in-distinct eq laws e (entries_cited firsts) ∙ h

    -- k rounds have marked
    pub record HaveRisen (k : ℕ) (t : StateTable E) : Type 0 where
      pub sound : IsSound t
      pub least : k ≤ ranks (distinct eq (entries_cited firsts)) t

    pub risen-begun : HaveRisen 0 no_states
    risen-begun = record { sound = sound-begun; least = omega arith }

    module _ (k : ℕ) (t : StateTable E) (so : HaveRisen k t) (any : has_any (marks_at RoundMode.Full eq writing firsts t) ≡ true) where
      abbrev next : StateTable E
      next = with_marks (marked_at RoundMode.Full eq writing firsts t) t

      rises : ranks (distinct eq (entries_cited firsts)) t < ranks (distinct eq (entries_cited firsts)) next
      rises = ranks-rise t so.sound (distinct eq (entries_cited firsts)) in-distinct any

      pub risen-more : HaveRisen (k + 1) next
      risen-more = record { sound = sound-after t so.sound; least = let before = so.least in let higher = rises in omega (arith, before, higher) }

      pub risen-within : k < most_rounds RoundMode.Full eq firsts
      risen-within =
          let before = so.least in
          let higher = rises in
          let most = ranks-most next (sound-after t so.sound) (distinct eq (entries_cited firsts)) in
          omega (arith, before, higher, most)

      -- so do the ranks of all cites
      pub cites-rise : ranks (entries_cited firsts) t < ranks (entries_cited firsts) next
      cites-rise = ranks-rise t so.sound (entries_cited firsts) (λ e h. h) any

      pub cites-most : ranks (entries_cited firsts) next ≤ length (entries_cited firsts) * (3 * forms_most + 3)
      cites-most = ranks-most next (sound-after t so.sound) (entries_cited firsts)

  -- the ranks of the cites as they stand
  abbrev pub cite_ranks : List (CiteRender E P) → ℕ
  cite_ranks rs = sum_by (λ i. rank forms_most i.properties.speculative.disambiguation) (flat_map (λ c. c.items) rs)

  row-ranks : (t : StateTable E) (r : Request E P) (items : List (ItemRender E P)) → All (λ i. i.properties.speculative.disambiguation ≡ DisambiguateState.None) items
      → sum_by (λ i. rank forms_most i.properties.speculative.disambiguation) (map (λ i. with_any writing r (t i.entry) i) items) ≡ ranks (map (λ i. i.entry) items) t
  row-ranks t r [] h = refl
  row-ranks t r (i ∷ items) h =
      let state = λ (i : ItemRender E P). rank forms_most i.properties.speculative.disambiguation in
      let own : state (with_any writing r (t i.entry) i) ≡ rank forms_most (told_by (t i.entry)) =
      ap (rank forms_most) (again-state t r (t i.entry) i (All-head (λ i. i.properties.speculative.disambiguation ≡ DisambiguateState.None) i items h)) in
      sum_by-cons state (with_any writing r (t i.entry) i) (map (λ i. with_any writing r (t i.entry) i) items)
      ∙ (λ j. own j + row-ranks t r items (All-tail (λ i. i.properties.speculative.disambiguation ≡ DisambiguateState.None) i items h) j)
      ∙ sym (sum_by-cons (λ e. rank forms_most (told_by (t e))) i.entry (map (λ i. i.entry) items))

  rows-ranks : (t : StateTable E) (rs : List (CiteRender E P)) → AreBegun rs → cite_ranks (at_table writing t rs) ≡ ranks (entries_cited rs) t
  rows-ranks t [] h = refl
  rows-ranks t (r ∷ rs) h =
      let state = λ (i : ItemRender E P). rank forms_most i.properties.speculative.disambiguation in
      let none = λ (i : ItemRender E P). i.properties.speculative.disambiguation ≡ DisambiguateState.None in
      sum_by-append state (map (λ i. with_any writing r.request (t i.entry) i) r.items) (flat_map (λ c. c.items) (at_table writing t rs))
      ∙ (λ j. row-ranks t r.request r.items (all-left none r.items (flat_map (λ c. c.items) rs) h) j
      + rows-ranks t rs (all-right none r.items (flat_map (λ c. c.items) rs) h) j)
      ∙ sym (sum_by-append (λ e. rank forms_most (told_by (t e))) (map (λ i. i.entry) r.items) (entries_cited rs))

  pub cite-ranks : (t : StateTable E) → cite_ranks (at_table writing t firsts) ≡ ranks (entries_cited firsts) t
  cite-ranks t = rows-ranks t firsts begun
