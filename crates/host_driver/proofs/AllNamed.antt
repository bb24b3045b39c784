-- What a table lacks is named, as far as it is of the earliest stage of all of that.
use Rattle.std.proofs.Common.{◌≡◌, ◌||◌, ◌⊎◌, ℕ, List, [], ◌∷◌, ◌++◌, zero, suc, Bool, true, false, Option, None, refl, ap, sym, subst, ◌∙◌, true≢false, arith, inl, inr}
use Rattle.std.specs.Prelude.{◌<◌, ◌≤◌, All, Contains, is_some}
use Rattle.std.specs.Bool.{if◌then◌else◌}
use Rattle.std.specs.List.{list_any}
use Rattle.std.proofs.lemmas.Bool.{lt-ltb, ltb-false, ltb-true}
use Rattle.std.proofs.lemmas.List.Elements.{All-append, All-cons, All-contains, All-nil, Contains-append_left, Contains-push}
use Rattle.rounds_ambiguity.proofs.Contained.{some-in}
use Rattle.ordered_set.specs.Keys.{with_key}
use Rattle.value_sources.specs.Answers.{Answers}
use Rattle.value_sources.specs.Tells.{TellsEqual}
use Rattle.host_memo.specs.Keys.{stage, task_key}
use Rattle.host_memo.specs.Written.{key_eq}
use Rattle.host_driver.specs.Table.{IsMissingOf, is_earlier, is_later, kept_beside, note_once}
use Rattle.host_memo.specs.declared.key.TaskKey.{TaskKey}
use Rattle.driver_writers.specs.Tasks.{TaskValue}
use Rattle.driver_writers.specs.Writing.{noted_all}
use Rattle.driver_writers.specs.declared.cite.Cite.{Cite}

-- the stage of what is named first
abbrev first_stage : List TaskKey → ℕ
first_stage [] = 0
first_stage (first ∷ rest) = stage first

-- all that is named is of one stage
abbrev AreOfOneStage : List TaskKey → Type 0
AreOfOneStage notes = All (λ key. stage key ≡ first_stage notes) notes

-- it is named, or something of an earlier stage is
abbrev IsCovered : List TaskKey → TaskKey → Type 0
IsCovered notes key = Contains notes key ⊎ (is_later notes key ≡ true)

-- one more is named
abbrev noted_if : Bool → TaskKey → List TaskKey → List TaskKey
noted_if skipped key notes = if skipped then notes else with_key key_eq (kept_beside key notes) key

not-contained : (k : TaskKey) → Contains [] k → ⊥
not-contained k (i, lt, e) = omega (arith, lt)

alone : (key : TaskKey) → AreOfOneStage (key ∷ [])
alone key = All-cons (λ k. stage k ≡ stage key) key [] refl (All-nil (λ k. stage k ≡ stage key))

-- what is added is of the stage of the others
one-stage-inserted : (notes : List TaskKey) (key : TaskKey) (earlier : Bool) → is_earlier notes key ≡ earlier → is_later notes key ≡ false
    → AreOfOneStage notes → AreOfOneStage (with_key key_eq (if earlier then [] else notes) key)
one-stage-inserted notes key true e l h = alone key
one-stage-inserted [] key false e l h = alone key
one-stage-inserted (n ∷ notes) key false e l h = by (list_any (key_eq key) (n ∷ notes))
  where
    same : stage key ≡ stage n
    same =
        let above = ltb-false (stage key) (stage n) e in
        let below = ltb-false (stage n) (stage key) l in
        omega (arith, above, below)

    by : (b : Bool) → AreOfOneStage (if b then n ∷ notes else (n ∷ notes) ++ key ∷ [])
    by true = h
    by false =
        let P = λ (k : TaskKey). stage k ≡ stage n in
        All-append P (n ∷ notes) (key ∷ []) h (All-cons P key [] same (All-nil P))

one-stage : (notes : List TaskKey) (key : TaskKey) (skipped : Bool) → (skipped ≡ false → is_later notes key ≡ false)
    → AreOfOneStage notes → AreOfOneStage (noted_if skipped key notes)
one-stage notes key true early h = h
one-stage notes key false early h = one-stage-inserted notes key (is_earlier notes key) refl (early refl) h

-- what is covered stays so where something is added
covered-inserted : (notes : List TaskKey) (key k : TaskKey) (earlier : Bool) → is_earlier notes key ≡ earlier
    → AreOfOneStage notes → IsCovered notes k → IsCovered (with_key key_eq (if earlier then [] else notes) key) k
covered-inserted [] key k earlier e h (inl c) = absurd (not-contained k c)
covered-inserted [] key k earlier e h (inr l) = absurd (true≢false (sym l))
covered-inserted (n ∷ notes) key k true e h (inl c) =
    let same = All-contains (λ (t : TaskKey). stage t ≡ stage n) (n ∷ notes) k h c in
    let before = ltb-true (stage key) (stage n) e in
    let bound : stage key < stage k = omega (arith, same, before) in
    inr (lt-ltb (stage key) (stage k) bound)
covered-inserted (n ∷ notes) key k true e h (inr l) =
    let before = ltb-true (stage key) (stage n) e in
    let behind = ltb-true (stage n) (stage k) l in
    let bound : stage key < stage k = omega (arith, before, behind) in
    inr (lt-ltb (stage key) (stage k) bound)
covered-inserted (n ∷ notes) key k false e h (inl c) = by (list_any (key_eq key) (n ∷ notes))
  where
    by : (b : Bool) → IsCovered (if b then n ∷ notes else (n ∷ notes) ++ key ∷ []) k
    by true = inl c
    by false = inl (Contains-append_left (n ∷ notes) (key ∷ []) k c)
covered-inserted (n ∷ notes) key k false e h (inr l) = by (list_any (key_eq key) (n ∷ notes))
  where
    by : (b : Bool) → IsCovered (if b then n ∷ notes else (n ∷ notes) ++ key ∷ []) k
    by true = inr l
    by false = inr l

covered-stays : (notes : List TaskKey) (key k : TaskKey) (skipped : Bool) → AreOfOneStage notes → IsCovered notes k → IsCovered (noted_if skipped key notes) k
covered-stays notes key k true h c = c
covered-stays notes key k false h c = covered-inserted notes key k (is_earlier notes key) refl h c

-- what is added is there
is-there : TellsEqual key_eq → (notes : List TaskKey) (key : TaskKey) → Contains (with_key key_eq notes key) key
is-there tells notes key = by (list_any (key_eq key) notes) refl
  where
    by : (b : Bool) → list_any (key_eq key) notes ≡ b → Contains (if b then notes else notes ++ key ∷ []) key
    by true e =
        let found = some-in (key_eq key) notes e in
        subst (Contains notes) (sym ((tells key found.0).0 found.2)) found.1
    by false e = Contains-push notes key

module _ {E P : Type 0} (table : TaskKey → Option Cite) (answers : E → Answers) where
  abbrev noting : TaskValue E P → List TaskKey → List TaskKey
  noting task = note_once table (task_key answers task)

  one-stage-more : (task : TaskValue E P) (notes : List TaskKey) → AreOfOneStage notes → AreOfOneStage (noting task notes)
  one-stage-more task notes =
      let key = task_key answers task in
      one-stage notes key (is_some (table key) || is_later notes key) (early (is_some (table key)) (is_later notes key))
    where
      early : (has later : Bool) → has || later ≡ false → later ≡ false
      early true later e = absurd (true≢false e)
      early false later e = e

  all-one-stage : (asked : List (TaskValue E P)) (notes : List TaskKey) → AreOfOneStage notes → AreOfOneStage (noted_all noting asked notes)
  all-one-stage [] notes h = h
  all-one-stage (task ∷ asked) notes h = all-one-stage asked (noting task notes) (one-stage-more task notes h)

  all-covered-stay : (asked : List (TaskValue E P)) (notes : List TaskKey) (k : TaskKey) → AreOfOneStage notes → IsCovered notes k
      → IsCovered (noted_all noting asked notes) k
  all-covered-stay [] notes k h c = c
  all-covered-stay (task ∷ asked) notes k h c =
      let key = task_key answers task in
      all-covered-stay asked (noting task notes) k (one-stage-more task notes h)
      (covered-stays notes key k (is_some (table key) || is_later notes key) h c)

  module _ (tells : TellsEqual key_eq) where
    -- what is lacked is covered once it is asked for
    covered-here : (task : TaskValue E P) (notes : List TaskKey) → table (task_key answers task) ≡ None → IsCovered (noting task notes) (task_key answers task)
    covered-here task notes lacked = by (is_later notes key) refl
      where
        key : TaskKey
        key = task_key answers task

        here : (b : Bool) → is_later notes key ≡ b → noting task notes ≡ noted_if b key notes
        here b e = ap (λ o. noted_if (is_some o || is_later notes key) key notes) lacked ∙ ap (λ l. noted_if l key notes) e

        by : (b : Bool) → is_later notes key ≡ b → IsCovered (noting task notes) key
        by true e = inr (subst (λ ns. is_later ns key ≡ true) (sym (here true e)) e)
        by false e = inl (subst (λ ns. Contains ns key) (sym (here false e)) (is-there tells (kept_beside key notes) key))

    covered-among : (task : TaskValue E P) (asked : List (TaskValue E P)) (notes : List TaskKey) → AreOfOneStage notes → Contains asked task
        → table (task_key answers task) ≡ None → IsCovered (noted_all noting asked notes) (task_key answers task)
    covered-among task [] notes h (k, lt, e) lacked = absurd (omega (arith, lt))
    covered-among task (first ∷ asked) notes h (zero, lt, e) lacked =
        subst (λ t. table (task_key answers t) ≡ None → IsCovered (noted_all noting (first ∷ asked) notes) (task_key answers t)) e
        (λ none. all-covered-stay asked (noting first notes) (task_key answers first) (one-stage-more first notes h) (covered-here first notes none)) lacked
    covered-among task (first ∷ asked) notes h (suc k, lt, e) lacked =
        covered-among task asked (noting first notes) (one-stage-more first notes h) (k, omega (arith, lt), e) lacked

  module _ (asked : List (TaskValue E P)) (new : List TaskKey) (noted : new ≡ noted_all noting asked []) (tells : TellsEqual key_eq) where
    of-one-stage : AreOfOneStage new
    of-one-stage = subst AreOfOneStage (sym noted) (all-one-stage asked [] (All-nil (λ key. stage key ≡ 0)))

    covered : (key : TaskKey) → IsMissingOf table answers asked key → IsCovered new key
    covered key missing =
        subst (IsCovered new) (sym missing.is)
        (subst (λ ns. IsCovered ns (task_key answers missing.task)) (sym noted)
        (covered-among tells missing.task asked [] (All-nil (λ k. stage k ≡ 0)) missing.among (ap table (sym missing.is) ∙ missing.lacked)))

    -- nothing that is lacked is of an earlier stage than what is named
    pub earliest : (key : TaskKey) → IsMissingOf table answers asked key → All (λ named. stage named ≤ stage key) new
    earliest key missing = λ k d lt. below new (covered key missing) of-one-stage k d lt
      where
        below : (notes : List TaskKey) → IsCovered notes key → AreOfOneStage notes → All (λ named. stage named ≤ stage key) notes
        below notes (inl c) one =
            let same = All-contains (λ (t : TaskKey). stage t ≡ first_stage notes) notes key one c in
            λ k d lt. let here = one k d lt in omega (arith, here, same)
        below [] (inr l) one = All-nil (λ named. stage named ≤ stage key)
        below (n ∷ notes) (inr l) one =
            let behind = ltb-true (stage n) (stage key) l in
            λ k d lt. let here = one k d lt in omega (arith, here, behind)

    -- what is lacked is named where it is of the stage of what is
    pub all-named : (key : TaskKey) → IsMissingOf table answers asked key → All (λ named. stage key ≤ stage named) new → Contains new key
    all-named key missing = by new (covered key missing)
      where
        by : (notes : List TaskKey) → IsCovered notes key → All (λ named. stage key ≤ stage named) notes → Contains notes key
        by notes (inl c) early = c
        by [] (inr l) early = absurd (true≢false (sym l))
        by (n ∷ notes) (inr l) early =
            let behind = ltb-true (stage n) (stage key) l in
            let first = early 0 n (omega arith) in
            absurd (omega (arith, behind, first))
