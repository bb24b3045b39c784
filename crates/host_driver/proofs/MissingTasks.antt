-- What is noted of what a table lacks.
use Rattle.std.proofs.Common.{◌≡◌, ◌||◌, List, [], ◌∷◌, ◌++◌, length, Bool, true, false, Option, Some, None, refl, sym, subst, ◌∙◌, arith}
use Rattle.std.specs.Prelude.{◌==◌, All, Contains, IsSome, is_some}
use Rattle.std.specs.Bool.{if◌then◌else◌}
use Rattle.std.specs.List.{list_any}
use Rattle.std.proofs.lemmas.List.Elements.{All-append, All-cons, All-nil, Contains-append_right}
use Rattle.std.proofs.lemmas.Bool.{eqb-true}
use Rattle.ordered_set.specs.Keys.{with_key}
use Rattle.value_sources.specs.Answers.{Answers}
use Rattle.host_memo.specs.Keys.{task_key}
use Rattle.host_memo.specs.Written.{key_eq}
use Rattle.host_driver.specs.Table.{IsMissingOf, is_earlier, is_later, kept_beside, note_once}
use Rattle.host_memo.specs.declared.key.TaskKey.{TaskKey}
use Rattle.driver_writers.specs.Tasks.{TaskValue}
use Rattle.driver_writers.specs.Writing.{noted_all}
use Rattle.driver_writers.specs.declared.cite.Cite.{Cite}

-- where the notes stay empty only by what is there, all is there
none-noted : {A N : Type 0} (noting : A → List N → List N) (Has : A → Type 0) (step : (a : A) (notes : List N) → noting a notes ≡ [] → (notes ≡ []) × Has a)
    (asked : List A) (notes : List N) → noted_all noting asked notes ≡ [] → (notes ≡ []) × All Has asked
none-noted noting Has step [] notes e = (e, All-nil Has)
none-noted noting Has step (a ∷ asked) notes e =
    let rest = none-noted noting Has step asked (noting a notes) e in
    let here = step a notes rest.0 in
    (here.0, All-cons Has a asked here.1 rest.1)

-- what holds of each note that is taken holds of all
all-noted : {A N : Type 0} (noting : A → List N → List N) (P : N → Type 0) (whole : List A) (step : (a : A) (notes : List N) → Contains whole a → All P notes → All P (noting a notes))
    (asked : List A) (notes : List N) → ((a : A) → Contains asked a → Contains whole a) → All P notes → All P (noted_all noting asked notes)
all-noted noting P whole step [] notes within h = h
all-noted {A} noting P whole step (a ∷ asked) notes within h =
    let first : Contains (a ∷ asked) a = (0, omega arith, refl) in
    all-noted noting P whole step asked (noting a notes) (λ b i. within b (Contains-append_right (a ∷ []) asked b i)) (step a notes (within a first) h)

-- with one more there is always something
not-empty : (b : Bool) (key : TaskKey) (notes : List TaskKey) → list_any (key_eq key) notes ≡ b → (if b then notes else notes ++ key ∷ []) ≡ [] → ⊥
not-empty true key [] found e = cc
not-empty true key (n ∷ notes) found e = cc
not-empty false key [] found e = cc
not-empty false key (n ∷ notes) found e = cc

inserted-not-empty : (key : TaskKey) (notes : List TaskKey) → with_key key_eq notes key ≡ [] → ⊥
inserted-not-empty key notes e = not-empty (list_any (key_eq key) notes) key notes refl e

-- a note that leaves nothing noted is of something that is there
once-none : (o : Option Cite) (later : Bool) (key : TaskKey) (notes : List TaskKey) → is_later notes key ≡ later
    → (if is_some o || later then notes else with_key key_eq (kept_beside key notes) key) ≡ [] → (notes ≡ []) × IsSome o
once-none (Some c) later key notes l e = (e, refl)
once-none None true key [] l e = cc
once-none None true key (n ∷ notes) l e = cc
once-none None false key notes l e = absurd (inserted-not-empty key (kept_beside key notes) e)

added : (P : TaskKey → Type 0) (b : Bool) (key : TaskKey) (notes : List TaskKey) → P key → All P notes → All P (if b then notes else notes ++ key ∷ [])
added P true key notes p h = h
added P false key notes p h = All-append P notes (key ∷ []) h (All-cons P key [] p (All-nil P))

kept : (P : TaskKey → Type 0) (earlier : Bool) (notes : List TaskKey) → All P notes → All P (if earlier then [] else notes)
kept P true notes h = All-nil P
kept P false notes h = h

once-all : (P : TaskKey → Type 0) (o : Option Cite) (later : Bool) (key : TaskKey) (notes : List TaskKey) → (o ≡ None → P key) → All P notes
    → All P (if is_some o || later then notes else with_key key_eq (kept_beside key notes) key)
once-all P (Some c) later key notes p h = h
once-all P None true key notes p h = h
once-all P None false key notes p h =
    let rest = kept_beside key notes in
    added P (list_any (key_eq key) rest) key rest (p refl) (kept P (is_earlier notes key) notes h)

module _ {E P : Type 0} (table : TaskKey → Option Cite) (answers : E → Answers) (asked : List (TaskValue E P)) (new : List TaskKey)
    (noted : new ≡ noted_all (λ task. note_once table (task_key answers task)) asked []) where
  -- where nothing was noted, all that was asked for is there
  pub all-there : new ≡ [] → All (λ task. IsSome (table (task_key answers task))) asked
  all-there none =
      (none-noted (λ task. note_once table (task_key answers task)) (λ task. IsSome (table (task_key answers task)))
      (λ task notes. once-none (table (task_key answers task)) (is_later notes (task_key answers task)) (task_key answers task) notes refl) asked [] (sym noted ∙ none)).1

  -- what was noted was asked for, and is lacked
  pub all-missing : All (IsMissingOf table answers asked) new
  all-missing =
      subst (All (IsMissingOf table answers asked)) (sym noted)
      (all-noted (λ task. note_once table (task_key answers task)) (IsMissingOf table answers asked) asked
      (λ task notes i. once-all (IsMissingOf table answers asked) (table (task_key answers task)) (is_later notes (task_key answers task)) (task_key answers task) notes
      (λ e. record { task = task; among = i; is = refl; lacked = e }))
      asked [] (λ task i. i) (All-nil (IsMissingOf table answers asked)))

pub empty : (ks : List TaskKey) → (length ks == 0) ≡ true → ks ≡ []
empty [] e = refl
empty (k ∷ ks) e = let bad : length (k ∷ ks) ≡ 0 = eqb-true (length (k ∷ ks)) 0 e in absurd (omega (arith, bad))

pub clash : {b : Bool} → b ≡ true → b ≡ false → ⊥
clash t f = cc
