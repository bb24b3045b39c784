-- A table that has the key of each task has a text for each.
use Rattle.std.proofs.Common.{◌≡◌, ◌||◌, Bool, true, false, List, [], ◌∷◌, ◌++◌, refl, ap, ◌∙◌}
use Rattle.std.specs.Prelude.{All, IsSome}
use Rattle.std.specs.Bool.{if◌then◌else◌}
use Rattle.std.specs.List.{list_any}
use Rattle.std.proofs.lemmas.List.Folds.{list_any-append}
use Rattle.std.proofs.lemmas.List.Elements.{All-cons, All-nil, All-weaker}
use Rattle.ordered_map.specs.Entries.{Entries}
use Rattle.value_sources.specs.Answers.{Answers}
use Rattle.value_sources.specs.Tells.{TellsEqual}
use Rattle.driver_writers.specs.Tasks.{TaskValue}
use Rattle.driver_writers.specs.declared.cite.Cite.{Cite}
use Rattle.host_memo.specs.Keys.{task_key}
use Rattle.host_memo.specs.Memo.{key_noted, keys_noted}
use Rattle.host_memo.specs.Written.{found, key_eq, keys}
use Rattle.host_memo.specs.declared.key.TaskKey.{TaskKey}
use Rattle.host_memo.proofs.Growing.{has_key}

first-passes : (a b : Bool) → a ≡ true → (a || b) ≡ true
first-passes true b e = refl
first-passes false b e = cc

second-passes : (a b : Bool) → b ≡ true → (a || b) ≡ true
second-passes true b e = refl
second-passes false b e = e

-- a key that is noted stays so
stays-by : (q key : TaskKey) (ks : List TaskKey) (b : Bool) → list_any (key_eq q) ks ≡ true → list_any (key_eq q) (if b then ks else ks ++ key ∷ []) ≡ true
stays-by q key ks true e = e
stays-by q key ks false e = list_any-append (key_eq q) ks (key ∷ []) ∙ first-passes _ _ e

module _ (tells : TellsEqual key_eq) where
  -- and one is noted once it was asked for
  noted-by : (key : TaskKey) (ks : List TaskKey) (b : Bool) → list_any (key_eq key) ks ≡ b → list_any (key_eq key) (if b then ks else ks ++ key ∷ []) ≡ true
  noted-by key ks true e = e
  noted-by key ks false e =
      list_any-append (key_eq key) ks (key ∷ []) ∙ second-passes (list_any (key_eq key) ks) _ (first-passes _ false ((tells key key).1 refl))

  module _ {E P : Type 0} (answers : E → Answers) where
    all-stay : (q : TaskKey) (tasks : List (TaskValue E P)) (ks : List TaskKey) → list_any (key_eq q) ks ≡ true → list_any (key_eq q) (keys_noted answers tasks ks) ≡ true
    all-stay q [] ks e = e
    all-stay q (task ∷ tasks) ks e =
        let key = task_key answers task in
        all-stay q tasks (key_noted key ks) (stays-by q key ks (list_any (key_eq key) ks) e)

    all-noted : (tasks : List (TaskValue E P)) (ks : List TaskKey) → All (λ task. list_any (key_eq (task_key answers task)) (keys_noted answers tasks ks) ≡ true) tasks
    all-noted [] ks = All-nil _
    all-noted (task ∷ tasks) ks =
        let key = task_key answers task in
        All-cons (λ other. list_any (key_eq (task_key answers other)) (keys_noted answers tasks (key_noted key ks)) ≡ true) task tasks
        (all-stay key tasks (key_noted key ks) (noted-by key ks (list_any (key_eq key) ks) refl)) (all-noted tasks (key_noted key ks))

    pub all-written : (m : Entries TaskKey Cite) (tasks : List (TaskValue E P)) → keys m ≡ keys_noted answers tasks []
        → All (λ task. IsSome (found m (task_key answers task))) tasks
    all-written m tasks e =
        All-weaker (λ task. list_any (key_eq (task_key answers task)) (keys_noted answers tasks []) ≡ true)
        (λ task. IsSome (found m (task_key answers task)))
        (λ task h. has_key m (task_key answers task) ∙ ap (list_any (key_eq (task_key answers task))) e ∙ h) tasks (all-noted tasks [])
